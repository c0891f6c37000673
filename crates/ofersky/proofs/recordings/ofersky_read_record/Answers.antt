use mathlib.Core.Path.{ap}
use Rattle.host.specs.Records.{reading_handed}
use Rattle.ofersky.proofs.recordings.ofersky_read_record.Goals as goal

pub returns-in-Ok-clause-reading : goal.returns-in-Ok-clause-reading
unfolding reading_handed
returns-in-Ok-clause-reading c = rw c.fields_of.ensures (ap reading_handed c.in-Ok.ensures.reading)

pub returns-in-Err-clause-reading : goal.returns-in-Err-clause-reading
unfolding reading_handed
returns-in-Err-clause-reading c =
    rw (c.fields_of-in-Err.ensures, c.into.ensures) (ap reading_handed c.in-Err.ensures.reading)
