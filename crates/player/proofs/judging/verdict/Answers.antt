use Rattle.playback.proofs.Judging.{verdict_given}
use Rattle.player.proofs.judging.verdict.Goals as goal

pub returns : goal.returns
returns c = verdict_given c.judged.ensures
