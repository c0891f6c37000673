use Rattle.listing.specs.Summary.{passed_line}
use Rattle.lines.proofs.Writing.{◌then◌}
use Rattle.lines.proofs.text.Lines.put_passed.Goals as goal

pub returns : goal.returns
unfolding passed_line
returns c =
    c.put_counted.ensures
    then c.put.ensures
