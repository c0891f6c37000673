use Rattle.listing.specs.Summary.{refused_line}
use Rattle.lines.proofs.Writing.{◌then◌}
use Rattle.lines.proofs.text.Lines.put_refused.Goals as goal

pub returns : goal.returns
unfolding refused_line
returns c =
    c.put_refused_at.ensures
    then c.put.ensures
    then rw c.reason.ensures at c.put-2.ensures
    then c.put_counted.ensures
    then c.put-3.ensures
