use Rattle.listing.specs.Summary.{differs_line}
use Rattle.lines.proofs.Writing.{◌then◌}
use Rattle.lines.proofs.text.Lines.put_differs.Goals as goal

pub returns : goal.returns
unfolding differs_line
returns c =
    c.put_counted.ensures
    then c.put_counted-2.ensures
    then c.put_counted-3.ensures
    then c.put_counted-4.ensures
    then c.put.ensures
