use Rattle.listing.specs.Text.{stop_line}
use Rattle.lines.proofs.Writing.{◌then◌}
use Rattle.lines.proofs.text.Lines.put_stop.Goals as goal

pub returns : goal.returns
unfolding stop_line
returns c =
    c.put.ensures
    then c.put_decimal.ensures
    then c.put-2.ensures
    then c.put_decimal-2.ensures
    then c.put-3.ensures
    then c.put_decimal-3.ensures
    then c.put-4.ensures
