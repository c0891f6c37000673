use Rattle.listing.specs.Text.{end_line}
use Rattle.lines.proofs.Writing.{◌then◌}
use Rattle.lines.proofs.text.Lines.put_end.Goals as goal

pub returns : goal.returns
unfolding end_line
returns c =
    c.put.ensures
    then c.put_decimal.ensures
    then c.put-2.ensures
