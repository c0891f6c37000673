use Rattle.listing.specs.Text.{decimal}
use Rattle.lines.proofs.Writing.{◌then◌}
use Rattle.lines.proofs.text.Lines.put_decimal.Goals as goal

pub returns : goal.returns
unfolding decimal
returns c =
    c.put_leading.ensures
    then c.put_leading-2.ensures
    then c.put_leading-3.ensures
    then c.put_leading-4.ensures
    then rw c.digit.ensures at c.put_byte.ensures
