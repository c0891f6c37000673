use Rattle.lines.proofs.Writing.{◌then◌}
use Rattle.lines.proofs.text.Lines.put_counted.Goals as goal

pub returns : goal.returns
returns c = c.put.ensures then c.put_decimal.ensures
