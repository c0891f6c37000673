use mathlib.Core.Path.{◌∙◌}
use Rattle.writer.proofs.Filled.{four_copied}
use Rattle.writer.proofs.bytes.put_four.Goals as goal

pub returns-then-at-part : goal.returns-then-at-part
returns-then-at-part c =
    let a = c.args in
    four_copied a.part.now a.at a.v (c.copy_from_slice.ensures.after ∙ c.to_be_bytes.ensures)
    c.if-at-part.true
