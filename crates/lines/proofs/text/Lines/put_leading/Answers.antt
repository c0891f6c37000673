use borrow.Author.Tests.{eq-eqb, ne_eqb}
use Rattle.listing.specs.Text.{leading}
use Rattle.lines.proofs.Writing.{nothing}
use Rattle.lines.proofs.text.Lines.put_leading.Goals as goal

pub returns-then-n-ne0 : goal.returns-then-n-ne0
unfolding leading
returns-then-n-ne0 c =
    simp (ne_eqb _ _ c.if-n-ne0.true) (rw c.digit.ensures at c.put_byte.ensures)

pub returns-else-n-ne0 : goal.returns-else-n-ne0
unfolding leading
returns-else-n-ne0 c = simp (eq-eqb _ _ c.if-n-ne0.false) (nothing c.args.self.now)
