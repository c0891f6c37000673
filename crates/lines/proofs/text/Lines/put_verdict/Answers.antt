use borrow.Author.Tests.{eq-eqb, ne_eqb}
use Rattle.listing.specs.Text.{verdict}
use Rattle.lines.proofs.Writing.{◌then◌}
use Rattle.lines.proofs.text.Lines.put_verdict.Goals as goal

pub returns-then-found-expected : goal.returns-then-found-expected
unfolding verdict
returns-then-found-expected c =
    simp (eq-eqb _ _ c.if-found-expected.true) c.put.ensures

pub returns-else-found-expected : goal.returns-else-found-expected
unfolding verdict
returns-else-found-expected c =
    simp (ne_eqb _ _ c.if-found-expected.false)
    (c.put-else-found-expected.ensures
    then c.put_hex.ensures
    then c.put-else-found-expected-2.ensures)
