use borrow.Author.Tests.{leb-true}
use Rattle.std.proofs.Common.{sym, ◌∙◌}
use Rattle.listing.specs.Text.{found_line}
use Rattle.lines.proofs.Writing.{◌then◌, past}
use Rattle.lines.proofs.text.Lines.put_found.Goals as goal

pub returns-then-is_full : goal.returns-then-is_full
returns-then-is_full c =
    past c.args.self.now _ (leb-true _ _ (sym c.is_full.ensures ∙ c.if-is_full.true))

pub returns : goal.returns
unfolding found_line
returns c =
    c.put.ensures
    then c.put_hex8.ensures
    then c.put-2.ensures
    then c.put_hex.ensures
    then c.put_verdict.ensures
