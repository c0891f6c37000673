use Prim.Native.Nat.{◌%◌}
use mathlib.Core.Path.{◌∙◌}
use native.Mathlib.Nat.{mod-add-mod, add-mod-mod}
use borrow.Author.Tests.{ne_eqb}
use Rattle.words.proofs.fields.add_within.Goals as goal

pub returns : goal.returns
returns g c =
    let a = c.args in
    let size = g.row.SIZE in
    simp (ne_eqb _ _ c.if-this-eq0.false)
    (add-mod-mod (a.a % size) a.n size ∙ mod-add-mod a.a size a.n)
