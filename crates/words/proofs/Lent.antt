-- The same three references, again: by no step, and by two; and what was lent, given back.
use Prim.Native.Nat.{ℕ}
use mathlib.Core.Path.{◌≡◌, refl, sym, subst, ◌∙◌}
use mathlib.Core.List.{List}
use Rattle.words.specs.declared.memory.Lent.{Lent}
use Rattle.words.specs.Memory.{Memory, memory}
use Rattle.words.specs.Lent.{lent, SameLent}

pub same_refl : (m : Lent) → SameLent m m
same_refl m = record { rdram = refl; dmem = refl; imem = refl }

pub same_trans : {m n k : Lent} → SameLent m n → SameLent n k → SameLent m k
same_trans p q =
    record { rdram = q.rdram ∙ p.rdram; dmem = q.dmem ∙ p.dmem; imem = q.imem ∙ p.imem }

-- What holds of the bytes that a call left behind the three references holds of the three slices
-- that were lent for it
pub given_back : (P : Memory → Type 0) (m : Lent) {rdram dmem imem : List ℕ} → P (lent m)
    → rdram ≡ m.rdram.now → dmem ≡ m.dmem.now → imem ≡ m.imem.now → P (memory rdram dmem imem)
given_back P m {rdram} {dmem} {imem} p r d i =
    subst (λ x. P (memory x dmem imem)) (sym r)
    (subst (λ x. P (memory m.rdram.now x imem)) (sym d)
    (subst (λ x. P (memory m.rdram.now m.dmem.now x)) (sym i) p))
