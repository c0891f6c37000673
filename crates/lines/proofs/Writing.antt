-- Texts written one after another by a cursor.
use Rattle.std.proofs.Common.{◌≡◌, ℕ, ◌≤◌, min, List, [], ◌++◌, length}
use Rattle.std.proofs.Common.{refl, ◌∙◌, arith}
use Rattle.listing.specs.Put.{Put}
use Rattle.listing.proofs.Putting as putting
use Rattle.lines.specs.declared.text.Lines.{Lines}
use Rattle.lines.specs.Wrote.{Wrote}

infixl 20 ◌then◌
-- A text after a text
pub ◌then◌ : {a b c : Lines} {s t : List ℕ} → Wrote s a b → Wrote t b c → Wrote (s ++ t) a c
p then q = record { same_buffer = q.same_buffer ∙ p.same_buffer; put = putting.◌then◌ p.put q.put }

-- No text
pub nothing : (a : Lines) → Wrote [] a a
nothing a =
    record { same_buffer = refl; put = putting.nothing a.out.now a.at a.at (omega (arith, a.inside)) }

-- A text for which there is no room
pub past : (a : Lines) (t : List ℕ) → length a.out.now ≤ a.at → Wrote t a a
past a t h =
    record {
      same_buffer = refl;
      put = putting.at_end a.out.now a.at t (omega (arith, h, a.inside));
    }

-- The first text of a cursor that began at any place, past the buffer's end too
pub begun : (at : ℕ) {a b : Lines} {d t : List ℕ} → a.out.now ≡ d → a.at ≡ min at (length d)
    → Wrote t a b → Put d at t b.out.now b.at
begun at {a} {d = d} {t = t} bytes place w =
    putting.held d at a.at t place (rw (← bytes) w.put)

-- And of one that began at the buffer's start
pub first : {a b : Lines} {d t : List ℕ} → a.out.now ≡ d → a.at ≡ min 0 (length d) → Wrote t a b
    → Put d 0 t b.out.now b.at
first bytes place w = begun 0 bytes place w
