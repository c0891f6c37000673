-- Texts written one after another, and a text written from the buffer's start on.
use Prim.Native.Nat.{ℕ, suc, ◌+◌, ◌-◌, ◌≤◌, min}
use mathlib.Core.Path.{◌≡◌, refl, sym, ap, ◌∙◌}
use mathlib.Core.Bool.{Bool, true, false}
use mathlib.Core.List.{List, [], ◌∷◌, ◌++◌}
use native.Mathlib.Nat.{add-zero}
use native.Mathlib.Omega.{arith}
use lib.Dec.{leb}
use lib.ListN.{length, set, take, drop, length-append}
use lib.Seq.{sets, length-sets, set_out, take_all, take-append_seam, drop-append_seam, drop-nil}
use lib.Seq.{length-take-le}
use borrow.Author.Tests.{leb-true, leb-false}
use Rattle.std.proofs.lemmas.List.{take-append-drop}
use Rattle.words.proofs.Bytes.{sets_append, part_set}
use Rattle.listing.specs.Put.{Put}

-- ---- A run of stores

-- At or past the end there is no room for a byte
sets_past : (d : List ℕ) (i : ℕ) (t : List ℕ) → length d ≤ i → sets d i t ≡ d
sets_past d i [] h = refl
sets_past d i (a ∷ t) h = rw (set_out d i a h) (sets_past d (suc i) t (omega arith))

-- A place that was held back at the end takes the same bytes
sets_held : (d : List ℕ) (i j : ℕ) (t : List ℕ) → j ≡ min i (length d) → sets d j t ≡ sets d i t
sets_held d i j t e = at (leb i (length d)) refl
  where
    at : (b : Bool) → leb i (length d) ≡ b → sets d j t ≡ sets d i t
    at true h = let same : j ≡ i = omega (arith, leb-true i (length d) h) in rw same
    at false h = sets_past d j t (omega (arith, leb-false i (length d) h)) ∙ sym (sets_past d i t (omega (arith, leb-false i (length d) h)))

-- Bytes past the end are dropped: those that find room are the whole of it
sets_room : (d t : List ℕ) (i n : ℕ) → i ≤ length d → n ≡ min (length t) (length d - i)
    → sets d i (take n t) ≡ sets d i t
sets_room d t i n h e = at (leb (length t) (length d - i)) refl
  where
    at : (b : Bool) → leb (length t) (length d - i) ≡ b → sets d i (take n t) ≡ sets d i t
    at true k =
        let all : n ≡ length t = omega (arith, e, leb-true (length t) (length d - i) k) in
        ap (λ (l : List ℕ). sets d i l) (take_all n t (omega arith))
    at false k =
        let less = leb-false (length t) (length d - i) k in
        let size : length (take n t) ≡ n = length-take-le n t (omega (arith, e)) in
        let full : length (sets d i (take n t)) ≤ i + length (take n t) =
        omega (arith, length-sets d i (take n t), size, e, less, h) in
        sym (sets_past (sets d i (take n t)) (i + length (take n t)) (drop n t) full)
        ∙ sym (sets_append d i (take n t) (drop n t))
        ∙ ap (λ (l : List ℕ). sets d i l) (take-append-drop n t)

-- As much of a text as finds room, copied over as many bytes
pub copied : (d t ys : List ℕ) (i n : ℕ) → i ≤ length d → n ≡ min (length t) (length d - i)
    → ys ≡ take n t → take i d ++ (ys ++ drop (i + n - i) (drop i d)) ≡ sets d i t
copied d t ys i n h e same =
    let size : length ys ≡ n = ap length same ∙ length-take-le n t (omega (arith, e)) in
    part_set d ys i (i + n) (omega arith) (omega (arith, e, h)) (omega (arith, size))
    ∙ ap (λ (l : List ℕ). sets d i l) same ∙ sets_room d t i n h e

-- ---- Texts one after another

pub put_length : {d t d' : List ℕ} {at r : ℕ} → Put d at t d' r → length d' ≡ length d
put_length {d} {t} {d'} {at} p = ap length p.bytes ∙ length-sets d at t

infixl 20 ◌then◌
-- A text after a text
pub ◌then◌ : {d d' d'' : List ℕ} {at r r' : ℕ} {s t : List ℕ} → Put d at s d' r → Put d' r t d'' r' → Put d at (s ++ t) d'' r'
◌then◌ {d} {d'} {d''} {at} {r} {r'} {s} {t} p q =
    record {
      place = omega (arith, p.place, q.place, put_length p, length-append s t);
      bytes =
          q.bytes
          ∙ ap (λ (l : List ℕ). sets l r t) p.bytes
          ∙ sets_held (sets d at s) (at + length s) r t (p.place ∙ ap (λ (n : ℕ). min (at + length s) n) (sym (length-sets d at s)))
          ∙ sym (sets_append d at s t);
    }

-- No text, at a place that may lie past the end
pub nothing : (d : List ℕ) (at r : ℕ) → r ≡ min at (length d) → Put d at [] d r
nothing d at r e = record { place = rw add-zero e; bytes = refl }

-- No byte of a text, at the buffer's end
pub at_end : (d : List ℕ) (at : ℕ) (t : List ℕ) → at ≡ length d → Put d at t d at
at_end d at t e =
    record {
      place = omega (arith, e);
      bytes = sym (sets_past d at t (omega (arith, e)));
    }

-- A text at the buffer's end is one at any place past it
pub held : (d : List ℕ) (at j : ℕ) (t : List ℕ) {d' : List ℕ} {r : ℕ} → j ≡ min at (length d)
    → Put d j t d' r → Put d at t d' r
held d at j t e p =
    record { place = omega (arith, e, p.place); bytes = p.bytes ∙ sets_held d at j t e }

-- ---- From the start on

sets_nil : (i : ℕ) (t : List ℕ) → sets [] i t ≡ []
sets_nil i [] = refl
sets_nil i (a ∷ t) = sets_nil (suc i) t

sets_cons : (x : ℕ) (d : List ℕ) (i : ℕ) (t : List ℕ) → sets (x ∷ d) (suc i) t ≡ x ∷ sets d i t
sets_cons x d i [] = refl
sets_cons x d i (a ∷ t) = sets_cons x (set d i a) (suc i) t

sets_start : (d t : List ℕ) → sets d 0 t ≡ take (length d) t ++ drop (length t) d
sets_start [] t = sets_nil 0 t ∙ sym (drop-nil (length t))
sets_start (x ∷ d) [] = refl
sets_start (x ∷ d) (a ∷ t) = sets_cons a d 0 t ∙ ap (λ (l : List ℕ). a ∷ l) (sets_start d t)

-- As much of the text as has room, and after it the bytes that were there
pub from_start : {d t d' : List ℕ} {r : ℕ} → Put d 0 t d' r → (r ≡ min (length t) (length d)) × (d' ≡ take (length d) t ++ drop (length t) d)
from_start {d} {t} {d'} {r} p = (omega (arith, p.place), p.bytes ∙ sets_start d t)

-- A text that has room stands there whole, and the bytes after it are those that were there
pub whole_listing : {d t d' : List ℕ} {r : ℕ} → Put d 0 t d' r → length t ≤ length d → (r ≡ length t) × (take r d' ≡ t) × (drop r d' ≡ drop r d)
whole_listing {d} {t} {d'} {r} p h =
    let e : r ≡ length t = omega (arith, p.place) in
    let b : d' ≡ t ++ drop (length t) d = (from_start p).1 ∙ rw (take_all (length d) t h) refl in
    (e, rw (e, b) (take-append_seam t (drop (length t) d)), rw (e, b) (drop-append_seam t (drop (length t) d)))
