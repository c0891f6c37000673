-- Words moved one after another are one part set in its place: the words that the source has, and zeros for those that it has not.
use Prim.Native.Nat.{ℕ, zero, suc, ◌+◌, ◌-◌, ◌*◌, ◌/◌, ◌<◌, ◌≤◌, min}
use mathlib.Core.Path.{◌≡◌, refl, sym, ap, ◌∙◌}
use mathlib.Core.List.{List, ◌++◌, append_assoc}
use native.Mathlib.Omega.{arith}
use native.Mathlib.Nat.{zero-add, suc-add}
use lib.ListN.{length, take, drop, replicate, length-append, length-drop, length-replicate, replicate-append-replicate}
use lib.Seq.{sets, length-sets, take-add, drop-drop, length-take-le}
use borrow.Author.Tests.{le-leb}
use Rattle.words.specs.Memory.{load_word, store_word}
use Rattle.words.proofs.Bytes.{sets_append, load_length, load_past, store_past, part_word, part_set}
use Rattle.rows.specs.Words.{fitted_words, words_from, words_moved}

-- ---- Words read one after another

from_length : (n : ℕ) (l : List ℕ) (a : ℕ) → length (words_from n l a) ≡ 8 * n
unfolding words_from
from_length zero l a = refl
from_length (suc n) l a = length-append (load_word l a) _ ∙ omega (arith, load_length l a, from_length n l (a + 8))

-- In two groups
from_add : (i j : ℕ) (l : List ℕ) (a : ℕ) → words_from (i + j) l a ≡ words_from i l a ++ words_from j l (a + 8 * i)
unfolding words_from
from_add zero j l a = let e : a + 8 * 0 ≡ a = omega arith in rw (zero-add, e)
from_add (suc i) j l a =
    let e : a + 8 + 8 * i ≡ a + 8 * suc i = omega arith in
    rw (suc-add, append_assoc) (ap (λ (r : List ℕ). load_word l a ++ r) (from_add i j l (a + 8) ∙ ap (λ (b : ℕ). words_from i l (a + 8) ++ words_from j l b) e))

load_fitted : (l : List ℕ) (a : ℕ) → a + 8 ≤ length l → load_word l a ≡ take 8 (drop a l)
unfolding load_word
load_fitted l a h = rw (le-leb (a + 8) (length l) h) (sym (part_word l a h))

-- Fitted words are a part of what is lent
from_fitted : (n : ℕ) (l : List ℕ) (a : ℕ) → a + 8 * n ≤ length l → words_from n l a ≡ take (8 * n) (drop a l)
unfolding words_from
from_fitted zero l a h = refl
from_fitted (suc n) l a h =
    let e : 8 * suc n ≡ 8 + 8 * n = omega arith in
    rw (load_fitted l a (omega arith), from_fitted n l (a + 8) (omega arith), e, take-add 8 (8 * n) (drop a l), drop-drop 8 a l)

-- Words past the lent length are zeros
from_past : (n : ℕ) (l : List ℕ) (a : ℕ) → length l < a + 8 → words_from n l a ≡ replicate (8 * n) 0
unfolding words_from
from_past zero l a h = refl
from_past (suc n) l a h =
    let e : 8 * suc n ≡ 8 + 8 * n = omega arith in
    rw (load_past l a h, from_past n l (a + 8) (omega arith), e, ← replicate-append-replicate {A = ℕ} 8 (8 * n) 0)

-- ---- Words moved one after another

store_fitted : (l : List ℕ) (a : ℕ) (w : List ℕ) → a + 8 ≤ length l → store_word l a w ≡ sets l a w
unfolding store_word
store_fitted l a w h = rw (le-leb (a + 8) (length l) h)

-- Where all have room they are set in one part
moved_fitted : (n : ℕ) (d : List ℕ) (at : ℕ) (s : List ℕ) (from : ℕ) → at + 8 * n ≤ length d
    → words_moved n d at s from ≡ sets d at (words_from n s from)
unfolding words_from words_moved
moved_fitted zero d at s from h = refl
moved_fitted (suc n) d at s from h =
    let w : List ℕ = load_word s from in
    let size : length (sets d at w) ≡ length d = length-sets d at w in
    rw (store_fitted d at w (omega arith), moved_fitted n (sets d at w) (at + 8) s (from + 8) (omega arith), sets_append d at w, load_length s from)

-- Where none has room nothing changes
moved_past : (n : ℕ) (d : List ℕ) (at : ℕ) (s : List ℕ) (from : ℕ) → length d < at + 8 → words_moved n d at s from ≡ d
unfolding words_moved
moved_past zero d at s from h = refl
moved_past (suc n) d at s from h = rw (store_past d at (load_word s from) h) (moved_past n d (at + 8) s (from + 8) (omega arith))

-- In two groups
moved_add : (i j : ℕ) (d : List ℕ) (at : ℕ) (s : List ℕ) (from : ℕ)
    → words_moved (i + j) d at s from ≡ words_moved j (words_moved i d at s from) (at + 8 * i) s (from + 8 * i)
unfolding words_moved
moved_add zero j d at s from =
    let e : at + 8 * 0 ≡ at = omega arith in
    let f : from + 8 * 0 ≡ from = omega arith in
    rw (zero-add, e, f)
moved_add (suc i) j d at s from =
    let e : at + 8 + 8 * i ≡ at + 8 * suc i = omega arith in
    let f : from + 8 + 8 * i ≡ from + 8 * suc i = omega arith in
    rw (suc-add, ← e, ← f) (moved_add i j (store_word d at (load_word s from)) (at + 8) s (from + 8))

-- ---- What the code makes

-- Where the first of some has no room nothing changes
moved_rest : (k : ℕ) (d : List ℕ) (at : ℕ) (s : List ℕ) (from : ℕ) → (0 < k → length d < at + 8) → words_moved k d at s from ≡ d
unfolding words_moved
moved_rest zero d at s from h = refl
moved_rest (suc k) d at s from h = moved_past (suc k) d at s from (h (omega arith))

-- The words with room are set in one part, the others are dropped
moved_room : (n : ℕ) (d : List ℕ) (at : ℕ) (s : List ℕ) (from : ℕ) (r : ℕ) → r ≡ fitted_words n (length d) at → 0 < r
    → words_moved n d at s from ≡ sets d at (words_from r s from)
unfolding fitted_words
moved_room n d at s from r e h =
    let rest : r + (n - r) ≡ n = omega arith in
    let fits : at + 8 * r ≤ length d = omega arith in
    let l : List ℕ = sets d at (words_from r s from) in
    let size : length l ≡ length d = length-sets d at (words_from r s from) in
    ap (λ (k : ℕ). words_moved k d at s from) (sym rest)
    ∙ moved_add r (n - r) d at s from
    ∙ ap (λ (l : List ℕ). words_moved (n - r) l (at + 8 * r) s (from + 8 * r)) (moved_fitted r d at s from fits)
    ∙ moved_rest (n - r) l (at + 8 * r) s (from + 8 * r) (λ some. omega arith)

pub moved_none : (n : ℕ) (d : List ℕ) (at : ℕ) (s : List ℕ) (from : ℕ) → 0 ≡ fitted_words n (length d) at → words_moved n d at s from ≡ d
unfolding fitted_words
moved_none n d at s from e = moved_rest n d at s from (λ some. omega arith)

-- Of r words the source has h, and the rest are zeros
from_have : (r : ℕ) (s : List ℕ) (from h : ℕ) → h ≡ fitted_words r (length s) from → 0 < h
    → words_from r s from ≡ take (8 * h) (drop from s) ++ replicate (8 * (r - h)) 0
unfolding words_from fitted_words
from_have r s from h e some =
    let rest : h + (r - h) ≡ r = omega arith in
    let fits : from + 8 * h ≤ length s = omega arith in
    ap (λ (k : ℕ). words_from k s from) (sym rest)
    ∙ from_add h (r - h) s from
    ∙ rw (from_fitted h s from fits) (ap (λ (l : List ℕ). take (8 * h) (drop from s) ++ l) (zeros (r - h) (from + 8 * h) (λ more. omega arith)))
  where
    zeros : (k a : ℕ) → (0 < k → length s < a + 8) → words_from k s a ≡ replicate (8 * k) 0
    zeros zero a f = refl
    zeros (suc k) a f = from_past (suc k) s a (f (omega arith))

-- Nothing of the words is in the source
pub moved_zeros : (n : ℕ) (d : List ℕ) (at : ℕ) (s : List ℕ) (from r h : ℕ) → r ≡ fitted_words n (length d) at → h ≡ fitted_words r (length s) from → 0 < r
    → h ≡ 0
    → sets d at (replicate (8 * r) 0) ≡ words_moved n d at s from
unfolding fitted_words
moved_zeros n d at s from r h er eh hr none =
    ap (sets d at) (sym (from_past r s from (omega arith))) ∙ sym (moved_room n d at s from r er hr)

-- Some is
pub moved_some : (n : ℕ) (d : List ℕ) (at : ℕ) (s : List ℕ) (from r h : ℕ) → r ≡ fitted_words n (length d) at → h ≡ fitted_words r (length s) from → 0 < r
    → 0 < h
    → sets (sets d at (take (8 * h) (drop from s))) (at + 8 * h) (replicate (8 * (r - h)) 0) ≡ words_moved n d at s from
unfolding fitted_words
moved_some n d at s from r h er eh hr some =
    let size : length (take (8 * h) (drop from s)) ≡ 8 * h = length-take-le (8 * h) (drop from s) (omega (arith, length-drop from s)) in
    ap (λ (i : ℕ). sets (sets d at (take (8 * h) (drop from s))) (at + i) (replicate (8 * (r - h)) 0)) (sym size)
    ∙ sym (sets_append d at (take (8 * h) (drop from s)) (replicate (8 * (r - h)) 0))
    ∙ ap (sets d at) (sym (from_have r s from h eh some))
    ∙ sym (moved_room n d at s from r er hr)

-- Both, where a and f are the two addresses cut to the lengths
moved : (n : ℕ) (d : List ℕ) (at : ℕ) (s : List ℕ) (from a f r h : ℕ)
    → a ≡ min at (length d) → f ≡ min from (length s) → r ≡ min n ((length d - a) / 8)
    → h ≡ min r ((length s - f) / 8)
    → sets (sets d a (take (8 * h) (drop f s))) (a + 8 * h) (replicate (8 * (r - h)) 0)
    ≡ words_moved n d at s from
unfolding fitted_words
moved n d at s from a f zero h ea ef er eh =
    let none : h ≡ 0 = omega arith in
    rw none (sym (moved_none n d at s from (omega arith)))
moved n d at s from a f (suc r) zero ea ef er eh =
    let same : a ≡ at = omega arith in
    let first : at + 8 * 0 ≡ at = omega arith in
    let all : suc r - 0 ≡ suc r = omega arith in
    rw (same, first, all)
    (moved_zeros n d at s from (suc r) 0 (omega arith) (omega arith) (omega arith) refl)
moved n d at s from a f (suc r) (suc h) ea ef er eh =
    let same : a ≡ at = omega arith in
    let from_same : f ≡ from = omega arith in
    rw (same, from_same)
    (moved_some n d at s from (suc r) (suc h) (omega arith) (omega arith) (omega arith) (omega arith))

-- As the code makes it: a part is lent and comes back as the words that the source has, and then
-- the part behind it is lent and comes back as zeros
pub moved_parts : (n : ℕ) (d : List ℕ) (at : ℕ) (s : List ℕ) (from : ℕ) {a f r h : ℕ}
    {ws t zs : List ℕ}
    → a ≡ min at (length d) → f ≡ min from (length s) → r ≡ min n ((length d - a) / 8)
    → h ≡ min r ((length s - f) / 8)
    → ws ≡ take (f + 8 * h - f) (drop f s)
    → t ≡ take a d ++ (ws ++ drop (a + 8 * h - a) (drop a d))
    → zs ≡ replicate (length (take (a + 8 * r - (a + 8 * h)) (drop (a + 8 * h) t))) 0
    → take (a + 8 * h) t ++ (zs ++ drop (a + 8 * r - (a + 8 * h)) (drop (a + 8 * h) t))
    ≡ words_moved n d at s from
moved_parts n d at s from {a} {f} {r} {h} {ws} {t} {zs} ea ef er eh ew et ez =
    let room : a + 8 * r ≤ length d = omega arith in
    let source : f + 8 * h ≤ length s = omega arith in
    let less : h ≤ r = omega arith in
    let p : f + 8 * h - f ≡ 8 * h = omega arith in
    let q : a + 8 * r - (a + 8 * h) ≡ 8 * (r - h) = omega arith in
    let got : List ℕ = take (8 * h) (drop f s) in
    let words : ws ≡ got = ew ∙ ap (λ (k : ℕ). take k (drop f s)) p in
    let size : length ws ≡ 8 * h =
    ap length words ∙ length-take-le (8 * h) (drop f s) (omega (arith, length-drop f s))
    in
    let first : t ≡ sets d a ws =
    et ∙ part_set d ws a (a + 8 * h) (omega arith) (omega arith) (omega arith)
    in
    let kept : length t ≡ length d = ap length first ∙ length-sets d a ws in
    let behind : List ℕ = drop (a + 8 * h) t in
    let rest : length (take (8 * (r - h)) behind) ≡ 8 * (r - h) =
    length-take-le (8 * (r - h)) behind (omega (arith, length-drop (a + 8 * h) t))
    in
    let zeros : zs ≡ replicate (8 * (r - h)) 0 = ez ∙ rw (q, rest) in
    let size_zeros : length zs ≡ a + 8 * r - (a + 8 * h) =
    ap length zeros ∙ length-replicate (8 * (r - h)) 0 ∙ sym q
    in
    part_set t zs (a + 8 * h) (a + 8 * r) (omega arith) (omega arith) size_zeros
    ∙ ap (λ (l : List ℕ). sets l (a + 8 * h) zs) (first ∙ ap (sets d a) words)
    ∙ ap (sets (sets d a got) (a + 8 * h)) zeros
    ∙ moved n d at s from a f r h ea ef er eh
