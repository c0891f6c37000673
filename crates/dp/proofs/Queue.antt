-- The ring of the queue: a fetch appends a word to the queue's words, and a consumer turn takes the first of them.
use Prim.Native.Nat.{ℕ, zero, suc, ◌+◌, ◌-◌, ◌%◌, ◌<◌}
use mathlib.Core.Path.{◌≡◌, refl, ap}
use mathlib.Core.List.{List, [], ◌∷◌, ◌++◌}
use native.Mathlib.Omega.{arith}
use native.Mathlib.Nat.{add-zero}
use native.Mathlib.Numerals.{add-one}
use lib.ListN.{length, get_or, set}
use lib.Seq.{get_or-set_same, get_or-set_other}
use Rattle.dp.specs.declared.DpState.{DpState}
use Rattle.dp.specs.Queue.{words_from, queued_words, oldest, put_last}
use Rattle.dp.specs.Turn.{fetched, framed, dequeued, consumed}
use Rattle.dp.proofs.Listed.{fetched_keeps}

-- Slots count round
pub round : (ring : List ℕ) (i j n : ℕ) → i % 32 ≡ j % 32 → words_from ring i n ≡ words_from ring j n
unfolding words_from
round ring i j zero e = refl
round ring i j (suc n) e = let more : (i + 1) % 32 ≡ (j + 1) % 32 = omega arith in rw (e, round ring (i + 1) (j + 1) n more)

-- The oldest word is the first
pub words_first : (ring : List ℕ) (i n : ℕ) → 0 < n → words_from ring i n ≡ get_or ring (i % 32) 0 ∷ words_from ring ((i + 1) % 32) (n - 1)
unfolding words_from
words_first ring i zero h = absurd (omega arith)
words_first ring i (suc n) h =
    let same : (i + 1) % 32 ≡ ((i + 1) % 32) % 32 = omega arith in
    let fewer : suc n - 1 ≡ n = omega arith in
    rw fewer (ap (λ (l : List ℕ). get_or ring (i % 32) 0 ∷ l) (round ring (i + 1) ((i + 1) % 32) n same))

-- A word set in a slot that none of them has
kept : (ring : List ℕ) (i n at v : ℕ) → ((k : ℕ) → k < n → (i + k) % 32 ≡ at → ⊥) → words_from (set ring at v) i n ≡ words_from ring i n
unfolding words_from
kept ring i zero at v h = refl
kept ring i (suc n) at v h =
    let here : i % 32 ≡ at → ⊥ = λ e. h 0 (omega arith) (omega arith) in
    let later = kept ring (i + 1) n at v (λ k l e. h (k + 1) (omega arith) (omega arith)) in
    rw (get_or-set_other ring at (i % 32) v 0 here, later)

-- One word more
more : (ring : List ℕ) (i n : ℕ) → words_from ring i (suc n) ≡ words_from ring i n ++ (get_or ring ((i + n) % 32) 0 ∷ [])
unfolding words_from
more ring i zero = rw add-zero
more ring i (suc n) =
    let same : i + suc n ≡ i + 1 + n = omega arith in
    rw same (ap (λ (l : List ℕ). get_or ring (i % 32) 0 ∷ l) (more ring (i + 1) n))

-- The new word is the last
pub words_last : (ring : List ℕ) (i n v : ℕ) → n < 32 → length ring ≡ 32
    → words_from (set ring ((i + n) % 32) v) i (n + 1) ≡ words_from ring i n ++ (v ∷ [])
words_last ring i n v h l =
    let at = (i + n) % 32 in
    rw (add-one, more (set ring at v) i n, kept ring i n at v (λ k b e. apart i n k b h e), get_or-set_same ring at v 0 (omega arith))
  where
    apart : (i n k : ℕ) → k < n → n < 32 → (i + k) % 32 ≡ (i + n) % 32 → ⊥
    apart i n k lo hi e = omega arith

-- ---- The queue

-- A fetch puts its word behind those that are queued
pub puts_last : (s : DpState) (ring : List ℕ) (v : ℕ) → s.queued < 32 → length ring ≡ 32
    → queued_words (fetched s) (put_last s ring v) ≡ queued_words s ring ++ (v ∷ [])
puts_last s ring v q l = rw ((fetched_keeps s).head, (fetched_keeps s).queued) (words_last ring s.head s.queued v q l)

-- A consumer turn takes the first of them, and the others stay
pub takes_first : (s : DpState) (ring : List ℕ) (v : ℕ) → 0 < s.queued
    → queued_words s ring ≡ oldest s ring ∷ queued_words (consumed s v) ring
unfolding dequeued framed
takes_first s ring v q = words_first ring s.head s.queued q

-- ---- Words put into slots one after the other, from slot i on

pub filled : List ℕ → ℕ → List ℕ → List ℕ
filled ring i [] = ring
filled ring i (v ∷ vs) = filled (set ring (i % 32) v) (i + 1) vs

pub filled_none : (ring : List ℕ) (i : ℕ) → filled ring i [] ≡ ring
unfolding filled
filled_none ring i = refl

pub filled_one : (ring : List ℕ) (i v : ℕ) (vs : List ℕ) → filled ring i (v ∷ vs) ≡ filled (set ring (i % 32) v) (i + 1) vs
unfolding filled
filled_one ring i v vs = refl

pub filled_round : (ring : List ℕ) (i j : ℕ) (vs : List ℕ) → i % 32 ≡ j % 32 → filled ring i vs ≡ filled ring j vs
unfolding filled
filled_round ring i j [] e = refl
filled_round ring i j (v ∷ vs) e =
    let next : (i + 1) % 32 ≡ (j + 1) % 32 = omega arith in rw e (filled_round (set ring (j % 32) v) (i + 1) (j + 1) vs next)
