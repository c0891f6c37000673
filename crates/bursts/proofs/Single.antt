-- A burst is its single writes; where it stops and why; and it can be cut in two.
use Prim.Native.Nat.{ℕ, zero, suc, ◌+◌, ◌≤◌}
use mathlib.Core.Path.{◌≡◌, refl, sym, ap, subst, ◌∙◌}
use mathlib.Core.Bool.{Bool, true, false, not, cond, ◌&&◌}
use mathlib.Core.List.{List, [], ◌∷◌, ◌++◌}
use native.Mathlib.Omega.{arith}
use native.Mathlib.Nat.{add-zero, add-suc}
use lib.Dec.{ltb, eqb}
use lib.ListN.{length, get_or, length-append}
use borrow.Author.Tests.{eq-eqb, le-leb, lt-ltb, le-ltb, ltb-true, ltb-false}
use Rattle.std.specs.Prelude.{Result, Ok, Err}
use Rattle.words.proofs.Tests.{by, true_and}
use Rattle.machine.specs.declared.State.{State}
use Rattle.machine.specs.declared.Outcome.{Outcome}
use Rattle.machine.specs.declared.Register.{Register}
use Rattle.machine.specs.declared.Register.TheVariants.{Sp, Dp}
use Rattle.machine.specs.declared.refusal.AddressError.{AddressError}
use Rattle.machine.specs.declared.refusal.AddressError.TheVariants.{Misaligned, Unmapped}
use Rattle.machine.specs.Sound.{sound}
use Rattle.machine.specs.Address.{aligned, register_at}
use Rattle.machine.specs.Refusals.{is_register, register_number, state_refusal, check, ending, if_refused}
use Rattle.machine.specs.Calls.{write_at, write_register}
use Rattle.machine.proofs.Address.{register_number_lem}
use Rattle.machine.proofs.Refusals.{write_answers}
use Rattle.machine.proofs.Kept.{write_kept}
use Rattle.bursts.specs.Bursts.{burst_allowed, burst_refusal, writes_from, write_registers, BurstGives}
use Rattle.bursts.specs.Single.{Words32, Singly, done, refused, written, BurstIsSingle, leading, pairs_written, stops, stop_aligned, BurstNumbers, later, BurstSplits}
use Rattle.bursts.proofs.Bursts.{write_sound, write_number_lem, allowed, checked, not_declined, burst_begins, burst_declined, writes_kept}

-- ---- Single writes

-- The k counted before are added to those of the rest
counts_on : (j k : ℕ) (xs vs : List ℕ) (s : State) → writes_from (j + k) xs vs s ≡ later j (writes_from k xs vs s)
unfolding writes_from
counts_on j k [] vs s = refl
counts_on j k (a ∷ xs) [] s = refl
counts_on j k (a ∷ xs) (v ∷ vs) s =
    step (write_register s a v).answer.number
    (ap (λ (n : ℕ). writes_from n xs vs (write_register s a v).state) (sym (add-suc j k)) ∙ counts_on j (suc k) xs vs (write_register s a v).state)
  where
    step : (n : ℕ)
        → writes_from (suc (j + k)) xs vs (write_register s a v).state ≡ later j (writes_from (suc k) xs vs (write_register s a v).state)
        → if_refused n (ending s n (j + k)) (writes_from (suc (j + k)) xs vs (write_register s a v).state)
        ≡ later j (if_refused n (ending s n k) (writes_from (suc k) xs vs (write_register s a v).state))
    step zero h = h
    step (suc n) h = refl

abbrev one_more_lem : Outcome → Outcome
one_more_lem o = ending o.state o.answer.number (suc o.answer.count)

counts_one : (xs vs : List ℕ) (s : State) → writes_from 1 xs vs s ≡ one_more_lem (writes_from 0 xs vs s)
counts_one xs vs s =
    let o : Outcome = writes_from 0 xs vs s in
    let e : 1 + o.answer.count ≡ suc o.answer.count = omega arith in
    counts_on 1 0 xs vs s ∙ ap (λ (n : ℕ). ending o.state o.answer.number n) e

-- One that is refused leaves the state as handed in
refused_write : (s : State) (a v n : ℕ) → (write_register s a v).answer.number ≡ suc n → (write_register s a v).state ≡ s
refused_write s a v n e =
    let h = write_answers s a v in
    ap (λ (o : Outcome). o.state) (h.refused n (sym h.number ∙ e))

-- Whoever makes them gets what the definition says
singly_given : {xs vs : List ℕ} {s t : State} {n k : ℕ} → Singly xs vs s n k t → writes_from 0 xs vs s ≡ ending t n k
unfolding writes_from
singly_given done = refl
singly_given (refused {a = a} {v = v} {n = n} {s = s} g e) =
    let z : (write_register s a v).answer.number ≡ suc n = ap (λ (o : Outcome). o.answer.number) (sym g.outcome) ∙ e in
    rw (z, g.outcome) (ap (λ (t : State). ending t (suc n) 0) (sym (refused_write s a v n z)))
singly_given (written {a = a} {v = v} {n = n} {k = k} {xs = xs} {vs = vs} {s = s} {t = t} {o = o} g e rest) =
    let z : (write_register s a v).answer.number ≡ 0 = ap (λ (o : Outcome). o.answer.number) (sym g.outcome) ∙ e in
    rw (z, ← g.outcome) (counts_one xs vs o.state ∙ ap one_more_lem (singly_given rest))

-- And they can be made
singly_made : (xs vs : List ℕ) (s : State) → length xs ≡ length vs
    → Singly xs vs s (writes_from 0 xs vs s).answer.number (writes_from 0 xs vs s).answer.count (writes_from 0 xs vs s).state
unfolding writes_from
singly_made [] [] s l = done
singly_made [] (v ∷ vs) s l = absurd (omega arith)
singly_made (a ∷ xs) [] s l = absurd (omega arith)
singly_made (a ∷ xs) (v ∷ vs) s l =
    go (write_register s a v).state (write_register s a v).answer.number refl refl (singly_made xs vs (write_register s a v).state (omega arith))
  where
    go : (t : State) (n : ℕ) → (write_register s a v).state ≡ t → (write_register s a v).answer.number ≡ n
        → Singly xs vs t (writes_from 0 xs vs t).answer.number (writes_from 0 xs vs t).answer.count (writes_from 0 xs vs t).state
        → Singly (a ∷ xs) (v ∷ vs) s (if_refused n (ending s n 0) (writes_from 1 xs vs t)).answer.number
        (if_refused n (ending s n 0) (writes_from 1 xs vs t)).answer.count
        (if_refused n (ending s n 0) (writes_from 1 xs vs t)).state
    go t zero e z rest =
        let q : Outcome = writes_from 0 xs vs t in
        let same : Singly xs vs (write_register s a v).state q.answer.number q.answer.count q.state = rw e rest in
        rw (counts_one xs vs t) (written {o = write_register s a v} (record { outcome = refl }) z same)
    go t (suc n) e z rest =
        subst (λ (x : State). Singly (a ∷ xs) (v ∷ vs) s (suc n) 0 x) (refused_write s a v n z)
        (refused {o = write_register s a v} (record { outcome = refl }) z)

pub burst_is_single : (s : State) (xs vs : List ℕ) (o : Outcome) (xs' vs' : List ℕ) → BurstGives s xs vs o xs' vs' → BurstIsSingle s xs vs o
burst_is_single s xs vs o xs' vs' g = record {
  declined_first = λ k e. g.outcome ∙ burst_declined s xs vs k e;
  as_single = λ z n k t.
      let e : o ≡ writes_from 0 xs vs s = g.outcome ∙ burst_begins s xs vs z in
      let l = (allowed xs vs (checked s xs vs z).0).0 in (
        (λ h. e ∙ singly_given h),
        (λ h. subst (λ (x : Outcome). Singly xs vs s x.answer.number x.answer.count x.state) (sym e ∙ h) (singly_made xs vs s l)),
      );
}

-- ---- Where it stops

-- The number of the first address where there is no register, 0 if there is none
first_number : List ℕ → ℕ
first_number [] = 0
first_number (a ∷ xs) = if_refused (register_number (register_at a)) (register_number (register_at a)) (first_number xs)

-- From a sound state the addresses alone decide
answered : (k : ℕ) (xs vs : List ℕ) (s : State) → Words32 vs → length xs ≡ length vs → sound s ≡ true
    → ((writes_from k xs vs s).answer.number ≡ first_number xs) × ((writes_from k xs vs s).answer.count ≡ k + leading xs)
    × ((writes_from k xs vs s).answer.value ≡ 0)
unfolding writes_from first_number leading
answered k [] vs s f l e = (refl, omega arith, refl)
answered k (a ∷ xs) [] s f l e = absurd (omega arith)
answered k (a ∷ xs) (v ∷ vs) s f l e =
    let t : State = (write_register s a v).state in
    rw (write_sound s a v e, write_number_lem (register_at a) s v)
    (step (write_at (register_at a) s v).state (register_at a)
    (answered (suc k) xs vs (write_at (register_at a) s v).state (λ i. f (suc i)) (omega arith)
    (rw (write_sound s a v e) at (write_kept s a v (f 0) e))))
  where
    step : (t : State) (r : Result Register AddressError)
        → ((writes_from (suc k) xs vs t).answer.number ≡ first_number xs) × ((writes_from (suc k) xs vs t).answer.count ≡ suc k + leading xs)
        × ((writes_from (suc k) xs vs t).answer.value ≡ 0)
        → ((if_refused (register_number r) (ending s (register_number r) k) (writes_from (suc k) xs vs t)).answer.number
        ≡ if_refused (register_number r) (register_number r) (first_number xs))
        × ((if_refused (register_number r) (ending s (register_number r) k) (writes_from (suc k) xs vs t)).answer.count
        ≡ k + cond (is_register r) (suc (leading xs)) 0)
        × ((if_refused (register_number r) (ending s (register_number r) k) (writes_from (suc k) xs vs t)).answer.value ≡ 0)
    step t (Ok (Sp r)) h = (h.0, omega (arith, h.1), h.2)
    step t (Ok (Dp r)) h = (h.0, omega (arith, h.1), h.2)
    step t (Err Misaligned) h = (refl, omega arith, refl)
    step t (Err Unmapped) h = (refl, omega arith, refl)

ltb_suc : (m n : ℕ) → ltb (suc m) (suc n) ≡ ltb m n
ltb_suc m n =
    by (ltb m n)
    (λ e. lt-ltb (suc m) (suc n) (omega (arith, ltb-true m n e)) ∙ sym e)
    (λ e. le-ltb (suc m) (suc n) (omega (arith, ltb-false m n e)) ∙ sym e)

-- The same number by the tests of the claim
first_number_lem : (xs : List ℕ) → first_number xs ≡ cond (stops xs) (check (stop_aligned xs) 10 5) 0
unfolding first_number leading
first_number_lem [] = refl
first_number_lem (a ∷ xs) = go (register_at a) (register_number_lem a) (first_number_lem xs)
  where
    go : (r : Result Register AddressError)
        → register_number r ≡ check (aligned a) 10 (check (is_register r) 5 0)
        → first_number xs ≡ cond (stops xs) (check (stop_aligned xs) 10 5) 0
        → if_refused (register_number r) (register_number r) (first_number xs)
        ≡ cond (ltb (cond (is_register r) (suc (leading xs)) 0) (suc (length xs)))
        (check (aligned (get_or (a ∷ xs) (cond (is_register r) (suc (leading xs)) 0) 0)) 10 5) 0
    go (Ok (Sp r)) e rest = rw (ltb_suc (leading xs) (length xs)) rest
    go (Ok (Dp r)) e rest = rw (ltb_suc (leading xs) (length xs)) rest
    go (Err Misaligned) e rest = rw (lt-ltb 0 (suc (length xs)) (omega arith)) e
    go (Err Unmapped) e rest = rw (lt-ltb 0 (suc (length xs)) (omega arith)) e

-- The number of each case is given in it alone
record ByTests (n : ℕ) (a b c d : Bool) : Type 0 where
  sizes : eqb n 11 ≡ not a
  state : eqb n 4 ≡ a && not b
  aligned : eqb n 10 ≡ a && b && c && not d
  mapped : eqb n 5 ≡ a && b && c && d
  success : eqb n 0 ≡ a && b && not c

by_tests : (a b c d : Bool) → ByTests (check a 11 (check b 4 (cond c (check d 10 5) 0))) a b c d
by_tests false b c d = search
by_tests true false c d = search
by_tests true true false d = search
by_tests true true true false = search
by_tests true true true true = search

-- Number, count and value of a burst
module _ (s : State) (xs vs : List ℕ) (f : Words32 vs) where
  burst_answer : ((write_registers s xs vs).answer.number ≡ check (burst_allowed xs vs) 11 (check (sound s) 4 (first_number xs)))
      × ((write_registers s xs vs).answer.count ≡ cond (sound s) (pairs_written xs vs) 0)
      × ((write_registers s xs vs).answer.value ≡ 0)
  unfolding write_registers burst_refusal state_refusal
  burst_answer =
      by (burst_allowed xs vs)
      (λ a.
      by (sound s)
      (λ e. rw (a, e) (let r = answered 0 xs vs s f (allowed xs vs a).0 e in (r.0, omega (arith, r.1), r.2)))
      (λ e. rw (a, e) (refl, refl, refl)))
      (λ a. by (sound s) (λ e. rw (a, e) (refl, refl, refl)) (λ e. rw (a, e) (refl, refl, refl)))

  pub burst_numbers : (o : Outcome) (xs' vs' : List ℕ) → BurstGives s xs vs o xs' vs' → BurstNumbers s xs vs o
  burst_numbers o xs' vs' g =
      let t : ByTests (write_registers s xs vs).answer.number (burst_allowed xs vs) (sound s) (stops xs) (stop_aligned xs) =
      rw (burst_answer.0, first_number_lem xs) (by_tests (burst_allowed xs vs) (sound s) (stops xs) (stop_aligned xs)) in
      rw g.outcome
      (record {
        size_number = t.sizes;
        state_number = t.state;
        aligned_number = t.aligned;
        mapped_number = t.mapped;
        success = t.success;
        count = burst_answer.1;
        value = burst_answer.2;
      })

-- How many pairs it writes, from a sound state
pub burst_count : (s : State) (xs vs : List ℕ) → Words32 vs → sound s ≡ true → (write_registers s xs vs).answer.count ≡ pairs_written xs vs
burst_count s xs vs f e = (burst_answer s xs vs f).1 ∙ rw e

-- ---- Two lists

-- The rest is written where the first list ended well
two_lists : (k : ℕ) (xs vs ys us : List ℕ) (s : State) → length xs ≡ length vs
    → writes_from k (xs ++ ys) (vs ++ us) s
    ≡ (let o = writes_from k xs vs s in if_refused o.answer.number o (writes_from o.answer.count ys us o.state))
unfolding writes_from
two_lists k [] [] ys us s l = refl
two_lists k [] (v ∷ vs) ys us s l = absurd (omega arith)
two_lists k (a ∷ xs) [] ys us s l = absurd (omega arith)
two_lists k (a ∷ xs) (v ∷ vs) ys us s l =
    step (write_register s a v).answer.number (two_lists (suc k) xs vs ys us (write_register s a v).state (omega arith))
  where
    step : (n : ℕ)
        → writes_from (suc k) (xs ++ ys) (vs ++ us) (write_register s a v).state
        ≡ (let o = writes_from (suc k) xs vs (write_register s a v).state in if_refused o.answer.number o (writes_from o.answer.count ys us o.state))
        → if_refused n (ending s n k) (writes_from (suc k) (xs ++ ys) (vs ++ us) (write_register s a v).state)
        ≡ (let o = if_refused n (ending s n k) (writes_from (suc k) xs vs (write_register s a v).state) in
        if_refused o.answer.number o (writes_from o.answer.count ys us o.state))
    step zero h = h
    step (suc n) h = refl

-- Both parts are as long as they have to be, if the whole is
parts_allowed : (xs vs ys us : List ℕ) → length xs ≡ length vs → burst_allowed (xs ++ ys) (vs ++ us) ≡ true
    → (burst_allowed xs vs ≡ true) × (burst_allowed ys us ≡ true)
parts_allowed xs vs ys us l e =
    let p = allowed (xs ++ ys) (vs ++ us) e in
    let h : length xs + length ys ≡ length vs + length us = sym (length-append xs ys) ∙ p.0 ∙ length-append vs us in
    let k : length xs + length ys ≤ 64 = rw (length-append xs ys) at p.1 in (
      true_and _ _ (eq-eqb (length xs) (length vs) l) (le-leb (length xs) 64 (omega (arith, k))),
      true_and _ _ (eq-eqb (length ys) (length us) (omega (arith, h, l))) (le-leb (length ys) 64 (omega (arith, k))),
    )

pub burst_splits : BurstSplits
unfolding burst_refusal state_refusal
burst_splits s xs vs ys us o p q xs' vs' ys' us' zs' ws' f l a go ho wo =
    let r = parts_allowed xs vs ys us l a in
    rw (wo.outcome, ho.outcome, go.outcome)
    (by (sound s)
    (λ e.
    let first : write_registers s xs vs ≡ writes_from 0 xs vs s = burst_begins s xs vs (not_declined s xs vs r.0 e) in
    let kept : sound (writes_from 0 xs vs s).state ≡ true = writes_kept 0 xs vs s f e in
    let second = burst_begins (writes_from 0 xs vs s).state ys us (not_declined (writes_from 0 xs vs s).state ys us r.1 kept) in
    burst_begins s (xs ++ ys) (vs ++ us) (not_declined s (xs ++ ys) (vs ++ us) a e)
    ∙ two_lists 0 xs vs ys us s l
    ∙ rw (first, second) (joined (writes_from 0 xs vs s)))
    (λ e.
    let z : burst_refusal s xs vs ≡ 4 = rw (r.0, e) in
    let y : burst_refusal s (xs ++ ys) (vs ++ us) ≡ 4 = rw (a, e) in
    burst_declined s (xs ++ ys) (vs ++ us) 3 y ∙ rw (burst_declined s xs vs 3 z)))
  where
    joined : (o : Outcome) → if_refused o.answer.number o (writes_from o.answer.count ys us o.state)
        ≡ if_refused o.answer.number o (later o.answer.count (writes_from 0 ys us o.state))
    joined o =
        ap (if_refused o.answer.number o)
        (ap (λ (n : ℕ). writes_from n ys us o.state) (sym (add-zero o.answer.count)) ∙ counts_on o.answer.count 0 ys us o.state)
