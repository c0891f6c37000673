-- The steps of a burst, one pair after the other.
use Prim.Native.Nat.{ℕ, zero, suc, ◌+◌, ◌<◌, ◌≤◌}
use mathlib.Core.Path.{◌≡◌, refl, sym, ap, ◌∙◌}
use mathlib.Core.Bool.{Bool, true, false}
use mathlib.Core.List.{List, [], ◌∷◌}
use native.Mathlib.Omega.{arith}
use native.Mathlib.Numerals.{add-one}
use lib.Dec.{leb, eqb}
use lib.ListN.{length, get_or, drop, drop_of_length-le}
use lib.Seq.{drop-cons}
use borrow.Author.Tests.{eqb-true, leb-true}
use Rattle.std.specs.Prelude.{Result, Ok, Err}
use Rattle.words.proofs.Tests.{and_true}
use Rattle.machine.specs.declared.State.{State}
use Rattle.machine.specs.declared.Outcome.{Outcome}
use Rattle.machine.specs.declared.Register.{Register}
use Rattle.machine.specs.declared.Register.TheVariants.{Sp, Dp}
use Rattle.machine.specs.declared.refusal.AddressError.{AddressError}
use Rattle.machine.specs.declared.refusal.AddressError.TheVariants.{Misaligned, Unmapped}
use Rattle.machine.specs.Sound.{sound}
use Rattle.machine.specs.Address.{register_at}
use Rattle.machine.specs.Refusals.{register_number, state_refusal, access_refusal, check, declined, ending, if_refused}
use Rattle.machine.specs.Calls.{sp_written, dp_written, write_at, write_register}
use Rattle.machine.proofs.Refusals.{if_accepted, if_refused_lem}
use Rattle.machine.proofs.Kept.{write_kept}
use Rattle.bursts.specs.Bursts.{burst_allowed, burst_refusal, writes_from, write_registers}
use Rattle.bursts.specs.Single.{Words32}

-- ---- A write to a sound state

-- It is what stands behind the test of the state
pub write_sound : (s : State) (a v : ℕ) → sound s ≡ true → write_register s a v ≡ write_at (register_at a) s v
unfolding write_register access_refusal
write_sound s a v e = rw e (at (register_at a))
  where
    at : (r : Result Register AddressError)
        → if_refused (register_number r) (declined s (register_number r)) (write_at r s v)
        ≡ write_at r s v
    at (Ok (Sp r)) = refl
    at (Ok (Dp r)) = refl
    at (Err Misaligned) = refl
    at (Err Unmapped) = refl

-- The state with both engines as a write leaves them
abbrev pub written : Result Register AddressError → State → ℕ → State
written r s v = record { sp = sp_written r s.sp v; dp = dp_written r s.dp v; queue = s.queue }

-- Its number is that of what stands at the address; only where it is 0 is anything written
pub write_number_lem : (r : Result Register AddressError) (s : State) (v : ℕ)
    → (write_at r s v).answer.number ≡ register_number r
write_number_lem (Ok (Sp r)) s v = refl
write_number_lem (Ok (Dp r)) s v = refl
write_number_lem (Err why) s v = refl

pub write_leaves : (r : Result Register AddressError) (s : State) (v : ℕ)
    → (write_at r s v).state ≡ written r s v
write_leaves (Ok (Sp r)) s v = refl
write_leaves (Ok (Dp r)) s v = refl
write_leaves (Err why) s v = refl

-- ---- The pairs from the i-th on

module _ (i : ℕ) (xs vs : List ℕ) (s : State) (h : i < length xs) (l : length xs ≡ length vs) where
  first_pair : writes_from i (drop i xs) (drop i vs) s
      ≡ (let o = write_register s (get_or xs i 0) (get_or vs i 0) in
      if_refused o.answer.number (ending s o.answer.number i) (writes_from (suc i) (drop (suc i) xs) (drop (suc i) vs) o.state))
  unfolding writes_from
  first_pair = rw (drop-cons xs i 0 h, drop-cons vs i 0 (omega arith))

  -- The same by what stands at its address
  pair_at : (r : Result Register AddressError) → register_at (get_or xs i 0) ≡ r → sound s ≡ true
      → writes_from i (drop i xs) (drop i vs) s
      ≡ if_refused (register_number r) (ending s (register_number r) i)
      (writes_from (suc i) (drop (suc i) xs) (drop (suc i) vs) (written r s (get_or vs i 0)))
  pair_at r e k =
      let w : write_register s (get_or xs i 0) (get_or vs i 0) ≡ write_at r s (get_or vs i 0) =
      write_sound s (get_or xs i 0) (get_or vs i 0) k
      ∙ ap (λ (x : Result Register AddressError). write_at x s (get_or vs i 0)) e in
      first_pair ∙ rw (w, write_number_lem r s (get_or vs i 0), write_leaves r s (get_or vs i 0))

  -- One that is written, and one that is refused
  pub goes_on : (r : Result Register AddressError) → r ≡ register_at (get_or xs i 0)
      → sound s ≡ true → register_number r ≡ 0
      → writes_from (i + 1) (drop (i + 1) xs) (drop (i + 1) vs) (written r s (get_or vs i 0)) ≡ writes_from i (drop i xs) (drop i vs) s
  goes_on r e k n = rw add-one (sym (pair_at r (sym e) k ∙ if_accepted (register_number r) _ _ n))

  pub stops_here : (r : Result Register AddressError) → r ≡ register_at (get_or xs i 0)
      → sound s ≡ true → (register_number r ≡ 0 → ⊥)
      → ending s (register_number r) i ≡ writes_from i (drop i xs) (drop i vs) s
  stops_here r e k n = sym (pair_at r (sym e) k ∙ if_refused_lem (register_number r) _ _ n)

  -- The state that it leaves is sound
  pub pair_kept : (r : Result Register AddressError) → r ≡ register_at (get_or xs i 0)
      → sound s ≡ true → get_or vs i 0 < 0x100000000
      → sound (written r s (get_or vs i 0)) ≡ true
  pair_kept r e k f =
      let v = get_or vs i 0 in
      let w : (write_register s (get_or xs i 0) v).state ≡ written r s v =
      ap (λ (o : Outcome). o.state) (write_sound s (get_or xs i 0) v k) ∙ rw (← e) (write_leaves r s v) in
      rw w at (write_kept s (get_or xs i 0) v f k)

-- None is left
pub at_end : (i : ℕ) (xs vs : List ℕ) (s : State) → length xs ≤ i → ending s 0 i ≡ writes_from i (drop i xs) (drop i vs) s
unfolding writes_from
at_end i xs vs s h = rw (drop_of_length-le xs h)

-- ---- The checks before the first pair

pub allowed : (xs vs : List ℕ) → burst_allowed xs vs ≡ true → (length xs ≡ length vs) × (length xs ≤ 64)
allowed xs vs e =
    let p = and_true (eqb (length xs) (length vs)) (leb (length xs) 64) e in
    (eqb-true (length xs) (length vs) p.0, leb-true (length xs) 64 p.1)

-- What number 0 says
pub checked : (s : State) (xs vs : List ℕ) → burst_refusal s xs vs ≡ 0 → (burst_allowed xs vs ≡ true) × (sound s ≡ true)
unfolding burst_refusal state_refusal
checked s xs vs z = both (burst_allowed xs vs) (sound s) z
  where
    both : (a b : Bool) → check a 11 (check b 4 0) ≡ 0 → (a ≡ true) × (b ≡ true)
    both true true e = (refl, refl)
    both true false e = absurd (omega arith)
    both false b e = absurd (omega arith)

pub not_declined : (s : State) (xs vs : List ℕ) → burst_allowed xs vs ≡ true → sound s ≡ true → burst_refusal s xs vs ≡ 0
unfolding burst_refusal state_refusal
not_declined s xs vs a e = rw (a, e)

pub burst_begins : (s : State) (xs vs : List ℕ) → burst_refusal s xs vs ≡ 0 → write_registers s xs vs ≡ writes_from 0 xs vs s
unfolding write_registers
burst_begins s xs vs z = if_accepted (burst_refusal s xs vs) _ _ z

pub burst_declined : (s : State) (xs vs : List ℕ) (k : ℕ) → burst_refusal s xs vs ≡ suc k → write_registers s xs vs ≡ declined s (suc k)
unfolding write_registers
burst_declined s xs vs k z = rw z

-- ---- A burst on a sound state leaves a sound one

pub writes_kept : (k : ℕ) (xs vs : List ℕ) (s : State) → Words32 vs → sound s ≡ true → sound (writes_from k xs vs s).state ≡ true
unfolding writes_from
writes_kept k [] vs s f e = e
writes_kept k (a ∷ xs) [] s f e = e
writes_kept k (a ∷ xs) (v ∷ vs) s f e =
    step (write_register s a v).answer.number (writes_kept (suc k) xs vs (write_register s a v).state (λ i. f (suc i)) (write_kept s a v (f 0) e))
  where
    step : (n : ℕ) → sound (writes_from (suc k) xs vs (write_register s a v).state).state ≡ true
        → sound (if_refused n (ending s n k) (writes_from (suc k) xs vs (write_register s a v).state)).state ≡ true
    step zero h = h
    step (suc n) h = e

pub burst_kept : (s : State) (xs vs : List ℕ) → Words32 vs → sound s ≡ true → sound (write_registers s xs vs).state ≡ true
burst_kept s xs vs f e = go (burst_refusal s xs vs) refl
  where
    go : (n : ℕ) → burst_refusal s xs vs ≡ n → sound (write_registers s xs vs).state ≡ true
    go zero z = rw (burst_begins s xs vs z) (writes_kept 0 xs vs s f e)
    go (suc n) z = rw (burst_declined s xs vs n z) e
