-- What is proved of a burst: it is the single writes that it does, where it stops and why, and that it can be cut in two.
use Rattle.std.specs.Prelude.{ℕ, suc, ◌+◌, ◌<◌, ◌≡◌, Bool, true, not, cond, ◌&&◌, ◌↔◌, List, [], ◌∷◌, ◌++◌, ltb, eqb, length, get_or}
use Rattle.machine.specs.declared.State.{State}
use Rattle.machine.specs.declared.Outcome.{Outcome}
use Rattle.machine.specs.Sound.{sound}
use Rattle.machine.specs.Address.{aligned, register_at}
use Rattle.machine.specs.Refusals.{is_register, declined, ending, if_refused}
use Rattle.machine.specs.Promised.{WriteGives}
use Rattle.bursts.specs.Bursts.{burst_allowed, burst_refusal, BurstGives}

-- The values are 32-bit numbers, as in code by their type
abbrev pub Words32 : List ℕ → Type 0
Words32 vs = (i : ℕ) → get_or vs i 0 < 0x100000000

-- ---- A burst and single writes

-- The pairs are written by single calls, each on the state that the last one left, up to the first that is refused: k succeeded, the last call
-- left t, and n is the number of the refused one, 0 if there is none
pub data Singly : (xs vs : List ℕ) (s : State) (n k : ℕ) (t : State) → Type 0 where
  done : {s : State} → Singly [] [] s 0 0 s
  refused : {a v n : ℕ} {xs vs : List ℕ} {s : State} {o : Outcome} → WriteGives s a v o → o.answer.number ≡ suc n
      → Singly (a ∷ xs) (v ∷ vs) s (suc n) 0 o.state
  written : {a v n k : ℕ} {xs vs : List ℕ} {s t : State} {o : Outcome} → WriteGives s a v o → o.answer.number ≡ 0
      → Singly xs vs o.state n k t
      → Singly (a ∷ xs) (v ∷ vs) s n (suc k) t

-- A burst on s gave o
pub record BurstIsSingle (s : State) (xs vs : List ℕ) (o : Outcome) : Type 0 where
  -- Declined by 11 or 4 nothing is done
  pub declined_first : (k : ℕ) → burst_refusal s xs vs ≡ suc k → o ≡ declined s (suc k)
  -- Otherwise it gives number, count and state of the single writes, and value 0, and of these alone
  pub as_single : burst_refusal s xs vs ≡ 0 → (n k : ℕ) (t : State) → Singly xs vs s n k t ↔ (o ≡ ending t n k)

-- ---- Where it stops, and why

-- How many addresses stand before the first where there is no register
unfoldable pub leading : List ℕ → ℕ
leading [] = 0
leading (a ∷ xs) = cond (is_register (register_at a)) (suc (leading xs)) 0

-- How many pairs a burst of a sound state writes
abbrev pub pairs_written : List ℕ → List ℕ → ℕ
pairs_written xs vs = cond (burst_allowed xs vs) (leading xs) 0

-- Some address has no register
abbrev pub stops : List ℕ → Bool
stops xs = ltb (leading xs) (length xs)

-- The first of them is a multiple of 4
abbrev pub stop_aligned : List ℕ → Bool
stop_aligned xs = aligned (get_or xs (leading xs) 0)

-- Each number is given exactly in its case, and the count is how many pairs stand before the one that is refused
pub record BurstNumbers (s : State) (xs vs : List ℕ) (o : Outcome) : Type 0 where
  pub size_number : eqb o.answer.number 11 ≡ not (burst_allowed xs vs)
  pub state_number : eqb o.answer.number 4 ≡ burst_allowed xs vs && not (sound s)
  pub aligned_number : eqb o.answer.number 10 ≡ burst_allowed xs vs && sound s && stops xs && not (stop_aligned xs)
  pub mapped_number : eqb o.answer.number 5 ≡ burst_allowed xs vs && sound s && stops xs && stop_aligned xs
  pub success : eqb o.answer.number 0 ≡ burst_allowed xs vs && sound s && not (stops xs)
  pub count : o.answer.count ≡ cond (sound s) (pairs_written xs vs) 0
  pub value : o.answer.value ≡ 0

-- ---- A burst of two lists is the bursts one after the other

-- An outcome with k more counted
abbrev pub later : ℕ → Outcome → Outcome
later k o = ending o.state o.answer.number (k + o.answer.count)

-- Where the first one is refused the second is not made
abbrev pub BurstSplits : Type 0
BurstSplits = (s : State) (xs vs ys us : List ℕ) (o p q : Outcome) (xs' vs' ys' us' zs' ws' : List ℕ)
    → Words32 vs → length xs ≡ length vs → burst_allowed (xs ++ ys) (vs ++ us) ≡ true
    → BurstGives s xs vs o xs' vs'
    → BurstGives o.state ys us p ys' us'
    → BurstGives s (xs ++ ys) (vs ++ us) q zs' ws'
    → q ≡ if_refused o.answer.number o (later o.answer.count p)
