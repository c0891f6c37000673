-- Several register writes in one call, a burst (request (vii)): the i-th value is written to the register at the i-th address.
use Rattle.std.specs.Prelude.{ℕ, suc, ◌≡◌, Bool, ◌&&◌, List, [], ◌∷◌, leb, eqb, length}
use Rattle.machine.specs.declared.State.{State}
use Rattle.machine.specs.declared.Outcome.{Outcome}
use Rattle.machine.specs.Refusals.{check, state_refusal, declined, ending, if_refused}
use Rattle.machine.specs.Calls.{write_register}

-- As many addresses as values, and at most 64
abbrev pub burst_allowed : List ℕ → List ℕ → Bool
burst_allowed xs vs = eqb (length xs) (length vs) && leb (length xs) 64

-- The checks before the first pair: 11, then 4
unfoldable pub burst_refusal : State → List ℕ → List ℕ → ℕ
burst_refusal s xs vs = check (burst_allowed xs vs) 11 (state_refusal s)

-- The writes after the first k, each on the state that the last one left. The first that is refused ends them, with its number, how many
-- succeeded and the state that these left
unfoldable pub writes_from : ℕ → List ℕ → List ℕ → State → Outcome
writes_from k [] vs s = ending s 0 k
writes_from k (a ∷ xs) [] s = ending s 0 k
writes_from k (a ∷ xs) (v ∷ vs) s =
    let o = write_register s a v in
    if_refused o.answer.number (ending s o.answer.number k) (writes_from (suc k) xs vs o.state)

unfoldable pub write_registers : State → List ℕ → List ℕ → Outcome
write_registers s xs vs = if_refused (burst_refusal s xs vs) (declined s (burst_refusal s xs vs)) (writes_from 0 xs vs s)

-- What the call promises, for every input: its outcome, and both lists at exit
pub record BurstGives (s : State) (xs vs : List ℕ) (o : Outcome) (xs' vs' : List ℕ) : Type 0 where
  pub outcome : o ≡ write_registers s xs vs
  pub addresses_kept : xs' ≡ xs
  pub values_kept : vs' ≡ vs
