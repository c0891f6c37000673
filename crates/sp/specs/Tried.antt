-- One SP turn of a run with a budget: it is passed over without budget, or where the engine is
-- idle.
use Rattle.std.specs.Prelude.{ℕ, ◌+◌, ◌≡◌, Bool, cond, ◌&&◌, ltb}
use Rattle.words.specs.declared.stepped.Stepped.{Stepped}
use Rattle.words.specs.Memory.{Memory}
use Rattle.words.specs.Stepped.{ran}
use Rattle.sp.specs.declared.SpState.{SpState}
use Rattle.sp.specs.Turn.{sp_next, sp_move}

-- The turn has budget, and moves a word
abbrev pub may_move : SpState → ℕ → ℕ → Bool
may_move s taken budget = ltb taken budget && s.busy

-- What it gives where `taken` turns were taken before it, over the memory m at entry and m' at
-- exit. Passed over, it uses no budget
pub record SpTried (s : SpState) (taken budget : ℕ) (m : Memory) (r : Stepped SpState)
    (m' : Memory) : Type 0 where
  pub registers : r ≡ cond (may_move s taken budget) (ran (sp_next s) (taken + 1)) (ran s taken)
  pub bytes : m' ≡ cond (may_move s taken budget) (sp_move s m) m
