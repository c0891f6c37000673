-- An SP turn of a run that is taken, as the code comes to it.
use Prim.Native.Nat.{ℕ, ◌+◌}
use mathlib.Core.Path.{◌≡◌}
use mathlib.Core.Bool.{true}
use Rattle.words.specs.Memory.{Memory}
use Rattle.words.specs.Stepped.{ran}
use Rattle.sp.specs.declared.SpState.{SpState}
use Rattle.sp.specs.Turn.{sp_next, sp_move}
use Rattle.sp.specs.Tried.{may_move, SpTried}

module _ {s : SpState} {taken budget : ℕ} {m : Memory} where
  pub turn_taken : {t : SpState} {m' : Memory} → may_move s taken budget ≡ true → t ≡ sp_next s → m' ≡ sp_move s m
      → SpTried s taken budget m (ran t (taken + 1)) m'
  turn_taken on p q = record { registers = rw (on, p); bytes = rw (on, q) }
