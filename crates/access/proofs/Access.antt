-- A write to a register is accepted.
use Prim.Native.Nat.{ℕ}
use mathlib.Core.Path.{◌≡◌, refl}
use Rattle.std.specs.Prelude.{Ok}
use Rattle.machine.specs.declared.State.{State}
use Rattle.machine.specs.declared.Register.{Register}
use Rattle.machine.specs.declared.Register.TheVariants.{Sp, Dp}
use Rattle.machine.specs.Refusals.{accepted}
use Rattle.machine.specs.Calls.{write_at}

pub write_accepted : (r : Register) (s : State) (v : ℕ)
    → accepted (write_at (Ok r) s v).state 0 0 ≡ write_at (Ok r) s v
write_accepted (Sp r) s v = refl
write_accepted (Dp r) s v = refl
