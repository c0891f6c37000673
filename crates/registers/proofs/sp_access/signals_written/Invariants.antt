use Rattle.std.proofs.Common.{◌≡◌, ℕ, zero, suc, ◌+◌, ◌<◌, ◌^◌}
use Rattle.sp.specs.Registers.{signal}
use Rattle.registers.proofs.sp_access.signals_written.Given as goal

-- The signals below SIGk, each at its place
abbrev pub signals_below : ℕ → ℕ → ℕ → ℕ
signals_below signals v zero = 0
signals_below signals v (suc k) = signals_below signals v k + signal signals v k

abbrev pub invariant-loop-i : goal.invariant-loop-i
invariant-loop-i l = (l.written ≡ signals_below l.signals l.v l.i) × (l.written < 2 ^ l.i)
