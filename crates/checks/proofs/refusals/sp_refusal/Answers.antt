use native.Mathlib.Omega.{arith}
use Rattle.machine.specs.Refusals.{state_refusal, sp_refusal}
use Rattle.machine.proofs.Refusals.{passed_check}
use Rattle.checks.proofs.refusals.sp_refusal.Goals as goal

pub returns : goal.returns
unfolding sp_refusal state_refusal
returns c = grind (arith, passed_check)
