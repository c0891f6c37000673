use native.Mathlib.Omega.{arith}
use Rattle.machine.specs.Refusals.{state_refusal, dp_refusal}
use Rattle.machine.proofs.Refusals.{passed_check}
use Rattle.checks.proofs.refusals.dp_refusal.Goals as goal

pub returns : goal.returns
unfolding dp_refusal state_refusal
returns c = grind (arith, passed_check)
