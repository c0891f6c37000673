use native.Mathlib.Omega.{arith}
use Rattle.machine.specs.Refusals.{state_refusal, access_refusal}
use Rattle.machine.proofs.Refusals.{passed_check}
use Rattle.checks.proofs.refusals.access_refusal.Goals as goal

pub returns-in_err-state_refusal-clause-number : goal.returns-in_err-state_refusal-clause-number
unfolding access_refusal state_refusal
returns-in_err-state_refusal-clause-number c = grind (arith, passed_check)

pub returns-in_err-register_at-clause-number : goal.returns-in_err-register_at-clause-number
unfolding access_refusal state_refusal
returns-in_err-register_at-clause-number c = grind (arith, passed_check)

pub returns-clause-number : goal.returns-clause-number
unfolding access_refusal state_refusal
returns-clause-number c = grind (arith, passed_check)
