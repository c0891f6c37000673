use mathlib.Core.Path.{◌∙◌}
use Rattle.machine.specs.Calls.{break}
use Rattle.access.proofs.events.sp_break.Goals as goal

pub returns : goal.returns
unfolding break
returns c = record { outcome = c.state_call.ensures ∙ simp (c.with_sp.ensures, c.after_break.ensures) }
