-- The call that finishes the current row (request (vi)): what it answers, and the memory that it leaves.
use Rattle.words.specs.Memory.{Memory}
use Rattle.sp.specs.Turn.{sp_after, memory_after}
use Rattle.sp.specs.Rows.{row_turns}
use Rattle.machine.specs.declared.State.{State}
use Rattle.machine.specs.declared.Outcome.{Outcome}
use Rattle.machine.specs.Sound.{with_sp}
use Rattle.machine.specs.Refusals.{sp_refusal, accepted, declined, if_refused}

-- The count is the words moved, dropped words and words read as zeros too
unfoldable pub sp_row : State → Memory → Outcome
sp_row s m =
    if_refused (sp_refusal s m) (declined s (sp_refusal s m))
    (accepted (with_sp s (sp_after (row_turns s.sp) s.sp)) 0 (row_turns s.sp))

unfoldable pub sp_row_memory : State → Memory → Memory
sp_row_memory s m = if_refused (sp_refusal s m) m (memory_after (row_turns s.sp) s.sp m)
