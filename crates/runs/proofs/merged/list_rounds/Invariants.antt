-- Between two rounds: whoever finishes the run from here has finished the whole run, whatever the SP is, as long as its turn is passed over.
use Rattle.std.proofs.Common.{◌≡◌, ℕ, false, List, [], length}
use Rattle.words.specs.Memory.{memory}
use Rattle.sp.specs.declared.SpState.{SpState}
use Rattle.sp.specs.State.{sp_power_up}
use Rattle.machine.specs.Runs.{sp, acts, left, merged}
use Rattle.runs.specs.Standing.{standing, cut_to}
use Rattle.runs.proofs.merged.list_rounds.Given as goal

abbrev pub invariant-loop-queue : goal.invariant-loop-queue
invariant-loop-queue l =
    ((s : SpState) (moved spbudget : ℕ) (imem : List ℕ)
    → acts (cut_to spbudget l.dpbudget l.room) sp (standing s l.initial.dp l.initial.queue (memory l.rdram l.dmem imem) l.initial.out moved l.initial.got l.initial.words) ≡ false
    → merged (cut_to spbudget l.dpbudget l.room) (standing s l.dp l.queue (memory l.rdram l.dmem imem) l.out moved l.got l.words)
    ≡ merged (cut_to spbudget l.dpbudget l.room) (standing s l.initial.dp l.initial.queue (memory l.rdram l.dmem imem) l.initial.out moved l.initial.got l.initial.words))
    × (length l.out ≡ length l.initial.out)

-- What is left of the two budgets: an SP at rest, without budget, has none
abbrev pub decreases-loop-queue : goal.decreases-loop-queue
decreases-loop-queue l =
    left (cut_to 0 l.dpbudget l.room) (standing sp_power_up l.dp l.queue (memory l.rdram l.dmem []) l.out 0 l.got l.words)
