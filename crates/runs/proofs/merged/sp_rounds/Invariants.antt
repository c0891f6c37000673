-- Between two rounds, or before the SP's words at once: whoever finishes the run from here has
-- finished the whole run, and `on` says whether a DP turn or a consumer turn acts. Lent memory is
-- still behind the same references, and the output keeps its length.
use Rattle.std.proofs.Common.{◌≡◌, ◌||◌, length}
use Rattle.words.specs.Lent.{lent, SameLent}
use Rattle.dp.specs.Tried.{may_fetch, may_consume}
use Rattle.machine.specs.Runs.{left, merged}
use Rattle.runs.specs.Standing.{standing, cut_to, end_from}
use Rattle.runs.proofs.Alone.{Between}
use Rattle.runs.proofs.merged.sp_rounds.Given as goal

abbrev pub invariant-loop-moved-2 : goal.invariant-loop-moved-2
invariant-loop-moved-2 l =
    let i = l.initial in
    Between (cut_to l.spbudget l.dpbudget l.room)
    (standing i.sp i.dp i.queue (lent i.m) i.out i.moved i.got i.words)
    (standing l.sp l.dp l.queue (lent l.m) l.out l.moved l.got l.words) l.on l.stop
    × SameLent i.m l.m
    × (length l.out ≡ length i.out)

abbrev pub decreases-loop-moved-2 : goal.decreases-loop-moved-2
decreases-loop-moved-2 l =
    left (cut_to l.spbudget l.dpbudget l.room)
    (standing l.sp l.dp l.queue (lent l.m) l.out l.moved l.got l.words)

abbrev pub invariant-loop-moved : goal.invariant-loop-moved
invariant-loop-moved l =
    let i = l.initial in
    (merged (cut_to l.spbudget l.dpbudget l.room)
    (standing l.sp l.dp l.queue (lent l.m) l.out l.moved l.got l.words)
    ≡ end_from i.sp i.dp i.queue l.spbudget l.dpbudget l.room (lent i.m) i.out)
    × (l.on ≡ (may_fetch l.dp l.got l.dpbudget || may_consume l.dp l.words l.room))
    × SameLent i.m l.m
    × (length l.out ≡ length i.out)

abbrev pub decreases-loop-moved : goal.decreases-loop-moved
decreases-loop-moved l =
    left (cut_to l.spbudget l.dpbudget l.room)
    (standing l.sp l.dp l.queue (lent l.m) l.out l.moved l.got l.words)
