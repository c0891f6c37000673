-- At each test of the loop: the row's turns but those left were taken, and while some are left the engine is inside the row.
use Prim.Native.Nat.{◌+◌, ◌-◌, ◌/◌, ◌<◌, ◌≤◌}
use mathlib.Core.Path.{◌≡◌}
use mathlib.Core.Bool.{true}
use lib.ListN.{length}
use Rattle.words.specs.Memory.{memory}
use Rattle.sp.specs.Turn.{sp_after, memory_after}
use Rattle.rows.proofs.pieces.row.Given as goal

abbrev pub invariant-loop-left : goal.invariant-loop-left
invariant-loop-left l =
    (l.left ≤ l.words)
    × (0 < l.left → (l.s.busy ≡ true) × (l.left ≡ l.s.len / 8 + 1))
    × (l.s ≡ sp_after (l.words - l.left) l.initial.s)
    × (memory l.rdram l.dmem l.imem ≡ memory_after (l.words - l.left) l.initial.s (memory l.initial.rdram l.initial.dmem l.initial.imem))
    × (length l.rdram ≡ length l.initial.rdram)
    × (length l.dmem ≡ length l.initial.dmem)
    × (length l.imem ≡ length l.initial.imem)

abbrev pub decreases-loop-left : goal.decreases-loop-left
decreases-loop-left l = l.left
