use Prim.Native.Nat.{◌-◌, ◌≤◌}
use mathlib.Core.Path.{◌≡◌}
use lib.ListN.{length}
use Rattle.words.specs.Lent.{lent, SameLent}
use Rattle.laws.specs.World.{world}
use Rattle.recording.proofs.Splitting.{split_at}
use Rattle.playback.specs.Findings.{no_findings}
use Rattle.playback.proofs.Found.{Quiet}
use Rattle.playback.proofs.Steps.{Leads}
use Rattle.player.proofs.playing.play.Given as goal

abbrev pub invariant-loop-at : goal.invariant-loop-at
invariant-loop-at l =
    (l.at ≤ length l.recording)
    × (l.count ≤ l.at)
    × (l.lines.out.ghost_name ≡ l.initial.lines.out.ghost_name)
    × Leads l.count l.findings l.at (split_at l.at l.recording)
    (world l.state (lent l.m)) l.lines.out.now l.lines.at
    0 no_findings 0 (split_at 0 l.recording)
    (world l.initial.state (lent l.initial.m)) l.initial.lines.out.now l.initial.lines.at
    × (l.findings.compared ≤ l.count)
    × (l.findings.differed ≤ l.count)
    × Quiet l.findings
    × SameLent l.initial.m l.m

abbrev pub decreases-loop-at : goal.decreases-loop-at
decreases-loop-at l =
    length l.recording - l.at
