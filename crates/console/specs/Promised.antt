-- What the programs' shared functions promise.
use Rattle.std.specs.Prelude.{ℕ, ◌≡◌, List, take}
use Rattle.words.specs.Memory.{Memory}
use Rattle.machine.specs.Sound.{power_up}
use Rattle.laws.specs.World.{world}
use Rattle.listing.specs.Text.{Text}
use Rattle.listing.specs.Summary.{passed_line, differs_line, nothing_line, refused_line}
use Rattle.playback.specs.declared.Findings.{Findings}
use Rattle.playback.specs.declared.Verdict.{Verdict}
use Rattle.playback.specs.declared.Verdict.TheVariants.{Refused, Differs, NothingCompared, Passed}
use Rattle.playback.specs.Replay.{Played, replay}
use Rattle.playback.specs.Verdict.{judged}
use Rattle.console.specs.declared.Report.{Report}

-- The line of each verdict. The count and the place are those of the declined record, and f has the first record that differed
abbrev pub summary_of : Verdict → ℕ → ℕ → Findings → Text
summary_of (Refused number compared differed) count place f = refused_line number count place
summary_of (Differs compared differed) count place f = differs_line compared differed f.index f.place
summary_of NothingCompared count place f = nothing_line
summary_of (Passed compared) count place f = passed_line compared

-- The line that sums a replay up
abbrev pub summary : Played → Text
summary p = summary_of (judged p.outcome.answer.number p.findings) p.outcome.answer.count p.place p.findings

-- The recording s was replayed from power-up over the memory m, and left m'; the first bytes of d are the whole listing, and those of l the line that
-- sums it up
pub record ReportGives (s : List ℕ) (m : Memory) (r : Report) (m' : Memory) (d l : List ℕ) : Type 0 where
  pub bytes : m' ≡ (replay s (world power_up m)).memory
  pub listing : take r.listing d ≡ (replay s (world power_up m)).text
  pub summary : take r.summary l ≡ summary (replay s (world power_up m))
