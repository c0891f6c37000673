-- A replay from power-up whose buffers have room for every listing and for the line that sums it up.
use Prim.Native.Nat.{ℕ, ◌≤◌}
use mathlib.Core.Path.{◌≡◌, sym, ◌∙◌}
use mathlib.Core.List.{List}
use native.Mathlib.Omega.{arith}
use lib.ListN.{length, take}
use lib.Seq.{length-take-le}
use Rattle.io.specs.Counts.{IsPrefixLen}
use Rattle.words.specs.Memory.{Memory}
use Rattle.machine.specs.declared.State.{State}
use Rattle.machine.specs.Sound.{power_up}
use Rattle.laws.specs.World.{world}
use Rattle.listing.specs.Text.{Text}
use Rattle.listing.specs.Put.{Put}
use Rattle.listing.proofs.Putting.{put_length, from_start}
use Rattle.listing.proofs.Summary.{length_passed, length_differs, length_nothing, length_refused}
use Rattle.playback.specs.declared.Findings.{Findings}
use Rattle.playback.specs.declared.Replayed.{Replayed}
use Rattle.playback.specs.declared.Verdict.{Verdict}
use Rattle.playback.specs.declared.Verdict.TheVariants.{Refused, Differs, NothingCompared, Passed}
use Rattle.playback.specs.Replay.{replay}
use Rattle.playback.specs.Promised.{ReplayGives}
use Rattle.playback.specs.Theorems.{longest_listing}
use Rattle.playback.specs.Verdict.{judged, verdict}
use Rattle.playback.proofs.Replaying.{whole_text, has_room_lem}
use Rattle.console.specs.Promised.{summary_of, summary, ReportGives}

-- A number within a list counts its first bytes
pub counts : (n : ℕ) (l : List ℕ) → n ≤ length l → IsPrefixLen n l
counts n l h = (h, sym (length-take-le n l h))

summary_size : (v : Verdict) (count place : ℕ) (f : Findings) → length (summary_of v count place f) ≤ 128
summary_size (Refused number compared differed) count place f = length_refused number count place
summary_size (Differs compared differed) count place f = length_differs compared differed f.index f.place
summary_size NothingCompared count place f = length_nothing
summary_size (Passed compared) count place f = length_passed compared

-- A text that was put at the start of 128 bytes stands there whole
whole_line : {d d' : List ℕ} {r : ℕ} (t : Text) → length d ≡ 128 → length t ≤ 128 → Put d 0 t d' r → (take r d' ≡ t) × (r ≤ length d')
whole_line {d} {d'} {r} t e h put =
    let s = from_start put in
    ((whole_text t d d' r (omega arith) s.0 s.1).0, omega (arith, s.0, put_length put))

-- What is summed up is what the replay gives
same_summary : (state : State) (s : List ℕ) (m : Memory) (d : List ℕ) (r : Replayed) (s' : List ℕ) (m' : Memory) (d' : List ℕ)
    → ReplayGives state s m d r s' m' d'
    → summary_of (verdict r) r.outcome.answer.count r.place r.findings ≡ summary (replay s (world state m))
same_summary state s m d r s' m' d' g =
    λ i. summary_of (judged (g.outcome i).answer.number (g.findings i)) (g.outcome i).answer.count (g.place i) (g.findings i)

pub report_given : (state : State) (s : List ℕ) (m : Memory) (d : List ℕ) (r : Replayed) (s' : List ℕ) (m' : Memory) (d' : List ℕ)
    → {l l' : List ℕ} {p : ℕ} (n : ℕ) → state ≡ power_up → longest_listing ≤ length d → length l ≡ 128
    → ReplayGives state s m d r s' m' d'
    → Put l 0 (summary_of (verdict r) r.outcome.answer.count r.place r.findings) l' p → n ≡ p
    → ReportGives s m (record { listing = r.written; summary = n }) m' d' l' × (IsPrefixLen r.written d' × IsPrefixLen n l')
report_given state s m d r s' m' d' {l} {l'} n e room size g put at =
    let q : ReplayGives power_up s m d r s' m' d' = rw e at g in
    let x = has_room_lem power_up s m d r s' m' d' q room in
    let short = summary_size (verdict r) r.outcome.answer.count r.place r.findings in
    let y = whole_line _ size short (rw at put) in (
      record { bytes = q.bytes; listing = x.1; summary = y.0 ∙ same_summary power_up s m d r s' m' d' q },
      (counts r.written d' x.0, counts n l' y.1),
    )
