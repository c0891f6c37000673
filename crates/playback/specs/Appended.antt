-- A recording that the writer made is replayed as the records that were appended, of whatever code meets the two promises (WriteRecordGives and
-- ReplayGives).
use Rattle.std.specs.Prelude.{ℕ, ◌≤◌, ◌≡◌, List, ◌++◌, length, take}
use Rattle.words.specs.Memory.{Memory}
use Rattle.machine.specs.declared.State.{State}
use Rattle.machine.specs.Refusals.{sp_refusal}
use Rattle.laws.specs.World.{World, world}
use Rattle.recording.specs.declared.Record.{Record}
use Rattle.recording.specs.Split.{split}
use Rattle.recording.specs.Written.{Appends}
use Rattle.listing.specs.Text.{header, end_line}
use Rattle.playback.specs.declared.Replayed.{Replayed}
use Rattle.playback.specs.Findings.{findings}
use Rattle.playback.specs.Replay.{after_all, lines, replay}
use Rattle.playback.specs.Promised.{ReplayGives}

-- The replay of s in the world w, which gave r and left the memory m', did these records in order and ended
pub record Replays (rs : List Record) (s : List ℕ) (w : World) (r : Replayed) (m' : Memory) : Type 0 where
  pub number : r.outcome.answer.number ≡ 0
  pub count : r.outcome.answer.count ≡ length rs
  pub place : r.place ≡ 0
  pub findings : r.findings ≡ findings rs w
  pub leaves : world r.outcome.state m' ≡ after_all rs w
  pub text : (replay s w).text ≡ header ++ (lines rs w ++ end_line (length rs))

-- Appended from a place on, up to which the buffer holds a recording of the records qs, all accepted; from the start on, there are none. The checks
-- of state and memory pass
abbrev pub EveryAppendReplayed : Type 0
EveryAppendReplayed = (d : List ℕ) (at : ℕ) (qs rs : List Record) (d' : List ℕ) (last : ℕ)
    → at ≤ length d → at ≤ 16383 → (split (take at d)).items ≡ qs → (split (take at d)).number ≡ 0 → Appends d at rs d' last
    → (state : State) (m : Memory) (out : List ℕ) (r : Replayed) (s' : List ℕ) (m' : Memory) (out' : List ℕ)
    → sp_refusal state m ≡ 0 → ReplayGives state (take last d') m out r s' m' out'
    → Replays (qs ++ rs) (take last d') (world state m) r m'

abbrev pub EveryRecordingReplayed : Type 0
EveryRecordingReplayed = (d : List ℕ) (rs : List Record) (d' : List ℕ) (last : ℕ) → Appends d 0 rs d' last
    → (state : State) (m : Memory) (out : List ℕ) (r : Replayed) (s' : List ℕ) (m' : Memory) (out' : List ℕ)
    → sp_refusal state m ≡ 0 → ReplayGives state (take last d') m out r s' m' out' → Replays rs (take last d') (world state m) r m'
