-- What a replay promises, for every input, and what the steps of its code promise.
use Rattle.std.specs.Prelude.{ℕ, ◌+◌, min, ◌≡◌, Bool, if◌then◌else◌, ◌&&◌, ◌==◌}
use Rattle.std.specs.Prelude.{List, ◌++◌, length, take, drop}
use Rattle.words.specs.Bits.{as_bit}
use Rattle.words.specs.Memory.{Memory}
use Rattle.machine.specs.declared.State.{State}
use Rattle.machine.specs.declared.Outcome.{Outcome}
use Rattle.laws.specs.World.{World, world}
use Rattle.recording.specs.declared.Record.{Record}
use Rattle.recording.specs.Split.{Split}
use Rattle.listing.specs.Text.{Text}
use Rattle.listing.specs.Put.{Put}
use Rattle.playback.specs.declared.Findings.{Findings}
use Rattle.playback.specs.declared.Replayed.{Replayed}
use Rattle.playback.specs.Effects.{after, line}
use Rattle.playback.specs.Findings.{compares, differs}
use Rattle.playback.specs.Replay.{played, replay}

-- The recording s was replayed from a state over the memory m, with the lent buffer d for the listing; r was given back, and m', d' and s' are
-- the lent bytes at exit. As much of the listing as has room stands from the buffer's start on, `written` says how many bytes that is, and the
-- buffer's bytes after them are as before
pub record ReplayGives (state : State) (s : List ℕ) (m : Memory) (d : List ℕ) (r : Replayed) (s' : List ℕ) (m' : Memory) (d' : List ℕ) : Type 0 where
  pub outcome : r.outcome ≡ (replay s (world state m)).outcome
  pub place : r.place ≡ (replay s (world state m)).place
  pub findings : r.findings ≡ (replay s (world state m)).findings
  pub bytes : m' ≡ (replay s (world state m)).memory
  pub written : r.written ≡ min (length (replay s (world state m)).text) (length d)
  pub listing : d' ≡ take (length d) (replay s (world state m)).text ++ drop (length (replay s (world state m)).text) d
  pub recording_kept : s' ≡ s

-- ---- The steps

-- A call that gave o is listed by a text: the state after it, and the place after the text
pub record ShowGives (o : Outcome) (text : Text) (d : List ℕ) (at : ℕ) (state : State) (d' : List ℕ) (place : ℕ) : Type 0 where
  pub given : state ≡ o.state
  pub listed : Put d at text d' place

-- A record was performed in the world w, which left the world w'; it is told whether it compared, and whether what it found differed
pub record PerformGives (item : Record) (w : World) (d : List ℕ) (at : ℕ) (w' : World) (d' : List ℕ) (place : ℕ) (compared' differed' : Bool) : Type 0 where
  pub leaves : w' ≡ after item w
  pub listed : Put d at (line item w) d' place
  pub compared : compared' ≡ compares item
  pub differed : differed' ≡ differs item w

-- What was found so far, and one record more, which has this index and begins at this place
unfoldable pub noted : Findings → Bool → Bool → ℕ → ℕ → Findings
noted f compared differed index place =
    record {
      compared = f.compared + as_bit compared;
      differed = f.differed + as_bit differed;
      index = if differed && (f.differed == 0) then index else f.index;
      place = if differed && (f.differed == 0) then place else f.place;
    }

-- The records of a recording were performed, and the last line was written
pub record PlayGives (x : Split) (w : World) (d : List ℕ) (at : ℕ) (r : Replayed) (m' : Memory) (d' : List ℕ) : Type 0 where
  pub outcome : r.outcome ≡ (played x w).outcome
  pub place : r.place ≡ (played x w).place
  pub findings : r.findings ≡ (played x w).findings
  pub bytes : m' ≡ (played x w).memory
  pub listed : Put d at (played x w).text d' r.written
