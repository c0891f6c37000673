-- A replay through mirrors of the DP registers is the replay through their first copy in everything but the addresses in its `R` lines, which are
-- the recorded ones. Of whatever code meets the promise (ReplayGives).
use Rattle.std.specs.Prelude.{ℕ, ◌≡◌, false, List, [], ◌∷◌, ◌++◌, eqb}
use Rattle.words.specs.Memory.{Memory}
use Rattle.machine.specs.declared.State.{State}
use Rattle.machine.specs.Address.{first_copy}
use Rattle.machine.specs.Refusals.{if_refused}
use Rattle.laws.specs.World.{World, world}
use Rattle.recording.specs.declared.Record.{Record}
use Rattle.recording.specs.declared.Record.TheVariants.{Read}
use Rattle.recording.specs.Kinds.{Bytes}
use Rattle.recording.specs.Fields.{fields_of}
use Rattle.recording.specs.Split.{split}
use Rattle.recording.specs.Mirrors.{bytes_at_first_copy}
use Rattle.listing.specs.Text.{Text, header, letter_r, found_line}
use Rattle.playback.specs.declared.Replayed.{Replayed}
use Rattle.playback.specs.Replay.{replay_refusal, replay}
use Rattle.playback.specs.Promised.{ReplayGives}

-- The lines x of these records and the lines y of the records at the first copy, with the last line. A read's line shows the recorded address in x,
-- its first copy in y, and the same value found and expected; every other line is the same
pub data SameLines : List Record → Text → Text → Type 0 where
  last : (l : Text) → SameLines [] l l
  reads : {rs : List Record} {x y : Text} (a found expected : ℕ) → SameLines rs x y
      → SameLines (Read a expected ∷ rs) (found_line letter_r false a found expected ++ x) (found_line letter_r false (first_copy a) found expected ++ y)
  others : {rs : List Record} {x y : Text} (r : Record) (l : Text) → eqb (fields_of r).kind 2 ≡ false → SameLines rs x y
      → SameLines (r ∷ rs) (l ++ x) (l ++ y)

-- With the first line
pub data SameListing (rs : List Record) : Text → Text → Type 0 where
  after_header : {x y : Text} → SameLines rs x y → SameListing rs (header ++ x) (header ++ y)

-- The records that a replay performs
abbrev pub performed : List ℕ → World → List Record
performed s w = if_refused (replay_refusal s w) [] (split s).items

-- The recording s was replayed from a state over the memory m, gave r and left m'; at the first copy it gave `first` and left m₁
pub record SameReplay (state : State) (s : List ℕ) (m : Memory) (r first : Replayed) (m' m₁ : Memory) : Type 0 where
  -- Number, value, count and state
  pub outcome : r.outcome ≡ first.outcome
  pub place : r.place ≡ first.place
  pub findings : r.findings ≡ first.findings
  pub memory : m' ≡ m₁
  pub written : r.written ≡ first.written
  pub listing : SameListing (performed s (world state m)) (replay s (world state m)).text (replay (bytes_at_first_copy s) (world state m)).text

abbrev pub EveryReplayAtFirstCopy : Type 0
EveryReplayAtFirstCopy = (state : State) (s : List ℕ) (m : Memory) (d : List ℕ)
    → (r : Replayed) (s' : List ℕ) (m' : Memory) (d' : List ℕ)
    → (first : Replayed) (s₁ : List ℕ) (m₁ : Memory) (d₁ : List ℕ)
    → Bytes s → ReplayGives state s m d r s' m' d' → ReplayGives state (bytes_at_first_copy s) m d first s₁ m₁ d₁
    → SameReplay state s m r first m' m₁
