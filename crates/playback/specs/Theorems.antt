-- The theorems of a replay, of whatever code meets its promise (ReplayGives).
use Rattle.std.specs.Prelude.{ℕ, suc, ◌<◌, ◌≤◌, ◌≡◌, true, List, [], ◌∷◌, ◌++◌, ltb, eqb, length, take, drop}
use Rattle.words.specs.Memory.{Memory, Place, bytes_of}
use Rattle.machine.specs.declared.State.{State}
use Rattle.machine.specs.Sound.{sound}
use Rattle.machine.specs.Refusals.{sp_refusal, declined}
use Rattle.machine.specs.Calls.{read_register, write_register, tick, break, acknowledge}
use Rattle.laws.specs.World.{World, world}
use Rattle.recording.specs.declared.Record.{Record}
use Rattle.recording.specs.declared.Record.TheVariants.{None, Write, Read, SpRun, DpRun, Tick, Break, Acknowledge, Store, Check, Run}
use Rattle.recording.specs.Kinds.{Bytes}
use Rattle.recording.specs.Reader.{refused, read_record}
use Rattle.recording.specs.Split.{ReadOn}
use Rattle.listing.specs.Text.{header, stop_line}
use Rattle.playback.specs.declared.Replayed.{Replayed}
use Rattle.playback.specs.Effects.{replay_run, after}
use Rattle.playback.specs.Findings.{differs, differed, findings, no_findings}
use Rattle.playback.specs.Replay.{after_all, lines, last_line, replay_refusal, replay}
use Rattle.playback.specs.Promised.{ReplayGives}

-- The number that a record's call answers; stores and checks of memory are no calls
abbrev pub call_number : Record → World → ℕ
call_number None w = 0
call_number (Write a v) w = (write_register w.state a v).answer.number
call_number (Read a v) w = (read_register w.state a).answer.number
call_number (SpRun budget) w = (replay_run w budget 0).outcome.answer.number
call_number (DpRun budget) w = (replay_run w 0 budget).outcome.answer.number
call_number (Tick n) w = (tick w.state n).answer.number
call_number Break w = (break w.state).answer.number
call_number Acknowledge w = (acknowledge w.state).answer.number
call_number (Store a word) w = 0
call_number (Check a word) w = 0
call_number (Run spbudget dpbudget) w = (replay_run w spbudget dpbudget).outcome.answer.number

-- Each record's call succeeds in the world that the records before it left
abbrev pub Succeed : List Record → World → Type 0
Succeed [] w = Unit {0}
Succeed (r ∷ rs) w = (call_number r w ≡ 0) × Succeed rs (after r w)

-- Two replays left the same: count, state and memory; and found the same
pub record SameLeft (r r' : Replayed) (m m' : Memory) : Type 0 where
  pub count : r.outcome.answer.count ≡ r'.outcome.answer.count
  pub findings : r.findings ≡ r'.findings
  pub state : r.outcome.state ≡ r'.outcome.state
  pub memory : m ≡ m'

-- The first of the records that differs has the index k and begins at this place: none before it differs, and from there on the reader finds it
-- and the records after it, up to the place and the number that it comes to at last
pub record FirstDiffers (s : List ℕ) (w : World) (items : List Record) (last number k place : ℕ) : Type 0 where
  pub before : List Record
  pub item : Record
  pub rest : List Record
  pub in_order : items ≡ before ++ (item ∷ rest)
  pub index : k ≡ length before
  pub none_before : differed before w ≡ 0
  pub differs : differs item (after_all before w) ≡ true
  pub reads : ReadOn s place (item ∷ rest) last number

-- A replay of s in the world w that began, gave r and left the memory m'
pub record Begun (s : List ℕ) (w : World) (r : Replayed) (m' : Memory) : Type 0 where
  -- The records as the reader splits the recording: it accepts these, up to the place `last`, and declines the next one with the number given
  -- back; where that is 0, none is left
  pub items : List Record
  pub last : ℕ
  pub read : ReadOn s 0 items last r.outcome.answer.number
  pub count : r.outcome.answer.count ≡ length items
  pub value : r.outcome.answer.value ≡ 0
  -- The place given back is that of the declined record: the reader declines what begins there, with the number given back
  pub declined_at : (n : ℕ) → r.outcome.answer.number ≡ suc n
      → (r.place ≡ last) × (r.place < length s) × (read_record s r.place ≡ refused (suc n))
  pub none_declined : r.outcome.answer.number ≡ 0 → r.place ≡ 0
  -- What the accepted records found, whatever stopped the replay
  pub findings : r.findings ≡ findings items w
  pub first_differs : (n : ℕ) → r.findings.differed ≡ suc n
      → FirstDiffers s w items last r.outcome.answer.number r.findings.index r.findings.place
  pub none_differs : r.findings.differed ≡ 0 → (r.findings.index ≡ 0) × (r.findings.place ≡ 0)
  -- What the accepted records leave is left, and nothing else is done
  pub leaves : world r.outcome.state m' ≡ after_all items w
  -- The listing: the first line, a line for each accepted record that has one, and `end`, or `stop` with the number and that place
  pub text : (replay s w).text ≡ header ++ (lines items w ++ last_line r.outcome.answer.number r.outcome.answer.count r.place)
  -- The call of each accepted record answers 0
  pub succeed : Succeed items w
  -- Replaying the accepted records alone succeeds, and leaves the same
  pub alone : (d : List ℕ) (r' : Replayed) (s₁ : List ℕ) (m₁ : Memory) (d₁ : List ℕ)
      → ReplayGives w.state (take last s) w.memory d r' s₁ m₁ d₁ → (r'.outcome.answer.number ≡ 0) × SameLeft r r' m' m₁

-- The listing never has more bytes than this
abbrev pub longest_listing : ℕ
longest_listing = 69204

-- The recording s was replayed from a state over the memory m and the buffer d; it gave r and left m' and d'
pub record ReplayGiven (state : State) (s : List ℕ) (m : Memory) (d : List ℕ) (r : Replayed) (m' : Memory) (d' : List ℕ) : Type 0 where
  -- Declined by 9, 1, 2, 3 or 4 before its first record: nothing is done
  pub not_begun : (n : ℕ) → replay_refusal s (world state m) ≡ suc n
      → (r.outcome ≡ declined state (suc n))
      × (r.place ≡ 0)
      × (r.findings ≡ no_findings)
      × (m' ≡ m)
      × ((replay s (world state m)).text ≡ header ++ stop_line 0 (suc n) 0)
  pub begun : replay_refusal s (world state m) ≡ 0 → Begun s (world state m) r m'
  -- 9 exactly where the recording is longer than 16,383 bytes
  pub nine : eqb r.outcome.answer.number 9 ≡ ltb 16383 (length s)
  -- Else the checks are those of a call that takes RDRAM, DMEM and IMEM
  pub others : length s ≤ 16383 → replay_refusal s (world state m) ≡ sp_refusal state m
  -- A sound state stays sound, and every memory keeps its length
  pub keeps_sound : sound state ≡ true → sound r.outcome.state ≡ true
  pub lengths : (p : Place) → length (bytes_of p m') ≡ length (bytes_of p m)
  -- Where the buffer has room for the longest listing, the whole listing stands at its start, and the bytes after it are as before
  pub size : length (replay s (world state m)).text ≤ longest_listing
  pub whole : longest_listing ≤ length d
      → (take r.written d' ≡ (replay s (world state m)).text) × (drop r.written d' ≡ drop r.written d)

-- It holds of every replay
abbrev pub EveryReplay : Type 0
EveryReplay = (state : State) (s : List ℕ) (m : Memory) (d : List ℕ) (r : Replayed) (s' : List ℕ) (m' : Memory) (d' : List ℕ)
    → Bytes s → ReplayGives state s m d r s' m' d' → ReplayGiven state s m d r m' d'
