-- The verdict on what a replay gives: refused, differs, nothing compared, passed, by the first that applies.
use Rattle.std.specs.Prelude.{ℕ, ◌<◌, ◌≡◌, not, cond, ◌&&◌, List, [], ltb, eqb}
use Rattle.words.specs.Memory.{Memory}
use Rattle.machine.specs.declared.State.{State}
use Rattle.machine.specs.Refusals.{if_refused}
use Rattle.laws.specs.World.{world}
use Rattle.recording.specs.Split.{split}
use Rattle.listing.specs.TakenApart.{count_lines, compared_line, expected_line}
use Rattle.playback.specs.declared.Findings.{Findings}
use Rattle.playback.specs.declared.Replayed.{Replayed}
use Rattle.playback.specs.declared.Verdict.{Verdict}
use Rattle.playback.specs.declared.Verdict.TheVariants.{Refused, Differs, NothingCompared, Passed}
use Rattle.playback.specs.Findings.{compared, differed}
use Rattle.playback.specs.Replay.{replay_refusal, replay}
use Rattle.playback.specs.Promised.{ReplayGives}

-- Of a number and what was found, whatever they are
unfoldable pub judged : ℕ → Findings → Verdict
judged number f =
    if_refused number (Refused number f.compared f.differed)
    (cond (ltb 0 f.differed) (Differs f.compared f.differed)
    (cond (eqb f.compared 0) NothingCompared
    (Passed f.compared)))

-- Of what a replay gives
abbrev pub verdict : Replayed → Verdict
verdict r = judged r.outcome.answer.number r.findings

-- Paper 01's number of each case, how many records were compared and how many of them differed
abbrev pub number_of : Verdict → ℕ
number_of (Refused number compared differed) = number
number_of (Differs compared differed) = 0
number_of NothingCompared = 0
number_of (Passed compared) = 0

abbrev pub compared_of : Verdict → ℕ
compared_of (Refused number compared differed) = compared
compared_of (Differs compared differed) = compared
compared_of NothingCompared = 0
compared_of (Passed compared) = compared

abbrev pub differed_of : Verdict → ℕ
differed_of (Refused number compared differed) = differed
differed_of (Differs compared differed) = differed
differed_of NothingCompared = 0
differed_of (Passed compared) = 0

-- What the verdict v on what a replay gave promises, for every value of r: the case, and with it the number and the values that it stands for
pub record VerdictGives (r : Replayed) (v : Verdict) : Type 0 where
  pub given : v ≡ verdict r
  pub number : number_of v ≡ r.outcome.answer.number
  pub compared : compared_of v ≡ r.findings.compared
  pub differed : differed_of v ≡ r.findings.differed

-- The code of each case, as host programs get it. It is no number of a refusal, and never 0
abbrev pub code_of : Verdict → ℕ
code_of (Refused number compared differed) = 103
code_of (Differs compared differed) = 101
code_of NothingCompared = 102
code_of (Passed compared) = 100

-- ---- What is proved of it

-- Of every number and whatever was found, also what no replay gives
pub record Judged (n : ℕ) (f : Findings) : Type 0 where
  -- Nothing is lost
  pub number : number_of (judged n f) ≡ n
  pub compared : compared_of (judged n f) ≡ f.compared
  pub differed : differed_of (judged n f) ≡ f.differed
  -- Each case exactly where it applies
  pub refused : eqb (code_of (judged n f)) 103 ≡ not (eqb n 0)
  pub differs : eqb (code_of (judged n f)) 101 ≡ eqb n 0 && ltb 0 f.differed
  pub nothing : eqb (code_of (judged n f)) 102 ≡ eqb n 0 && eqb f.differed 0 && eqb f.compared 0
  pub passed : eqb (code_of (judged n f)) 100 ≡ eqb n 0 && eqb f.differed 0 && ltb 0 f.compared

-- A replay passed, with n records compared, exactly if it began, every record was accepted, n of them compared, at least one, and none differed
pub record Passes (s : List ℕ) (state : State) (m : Memory) (n : ℕ) : Type 0 where
  pub began : replay_refusal s (world state m) ≡ 0
  pub accepted : (split s).number ≡ 0
  pub compared : compared (split s).items (world state m) ≡ n
  pub some : 0 < n
  pub as_expected : differed (split s).items (world state m) ≡ 0

abbrev pub EveryPass : Type 0
EveryPass = (state : State) (s : List ℕ) (m : Memory) (d : List ℕ) (r : Replayed) (s' : List ℕ) (m' : Memory) (d' : List ℕ) (n : ℕ)
    → ReplayGives state s m d r s' m' d' → (verdict r ≡ Passed n → Passes s state m n) × (Passes s state m n → verdict r ≡ Passed n)

-- What a replay found is what its listing shows: as many `R` and `L` lines as were compared, and `expected` in as many of them as differed
pub record Shown (s : List ℕ) (state : State) (m : Memory) (r : Replayed) : Type 0 where
  pub compared : count_lines compared_line [] (replay s (world state m)).text ≡ r.findings.compared
  pub differed : count_lines expected_line [] (replay s (world state m)).text ≡ r.findings.differed

abbrev pub EveryReplayShown : Type 0
EveryReplayShown = (state : State) (s : List ℕ) (m : Memory) (d : List ℕ) (r : Replayed) (s' : List ℕ) (m' : Memory) (d' : List ℕ)
    → ReplayGives state s m d r s' m' d' → Shown s state m r
