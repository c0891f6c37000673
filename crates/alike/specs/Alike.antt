-- Which slot the oldest queued word has, and what stands in slots that hold no queued word, is representation: two sound states that differ in nothing else
-- are the same to every call.
use Rattle.std.specs.Prelude.{ℕ, ◌<◌, ◌≡◌, true, List}
use Rattle.words.specs.Memory.{Memory}
use Rattle.dp.specs.declared.DpState.{DpState}
use Rattle.dp.specs.State.{with_queue}
use Rattle.dp.specs.Queue.{queued_words}
use Rattle.machine.specs.declared.State.{State}
use Rattle.machine.specs.declared.Outcome.{Outcome}
use Rattle.machine.specs.Sound.{sound}
use Rattle.machine.specs.Calls
use Rattle.machine.specs.Turns
use Rattle.machine.specs.Rows
use Rattle.machine.specs.Runs
use Rattle.machine.specs.Look.{look}
use Rattle.bursts.specs.Bursts.{write_registers}
use Rattle.bursts.specs.Single.{Words32}

-- The registers of the DP with the slot of the oldest word left out
abbrev pub without_slot : DpState → DpState
without_slot d = with_queue d d.queued 0

-- The same registers, and the same words queued in the same order
pub record Alike (s t : State) : Type 0 where
  pub first_sound : sound s ≡ true
  pub second_sound : sound t ≡ true
  pub sp : s.sp ≡ t.sp
  pub dp : without_slot s.dp ≡ without_slot t.dp
  pub words : queued_words s.dp s.queue ≡ queued_words t.dp t.queue

-- Two outcomes with the same number, value and count, that leave such states again
pub record SameOutcome (o p : Outcome) : Type 0 where
  pub answer : o.answer ≡ p.answer
  pub states : Alike o.state p.state

-- A run gives the same counts and leaves the same bytes
pub record SameRun (s t : State) (a b c : ℕ) (m : Memory) (out : List ℕ) : Type 0 where
  pub outcome : SameOutcome (Runs.run s a b c m out).outcome (Runs.run t a b c m out).outcome
  pub words : (Runs.run s a b c m out).words ≡ (Runs.run t a b c m out).words
  pub bytes : (Runs.end_of_run s a b c m out).memory ≡ (Runs.end_of_run t a b c m out).memory
  pub output : (Runs.end_of_run s a b c m out).out ≡ (Runs.end_of_run t a b c m out).out

pub record CallsAlike (s t : State) : Type 0 where
  pub read : (a : ℕ) → SameOutcome (Calls.read_register s a) (Calls.read_register t a)
  pub write : (a v : ℕ) → v < 0x100000000 → SameOutcome (Calls.write_register s a v) (Calls.write_register t a v)
  pub burst : (xs vs : List ℕ) → Words32 vs → SameOutcome (write_registers s xs vs) (write_registers t xs vs)
  pub tick : (n : ℕ) → SameOutcome (Calls.tick s n) (Calls.tick t n)
  pub break : SameOutcome (Calls.break s) (Calls.break t)
  pub acknowledge : SameOutcome (Calls.acknowledge s) (Calls.acknowledge t)
  pub sp_turn : (m : Memory) → SameOutcome (Turns.sp_turn s m) (Turns.sp_turn t m)
  pub sp_turn_bytes : (m : Memory) → Turns.sp_turn_memory s m ≡ Turns.sp_turn_memory t m
  pub sp_row : (m : Memory) → SameOutcome (Rows.sp_row s m) (Rows.sp_row t m)
  pub sp_row_bytes : (m : Memory) → Rows.sp_row_memory s m ≡ Rows.sp_row_memory t m
  pub dp_turn : (rdram dmem : List ℕ) → SameOutcome (Turns.dp_turn s rdram dmem) (Turns.dp_turn t rdram dmem)
  pub consumer_turn : SameOutcome (Turns.consumer_turn s) (Turns.consumer_turn t)
  pub run : (a b c : ℕ) (m : Memory) (out : List ℕ) → SameRun s t a b c m out
  pub look : (rdram dmem : List ℕ) → look s rdram dmem ≡ look t rdram dmem
