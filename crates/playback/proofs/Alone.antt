-- Only runs with an SP budget and stores change memory; stores and checks leave the state alone. Runs with one budget 0.
use Prim.Native.Nat.{ℕ, zero, suc}
use mathlib.Core.Path.{◌≡◌, refl, sym, ap, ◌∙◌}
use mathlib.Core.Bool.{true, ◌&&◌}
use lib.Dec.{eqb}
use Rattle.words.proofs.Tests.{and_true, contradiction}
use Rattle.sp.specs.Turn.{sp_taken, sp_after, memory_after}
use Rattle.machine.specs.Sound.{sound}
use Rattle.machine.specs.Refusals.{sp_refusal}
use Rattle.machine.proofs.Refusals.{sp_number_lem, sp_checked, run_stays}
use Rattle.machine.proofs.Runs.{sp_part, sp_alone}
use Rattle.laws.specs.World.{World, world, sp_lengths}
use Rattle.laws.proofs.Left.{words_drawn}
use Rattle.recording.specs.declared.Record.{Record}
use Rattle.recording.specs.declared.Record.TheVariants.{None, Write, Read, SpRun, DpRun, Tick, Break, Acknowledge, Store, Check, Run}
use Rattle.playback.specs.Effects.{room, after_run, sp_line, after, line}
use Rattle.listing.specs.Text.{letter_d, run_line}
use Rattle.playback.specs.Stores.{keeps_memory, LeftAlone}
use Rattle.playback.specs.Runs.{RunsAlone}

-- A run without budget for the SP
without_sp : (w : World) (budget n : ℕ) → sp_refusal w.state w.memory ≡ n → (after_run w 0 budget).memory ≡ w.memory
unfolding sp_taken memory_after
without_sp w budget zero z = (sp_part w.state w.memory room z 0 budget budget).bytes
without_sp w budget (suc n) z = rw (run_stays w.state 0 budget budget w.memory room n z)

memory_left : (w : World) (r : Record) → keeps_memory r ≡ true → (after r w).memory ≡ w.memory
unfolding after
memory_left w None e = refl
memory_left w (Write a v) e = refl
memory_left w (Read a v) e = refl
memory_left w (SpRun budget) e = contradiction e refl
memory_left w (DpRun budget) e = without_sp w budget (sp_refusal w.state w.memory) refl
memory_left w (Tick n) e = refl
memory_left w Break e = refl
memory_left w Acknowledge e = refl
memory_left w (Store a word) e = contradiction e refl
memory_left w (Check a word) e = refl
memory_left w (Run spbudget dpbudget) e = contradiction e refl

pub left_alone : (w : World) → LeftAlone w
unfolding after
left_alone w = record { memory = memory_left w; state_by_store = λ a word. refl; state_by_check = λ a word. refl }

-- ---- Runs with one budget 0, over the replay's own output of 2,048 bytes

-- What the number 0 says of the lent memory
lengths_checked : (w : World) → sp_refusal w.state w.memory ≡ 0 → sp_lengths w.memory ≡ true
lengths_checked w z =
    let lengths = sp_lengths w.memory in
    let p = and_true (lengths && sound w.state) true (sym (sp_number_lem w.state w.memory).success ∙ ap (λ (n : ℕ). eqb n 0) z) in
    (and_true lengths (sound w.state) p.0).0

pub runs_alone : (w : World) (budget : ℕ) → sp_refusal w.state w.memory ≡ 0 → RunsAlone w budget
unfolding after line sp_taken sp_after memory_after
runs_alone w budget z =
    let a = sp_alone w.state w.memory room z budget in
    let b = sp_part w.state w.memory room z 0 budget budget in
    record {
      sp_leaves = λ i. world (a.given i).outcome.state (a.bytes i);
      sp_lists = ap sp_line a.given;
      dp_lists = ap (run_line letter_d) ((words_drawn w (sp_checked w.state w.memory z) (lengths_checked w z)).run_words 0 budget budget room);
      dp_keeps_sp = b.registers;
      dp_keeps_memory = b.bytes;
      sp_of_both = (refl, rw a.given);
      dp_of_both = (refl, rw b.count);
    }
