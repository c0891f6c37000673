-- What a run of a replay does, and its lines, out of what its calls give.
use Prim.Native.Nat.{ℕ}
use mathlib.Core.Path.{◌≡◌, refl, ap, subst, ◌∙◌}
use mathlib.Core.Bool.{false}
use mathlib.Core.List.{List, ◌++◌}
use Rattle.words.specs.Memory.{Memory}
use Rattle.machine.specs.declared.State.{State}
use Rattle.machine.specs.declared.Ran.{Ran}
use Rattle.machine.specs.Promised.{RunGives}
use Rattle.machine.proofs.Runs.{output_unused}
use Rattle.laws.specs.World.{world}
use Rattle.recording.specs.declared.Record.TheVariants.{SpRun, Run}
use Rattle.listing.specs.Put.{Put}
use Rattle.listing.proofs.Putting.{◌then◌}
use Rattle.playback.specs.Effects.{room, replay_run, after_run, sp_line, dp_line, after, line}
use Rattle.playback.specs.Promised.{PerformGives}

module _ {s : State} {m : Memory} {d : List ℕ} {at : ℕ} {r : Ran} {m' : Memory} {d' : List ℕ} {place : ℕ} where
  -- A run of the SP alone, into whatever output
  pub sp_run_performed : (budget : ℕ) {out out' : List ℕ}
      → RunGives s budget 0 0 m out r m' out' → Put d at (sp_line r) d' place
      → PerformGives (SpRun budget) (world s m) d at (world r.outcome.state m') d' place false false
  unfolding after line
  sp_run_performed budget {out} g put =
      let same = output_unused s budget m out room in
      let given : r ≡ replay_run (world s m) budget 0 = g.given ∙ same.0 in
      record {
        leaves = λ i. world (ap (λ (x : Ran). x.outcome.state) given i) ((g.bytes ∙ same.1) i);
        listed = subst (λ (x : Ran). Put d at (sp_line x) d' place) given put;
        compared = refl;
        differed = refl;
      }

  -- Of all three, with both lines
  pub run_performed : (a b : ℕ) {d₁ : List ℕ} {p : ℕ}
      → r ≡ replay_run (world s m) a b → m' ≡ (after_run (world s m) a b).memory
      → Put d at (sp_line r) d₁ p → Put d₁ p (dp_line r) d' place
      → PerformGives (Run a b) (world s m) d at (world r.outcome.state m') d' place false false
  unfolding after line
  run_performed a b given bytes first second =
      record {
        leaves = λ i. world (ap (λ (x : Ran). x.outcome.state) given i) (bytes i);
        listed =
            subst (λ (x : Ran). Put d at (sp_line x ++ dp_line x) d' place) given (first then second);
        compared = refl;
        differed = refl;
      }
