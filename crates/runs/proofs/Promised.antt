-- What the run promises, out of what the calls in its body give: where it passes its checks, and where it is declined.
use Rattle.std.proofs.Common.{◌≡◌, ℕ, List, sym, ap, ◌∙◌}
use Rattle.words.specs.Memory.{Memory}
use Rattle.dp.specs.Turn.{room_for}
use Rattle.machine.specs.declared.State.{State}
use Rattle.machine.specs.declared.Outcome.{Outcome}
use Rattle.machine.specs.declared.Ran.{Ran}
use Rattle.machine.specs.Refusals.{sp_refusal, declined}
use Rattle.machine.specs.Runs.{begin, end_of_run, answered, run}
use Rattle.machine.specs.Promised.{RunGives}
use Rattle.machine.proofs.Refusals.{if_refused_lem}
use Rattle.machine.proofs.Runs.{accepted_end, accepted_run}
use Rattle.runs.specs.Standing.{end_from, EndsAt}

module _ {s : State} {m : Memory} {n : ℕ} (number : n ≡ sp_refusal s m) (a b c : ℕ) {out : List ℕ} where
  pub run_done : {room : ℕ} {r : Ran} {m' : Memory} {out' : List ℕ} → n ≡ 0 → room ≡ room_for c out
      → EndsAt (end_from s.sp s.dp s.queue a b room m out) r m' out'
      → RunGives s a b c m out r m' out'
  run_done z cut g =
      let passed = sym number ∙ z in
      let whole = ap (λ (k : ℕ). end_from s.sp s.dp s.queue a b k m out) cut in
      let end = whole ∙ sym (accepted_end s a b c m out passed) in
      record {
        given = g.given ∙ ap (answered 0) whole ∙ sym (accepted_run s a b c m out passed);
        bytes = g.bytes ∙ ap (λ q. q.memory) end;
        output = g.output ∙ ap (λ q. q.out) end;
      }

  pub run_declined : {o : Outcome} → (n ≡ 0 → ⊥) → o ≡ declined s n → RunGives s a b c m out (record { outcome = o; words = 0 }) m out
  unfolding run end_of_run
  run_declined z e =
      let stays = if_refused_lem (sp_refusal s m) (begin s m out) (end_from s.sp s.dp s.queue a b (room_for c out) m out) (λ k. z (number ∙ k)) in
      record {
        given = rw (e, number) (ap (answered (sp_refusal s m)) (sym stays));
        bytes = ap (λ q. q.memory) (sym stays);
        output = ap (λ q. q.out) (sym stays);
      }
