-- The row: what it gives that is not declined, and that it is the merged run with as many SP turns.
use Prim.Native.Nat.{ℕ, zero, suc, ◌+◌, ◌/◌}
use mathlib.Core.Path.{◌≡◌, refl, sym, ap, ◌∙◌}
use mathlib.Core.Bool.{true, false}
use mathlib.Core.List.{List}
use Rattle.words.specs.Memory.{Memory}
use Rattle.sp.specs.Turn.{sp_after, memory_after}
use Rattle.sp.specs.Rows.{row_turns}
use Rattle.sp.proofs.Rows.{row_busy, row_idle, row_ends, row_turns_lem}
use Rattle.machine.specs.declared.State.{State}
use Rattle.machine.specs.Sound.{with_sp}
use Rattle.machine.specs.Refusals.{sp_refusal, accepted}
use Rattle.machine.specs.Rows.{sp_row, sp_row_memory}
use Rattle.machine.specs.Accepted.{Gives, Still, Rowed, RowIsRun}
use Rattle.machine.proofs.Sound.{facts}
use Rattle.machine.proofs.Refusals.{sp_checked, run_stays, run_declined}
use Rattle.machine.proofs.Runs.{sp_alone}

module _ (s : State) (m : Memory) (z : sp_refusal s m ≡ 0) where
  accepted_row : (n : ℕ) → row_turns s.sp ≡ n
      → (sp_row s m ≡ accepted (with_sp s (sp_after n s.sp)) 0 n) × (sp_row_memory s m ≡ memory_after n s.sp m)
  unfolding sp_row sp_row_memory
  accepted_row n e = rw (z, e) (refl, refl)

  busy_row : s.sp.busy ≡ true
      → Gives (sp_row s m) 0 0 (s.sp.len / 8 + 1) (sp_after (s.sp.len / 8 + 1) s.sp) s.dp s.queue
      × (sp_row_memory s m ≡ memory_after (s.sp.len / 8 + 1) s.sp m)
  busy_row b = let e = accepted_row (s.sp.len / 8 + 1) (row_busy s.sp b) in (rw e.0 (search), e.1)

  idle_row : s.sp.busy ≡ false → Still s (sp_row s m) × (sp_row_memory s m ≡ m)
  unfolding sp_after memory_after
  idle_row b = let e = accepted_row 0 (row_idle s.sp b) in (rw e.0 (search), e.1)

  pub rowed : Rowed s m
  rowed =
      let h = (facts s (sp_checked s m z)).sp in
      let e = (accepted_row (row_turns s.sp) refl).0 in
      record {
        busy = busy_row;
        idle = idle_row;
        finishes = row_ends s.sp h;
        only_one = rw e (row_turns_lem s.sp h).words;
      }

  row_run : (out : List ℕ) → RowIsRun s m out
  row_run out =
      let n = row_turns s.sp in
      let taken = (row_turns_lem s.sp (facts s (sp_checked s m z)).sp).taken in
      let r = sp_alone s m out z n in
      let e = accepted_row n refl in
      record {
        outcome = e.0 ∙ sym (ap (λ r. r.outcome) r.given ∙ ap (λ (k : ℕ). accepted (with_sp s (sp_after k s.sp)) 0 k) taken);
        bytes = e.1 ∙ sym (r.bytes ∙ ap (λ (k : ℕ). memory_after k s.sp m) taken);
      }

pub row_is_run : (s : State) (m : Memory) (out : List ℕ) → RowIsRun s m out
unfolding sp_row sp_row_memory
row_is_run s m out = go (sp_refusal s m) refl
  where
    go : (n : ℕ) → sp_refusal s m ≡ n → RowIsRun s m out
    go zero z = row_run s m z out
    go (suc n) z =
        record {
          outcome = rw (run_declined s (row_turns s.sp) 0 0 m out n z, z);
          bytes = rw (run_stays s (row_turns s.sp) 0 0 m out n z, z);
        }
