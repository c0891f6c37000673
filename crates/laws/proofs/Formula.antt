-- The word formula holds of the calls, on every sound state and lent memory of allowed lengths.
use Prim.Native.Nat.{ℕ, ◌%◌, ◌<◌, ◌≤◌}
use mathlib.Core.Path.{◌≡◌, refl, sym, ap, subst, ◌∙◌}
use mathlib.Core.Bool.{Bool, true, false}
use native.Mathlib.Omega.{arith}
use lib.Dec.{eqb}
use lib.ListN.{length}
use borrow.Author.Tests.{eqb-true}
use Rattle.words.specs.Memory.{Memory, Place, RDRAM, DMEM, IMEM, bytes_of}
use Rattle.words.proofs.Tests.{and_true, three}
use Rattle.sp.specs.declared.SpState.{SpState}
use Rattle.sp.specs.Sound.{SpSound}
use Rattle.sp.specs.Transfer.{started, length_written}
use Rattle.sp.specs.Turn.{sp_next, sp_move, sp_after, memory_after}
use Rattle.sp.specs.Left.{transfer_words}
use Rattle.sp.specs.Formula.{Transfer, latched, before_word, after_last, after_words}
use Rattle.sp.proofs.Turn.{memory_length}
use Rattle.sp.proofs.Kept.{started_kept}
use Rattle.sp.proofs.Formula.{formula, before_word_lem}
use Rattle.sp.proofs.Brought.{bytes}
use Rattle.machine.specs.declared.State.{State}
use Rattle.machine.specs.Sound.{with_sp, sound}
use Rattle.machine.specs.Refusals.{rdram_allowed, bank_allowed, access_refusal}
use Rattle.machine.specs.Address.{register_at}
use Rattle.machine.specs.Calls.{write_register}
use Rattle.laws.specs.World.{World, world, sp_lengths, sp_turns}
use Rattle.laws.specs.Formula.{Transferred, length_register, WordFormula}
use Rattle.laws.proofs.Turns.{sp_sound_lem, with_sp_sound, sound_after, lengths_next, lengths_after, turn_is, turned_is, turns_are}

-- Allowed lengths are multiples of 8
multiples : (m : Memory) → sp_lengths m ≡ true → (p : Place) → length (bytes_of p m) % 8 ≡ 0
multiples m l = go
  where
    e : (rdram_allowed (length m.rdram) ≡ true) × (bank_allowed (length m.dmem) ≡ true) × (bank_allowed (length m.imem) ≡ true)
    e = three (rdram_allowed (length m.rdram)) (bank_allowed (length m.dmem)) (bank_allowed (length m.imem)) l

    bank : (n : ℕ) → bank_allowed n ≡ true → n % 8 ≡ 0
    bank n h = omega (arith, eqb-true n 4096 h)

    go : (p : Place) → length (bytes_of p m) % 8 ≡ 0
    go RDRAM = eqb-true (length m.rdram % 8) 0 (and_true (eqb (length m.rdram % 8) 0) _ e.0).0
    go DMEM = bank (length m.dmem) e.1
    go IMEM = bank (length m.imem) e.2

-- While a word is left the engine is busy
still_busy : (s : SpState) (word : ℕ) (storing : Bool) (k : ℕ) → s.ramlatch < 0x1000000 → k < transfer_words word
    → (sp_after k (started s word storing)).busy ≡ true
unfolding before_word
still_busy s word storing k f h =
    ap (λ (u : SpState). u.busy)
    (formula s word storing k f (omega arith) ∙ before_word_lem (started s word storing) (latched s word storing) k h)

-- The start changes nothing that the formula leaves as it was
same_after : (s : SpState) (word : ℕ) (storing : Bool) (t : Transfer) (k : ℕ) → after_words (started s word storing) t k ≡ after_words s t k
unfolding started after_words before_word after_last
same_after s word storing t k = refl

-- From the state in which the transfer has just started
from_start : (s : State) (m : Memory) (word : ℕ) (storing : Bool) (k : ℕ) → sound s ≡ true → sp_lengths m ≡ true
    → k ≤ transfer_words word → Transferred s (world (with_sp s (started s.sp word storing)) m) (latched s.sp word storing) k
from_start s m word storing k h l hk =
    let u : SpState = started s.sp word storing in
    let w : World = world (with_sp s u) m in
    let f : SpSound s.sp = sp_sound_lem s h in
    let fits : s.sp.ramlatch < 0x1000000 = f.fits.ramlatch in
    let h' : sound (with_sp s u) ≡ true = with_sp_sound s u h (started_kept s.sp word storing f) in
    let e : sp_turns k w ≡ world (with_sp s (sp_after k u)) (memory_after k u m) = turns_are k w h' l in
    record {
      registers = ap (λ (v : World). v.state.sp) e ∙ formula s.sp word storing k fits hk ∙ same_after s.sp word storing (latched s.sp word storing) k;
      dp = ap (λ (v : World). v.state.dp) e;
      queue = ap (λ (v : World). v.state.queue) e;
      bytes = rw e (bytes s.sp word storing m fits f.multiples.splatch f.multiples.ramlatch (multiples m l) k hk);
      lengths = rw e (memory_length k u m);
      answer = λ b. rw (
        e,
        turn_is (with_sp s (sp_after k u)) (memory_after k u m) (sound_after k (with_sp s u) h') (lengths_after k u m l),
        still_busy s.sp word storing k fits b,
      );
    }

-- A length word written by its address to an idle engine starts the transfer
write_starts : (s : State) (word : ℕ) (storing : Bool) → sound s ≡ true → s.sp.busy ≡ false
    → (write_register s (length_register storing) word).state ≡ with_sp s (started s.sp word storing)
unfolding write_register access_refusal register_at length_written
write_starts s word true h b = rw (h, b)
write_starts s word false h b = rw (h, b)

-- The turn that moves the last word starts the waiting transfer
turn_starts : (s : SpState) → s.busy ≡ true → s.len ≡ 0 → s.count ≡ 0 → s.full ≡ true
    → sp_next s ≡ started s s.waiting s.waitstoring
unfolding sp_next
turn_starts s b l c f = rw (b, l, c, f)

-- The word formula, of the calls
pub word_formula : (w : World) → sound w.state ≡ true → sp_lengths w.memory ≡ true → WordFormula w
word_formula w h l =
    let s : State = w.state in
    record {
      from_write = λ b word storing k hk.
          subst (λ (v : State). Transferred s (world v w.memory) (latched s.sp word storing) k) (sym (write_starts s word storing h b))
          (from_start s w.memory word storing k h l hk);
      from_waiting = λ b e c f k hk.
          subst (λ (v : World). Transferred s v (latched s.sp s.sp.waiting s.sp.waitstoring) k)
          (sym (turned_is w h l ∙ ap (λ (u : SpState). world (with_sp s u) (sp_move s.sp w.memory)) (turn_starts s.sp b e c f)))
          (from_start s (sp_move s.sp w.memory) s.sp.waiting s.sp.waitstoring k h (lengths_next s.sp w.memory l) hk);
    }
