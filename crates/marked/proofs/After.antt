-- SP turns of the call that each move a word: the registers and the memory that they leave, and these registers by the word formula.
use Prim.Native.Nat.{ℕ, zero, suc, ◌+◌, ◌*◌, ◌%◌, ◌<◌, ◌≤◌}
use mathlib.Core.Path.{◌≡◌, refl, sym, ap, ◌∙◌}
use mathlib.Core.Bool.{Bool, true, not, cond, ◌&&◌}
use mathlib.Core.List.{List, [], ◌∷◌}
use native.Mathlib.Omega.{arith}
use lib.Dec.{eqb, leb}
use borrow.Author.Tests.{leb-true, eqb-true, not-true}
use Rattle.words.specs.Tests.{all}
use Rattle.words.specs.Bits.{as_bit}
use Rattle.words.specs.Memory.{Memory}
use Rattle.words.proofs.Tests.{by, either, and_true, facts}
use Rattle.sp.specs.declared.SpState.{SpState}
use Rattle.sp.specs.State.{with_transfer}
use Rattle.sp.specs.Sound.{SpSound}
use Rattle.sp.specs.Transfer.{len_of, count_of, skip_of, started}
use Rattle.sp.specs.Registers.{length_read}
use Rattle.sp.specs.Turn.{sp_next, sp_move, sp_after, memory_after}
use Rattle.sp.specs.Left.{transfer_words, words_left}
use Rattle.sp.specs.Formula.{latched, after_words}
use Rattle.sp.proofs.Left.{left_idle, left_busy}
use Rattle.sp.proofs.Formula.{formula}
use Rattle.machine.specs.declared.State.{State}
use Rattle.machine.specs.Sound.{with_sp, sound}
use Rattle.laws.specs.World.{sp_lengths}
use Rattle.laws.proofs.Turns.{sp_sound_lem, sound_next, lengths_next, turn_is, turn_memory_is}
use Rattle.marked.specs.Marked.{moving}

-- ---- Turns of the call

-- A turn of a busy engine
move_is : (n : ℕ) (rest : State → Memory → Bool) (s : State) (m : Memory) → sound s ≡ true → sp_lengths m ≡ true
    → s.sp.busy ≡ true → moving (suc n) rest s m ≡ moving n rest (with_sp s (sp_next s.sp)) (sp_move s.sp m)
unfolding moving
move_is n rest s m h l b =
    rw (turn_is s m h l, turn_memory_is s m h l)
    (ap (λ (x : Bool). eqb (as_bit x) 1 && moving n rest (with_sp s (sp_next s.sp)) (sp_move s.sp m)) b)

-- Turns that are no more than the words left each move a word
pub moving_is : (n : ℕ) (rest : State → Memory → Bool) (s : State) (m : Memory) → sound s ≡ true → sp_lengths m ≡ true
    → n ≤ words_left s.sp → moving n rest s m ≡ rest (with_sp s (sp_after n s.sp)) (memory_after n s.sp m)
unfolding moving sp_after memory_after
moving_is zero rest s m h l k = refl
moving_is (suc n) rest s m h l k =
    by s.sp.busy
    (λ b.
    move_is n rest s m h l b
    ∙ moving_is n rest (with_sp s (sp_next s.sp)) (sp_move s.sp m) (sound_next s h) (lengths_next s.sp m l)
    (omega (arith, left_busy s.sp (sp_sound_lem s h) b)))
    (λ b. absurd (omega (arith, left_idle s.sp b)))

-- ---- Registers by the word formula

-- The transfer has just started, and none waits
abbrev at_start : SpState → List Bool
at_start s =
    s.busy ∷ not s.full ∷ eqb s.splatch s.spaddr ∷ eqb s.ramlatch s.ramaddr ∷ eqb s.len s.row ∷ []

-- What the word formula gives for n turns; where it says nothing, the turns one by one
unfoldable pub after : ℕ → SpState → SpState
after n s =
    cond (all (at_start s) && leb n (transfer_words (length_read s)))
    (after_words s (latched s (length_read s) s.storing) n)
    (sp_after n s)

-- The fields of a length word that a read gives
len_read : (skip count len : ℕ) → len < 0x1000 → len % 8 ≡ 0 → len_of (skip * 0x100000 + count * 0x1000 + len) ≡ len
len_read skip count len p q = omega arith

count_read : (skip count len : ℕ) → count < 0x100 → len < 0x1000 → count_of (skip * 0x100000 + count * 0x1000 + len) ≡ count
count_read skip count len p q = omega arith

skip_read : (skip count len : ℕ) → skip < 0x1000 → skip % 8 ≡ 0 → count < 0x100 → len < 0x1000
    → skip_of (skip * 0x100000 + count * 0x1000 + len) ≡ skip
skip_read skip count len p q r t = omega arith

-- Such a transfer is the one that the latches and the length word that a read gives would start
started_is : (s : SpState) → SpSound s → all (at_start s) ≡ true → started s (length_read s) s.storing ≡ s
unfolding started
started_is s h e =
    let f = facts (at_start s) e in
    let fits = h.fits in
    let len = len_read s.skip s.count s.len fits.len h.multiples.len in
    let count = count_read s.skip s.count s.len fits.count fits.len in
    let skip = skip_read s.skip s.count s.len fits.skip h.multiples.skip fits.count fits.len in
    let full = not-true s.full f.1.0 in
    let bank = eqb-true s.splatch s.spaddr f.1.1.0 in
    let ram = eqb-true s.ramlatch s.ramaddr f.1.1.1.0 in
    let row = len ∙ eqb-true s.len s.row f.1.1.1.1.0 in
    λ i. with_transfer s (bank i) (ram i) (len i) (count i) (skip i) (row i) (sym f.0 i) s.storing (sym full i)

-- Both ways the registers are those after n turns
pub after_is : (n : ℕ) (s : SpState) → SpSound s → after n s ≡ sp_after n s
unfolding after
after_is n s h =
    either (λ (t : SpState). t ≡ sp_after n s) (all (at_start s) && leb n (transfer_words (length_read s)))
    (after_words s (latched s (length_read s) s.storing) n) (sp_after n s)
    (λ e.
    let p = and_true (all (at_start s)) (leb n (transfer_words (length_read s))) e in
    let law = formula s (length_read s) s.storing n h.fits.ramlatch (leb-true n (transfer_words (length_read s)) p.1) in
    sym (rw (started_is s h p.0) at law))
    (λ _. refl)
