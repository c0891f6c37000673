-- Turns inside a row advance the registers, and the turns of a row end it: one row exactly.
use Prim.Native.Nat.{ℕ, zero, suc, ◌+◌, ◌-◌, ◌*◌, ◌/◌, ◌<◌, ◌≤◌}
use mathlib.Core.Path.{◌≡◌, refl, sym, ap, ◌∙◌}
use mathlib.Core.Bool.{Bool, true, false}
use native.Mathlib.Omega.{arith}
use lib.Dec.{ltb}
use borrow.Author.Tests.{lt-ltb, le-ltb}
use Rattle.words.specs.Bits.{ram_add}
use Rattle.words.proofs.Tests.{by}
use Rattle.sp.specs.declared.SpState.{SpState}
use Rattle.sp.specs.State.{with_transfer}
use Rattle.sp.specs.Sound.{SpSound}
use Rattle.sp.specs.Transfer.{bank_add, started, next_word, next_row, ended}
use Rattle.sp.specs.Turn.{sp_next, sp_after}
use Rattle.sp.specs.Left.{running_words, words_left}
use Rattle.sp.specs.Rows.{row_turns, advanced, RowEnds, RowTurns}
use Rattle.sp.proofs.Turn.{after_suc}
use Rattle.sp.proofs.Left.{left_after_lem, taken_min}

-- ---- Inside a row

pub next_inside : (s : SpState) → s.busy ≡ true → 0 < s.len → sp_next s ≡ next_word s
unfolding sp_next
next_inside s b l = rw (b, lt-ltb 0 s.len l)

advanced_none : (s : SpState) → advanced 0 s ≡ s
unfolding advanced
advanced_none s = refl

abbrev moved : ℕ → SpState → SpState
moved n s =
    with_transfer s (bank_add s.spaddr n) (ram_add s.ramaddr n) (s.len - n) s.count s.skip s.row s.busy s.storing s.full

pub advanced_some : (n : ℕ) (s : SpState) → 0 < n → advanced n s ≡ moved n s
unfolding advanced
advanced_some n s h = rw (lt-ltb 0 n h)

pub advanced_busy : (n : ℕ) (s : SpState) → (advanced n s).busy ≡ s.busy
unfolding advanced
advanced_busy n s = by (ltb 0 n) (λ e. rw e) (λ e. rw e)

pub advanced_len : (n : ℕ) (s : SpState) → (advanced n s).len ≡ s.len - n
advanced_len zero s = rw (advanced_none s) (omega arith)
advanced_len (suc n) s = rw (advanced_some (suc n) s (omega arith))

bank_more : (a n : ℕ) → bank_add (bank_add a n) 8 ≡ bank_add a (n + 8)
bank_more a n = omega arith

ram_more : (a n : ℕ) → ram_add (ram_add a n) 8 ≡ ram_add a (n + 8)
ram_more a n = omega arith

len_more : (a n : ℕ) → a - n - 8 ≡ a - (n + 8)
len_more a n = omega arith

-- One word on
next_moved : (n : ℕ) (s : SpState) → s.busy ≡ true → next_word (advanced n s) ≡ moved (n + 8) s
unfolding next_word
next_moved zero s b =
    rw (advanced_none s)
    (ap (λ (x : Bool). with_transfer s (bank_add s.spaddr 8) (ram_add s.ramaddr 8) (s.len - 8) s.count s.skip s.row x s.storing s.full) (sym b))
next_moved (suc n) s b =
    rw (advanced_some (suc n) s (omega arith))
    (rw (bank_more s.spaddr (suc n), ram_more s.ramaddr (suc n), len_more s.len (suc n))
    (ap (λ (x : Bool). with_transfer s (bank_add s.spaddr (suc n + 8)) (ram_add s.ramaddr (suc n + 8)) (s.len - (suc n + 8)) s.count s.skip s.row x s.storing s.full) (sym b)))

-- Turns before the row's last advance the registers
pub inside : (k : ℕ) (s : SpState) → s.busy ≡ true → 8 * k ≤ s.len → sp_after k s ≡ advanced (8 * k) s
unfolding sp_after
inside zero s b h = sym (advanced_none s)
inside (suc k) s b h =
    let more : 0 < s.len - 8 * k = omega arith in
    let step : 8 * k + 8 ≡ 8 * suc k = omega arith in
    after_suc k s
    ∙ ap sp_next (inside k s b (omega arith))
    ∙ next_inside (advanced (8 * k) s) (advanced_busy (8 * k) s ∙ b) (rw (advanced_len (8 * k) s) more)
    ∙ next_moved (8 * k) s b
    ∙ sym (advanced_some (8 * k + 8) s (omega arith))
    ∙ ap (λ (n : ℕ). advanced n s) step

-- ---- The end of a row

-- A turn that moves the last word of a row
module _ (s : SpState) (b : s.busy ≡ true) (l : s.len ≡ 0) where
  next_row_lem : 0 < s.count → sp_next s ≡ next_row s
  unfolding sp_next
  next_row_lem c = rw (b, le-ltb 0 s.len (omega arith), lt-ltb 0 s.count c)

  next_start : s.count ≡ 0 → s.full ≡ true → sp_next s ≡ started s s.waiting s.waitstoring
  unfolding sp_next
  next_start c f = rw (b, le-ltb 0 s.len (omega arith), le-ltb 0 s.count (omega arith), f)

  next_end : s.count ≡ 0 → s.full ≡ false → sp_next s ≡ ended s
  unfolding sp_next
  next_end c f = rw (b, le-ltb 0 s.len (omega arith), le-ltb 0 s.count (omega arith), f)

row_form : (n : ℕ) (s : SpState)
    → next_row (advanced n s)
    ≡ with_transfer s (bank_add s.spaddr (n + 8)) (ram_add (ram_add s.ramaddr (n + 8)) s.skip) s.row (s.count - 1) s.skip s.row true
    s.storing s.full
unfolding next_row
row_form zero s = rw (advanced_none s)
row_form (suc n) s =
    rw (advanced_some (suc n) s (omega arith)) (rw (bank_more s.spaddr (suc n), ram_more s.ramaddr (suc n)))

end_form : (n : ℕ) (s : SpState)
    → ended (advanced n s)
    ≡ with_transfer s (bank_add s.spaddr (n + 8)) (ram_add s.ramaddr (n + 8)) 0xFF8 0 s.skip s.row false s.storing false
unfolding ended
end_form zero s = rw (advanced_none s)
end_form (suc n) s =
    rw (advanced_some (suc n) s (omega arith)) (rw (bank_more s.spaddr (suc n), ram_more s.ramaddr (suc n)))

start_form : (n : ℕ) (s : SpState) → started (advanced n s) (advanced n s).waiting (advanced n s).waitstoring ≡ started s s.waiting s.waitstoring
unfolding started advanced
start_form n s = by (ltb 0 n) (λ e. rw e) (λ e. rw e)

advanced_count : (n : ℕ) (s : SpState) → ((advanced n s).count ≡ s.count) × ((advanced n s).full ≡ s.full)
unfolding advanced
advanced_count n s = by (ltb 0 n) (λ e. rw e (refl, refl)) (λ e. rw e (refl, refl))

pub row_busy : (s : SpState) → s.busy ≡ true → row_turns s ≡ s.len / 8 + 1
unfolding row_turns
row_busy s b = rw b

pub row_idle : (s : SpState) → s.busy ≡ false → row_turns s ≡ 0
unfolding row_turns
row_idle s b = rw b

-- The row's last word follows those that advance the registers
last_word : (s : SpState) → SpSound s → s.busy ≡ true → sp_after (row_turns s) s ≡ sp_next (advanced s.len s)
last_word s h b =
    let turns : row_turns s ≡ suc (s.len / 8) = row_busy s b ∙ omega arith in
    let bytes : 8 * (s.len / 8) ≡ s.len = omega (arith, h.multiples.len) in
    ap (λ (n : ℕ). sp_after n s) turns
    ∙ after_suc (s.len / 8) s
    ∙ ap sp_next (inside (s.len / 8) s b (omega arith) ∙ ap (λ (n : ℕ). advanced n s) bytes)

pub row_ends : (s : SpState) → SpSound s → s.busy ≡ true → RowEnds s
row_ends s h b =
    let n = s.len in
    let busy = advanced_busy n s ∙ b in
    let none : (advanced n s).len ≡ 0 = advanced_len n s ∙ omega arith in
    let same = advanced_count n s in
    record {
      row = λ c. last_word s h b ∙ next_row_lem (advanced n s) busy none (rw same.0 c) ∙ row_form n s;
      starts = λ c f. last_word s h b ∙ next_start (advanced n s) busy none (same.0 ∙ c) (same.1 ∙ f) ∙ start_form n s;
      ends = λ c f. last_word s h b ∙ next_end (advanced n s) busy none (same.0 ∙ c) (same.1 ∙ f) ∙ end_form n s;
    }

-- ---- Its words

row_within : (s : SpState) → row_turns s ≤ words_left s
unfolding row_turns words_left running_words
row_within s = by s.busy (λ b. rw b (omega arith)) (λ b. rw b (omega arith))

pub row_turns_lem : (s : SpState) → SpSound s → RowTurns s
row_turns_lem s h =
    let fits = row_within s in
    record {
      words = left_after_lem (row_turns s) s h;
      within = fits;
      taken = taken_min (row_turns s) s h ∙ omega (arith, fits);
    }
