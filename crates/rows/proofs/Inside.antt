-- Words inside a row: the memory after n of them, and the registers and the memory after a whole piece.
use Prim.Native.Nat.{ℕ, zero, suc, ◌+◌, ◌-◌, ◌*◌, ◌/◌, ◌%◌, ◌<◌, ◌≤◌}
use mathlib.Core.Path.{◌≡◌, refl, sym, ap, ◌∙◌}
use mathlib.Core.Bool.{Bool, true, false, cond}
use mathlib.Core.List.{List}
use native.Mathlib.Omega.{arith}
use lib.Dec.{ltb}
use borrow.Author.Tests.{lt-ltb, le-ltb, ltb-true, ltb-false}
use Rattle.words.specs.Bits.{ram_add}
use Rattle.words.specs.Memory.{Memory, memory}
use Rattle.words.specs.Stepped.{ran}
use Rattle.words.proofs.Tests.{by}
use Rattle.sp.specs.declared.SpState.{SpState}
use Rattle.sp.specs.Transfer.{bank_add, next_word}
use Rattle.sp.specs.Turn.{sp_next, sp_move, sp_after, memory_after}
use Rattle.sp.specs.Rows.{row_turns, advanced}
use Rattle.sp.proofs.Turn.{after_suc, after_add, memory_add}
use Rattle.sp.proofs.Rows.{next_inside, inside, advanced_busy, advanced_len, row_idle}
use Rattle.rows.specs.Words.{words_moved}
use Rattle.rows.specs.Pieces.{between, Piece}

-- ---- Memory

between_none : (storing low : Bool) (ram offset : ℕ) (m : Memory) → between storing low 0 ram offset m ≡ m
unfolding between words_moved
between_none true true ram offset m = refl
between_none true false ram offset m = refl
between_none false true ram offset m = refl
between_none false false ram offset m = refl

between_more : (storing low : Bool) (n ram offset : ℕ) (m : Memory)
    → between storing low n (ram + 8) (offset + 8) (between storing low 1 ram offset m) ≡ between storing low (suc n) ram offset m
unfolding between words_moved
between_more true true n ram offset m = refl
between_more true false n ram offset m = refl
between_more false true n ram offset m = refl
between_more false false n ram offset m = refl

-- One turn moves one word
move_one : (s : SpState) (m : Memory) → s.busy ≡ true
    → sp_move s m ≡ between s.storing (ltb s.spaddr 0x1000) 1 s.ramaddr (s.spaddr % 0x1000) m
unfolding sp_move between words_moved
move_one s m b = rw b

same_bank : (a : ℕ) → ltb (bank_add a 8) 0x1000 ≡ ltb a 0x1000
same_bank a =
    by (ltb a 0x1000) (λ e. lt-ltb (bank_add a 8) 0x1000 (omega (arith, ltb-true a 0x1000 e)) ∙ sym e)
    (λ e. le-ltb (bank_add a 8) 0x1000 (omega (arith, ltb-false a 0x1000 e)) ∙ sym e)

-- n words of a row of which no address goes round
abbrev Straight : ℕ → SpState → Type 0
Straight n s = (8 * n ≤ s.len + 8) × (s.spaddr % 0x1000 + 8 * n < 0x1000 + 8) × (1 < n → s.ramaddr + 8 * n < 0x1000000 + 8)

straight_on : (n : ℕ) (s : SpState) → Straight (suc (suc n)) s → Straight (suc n) (next_word s)
unfolding next_word
straight_on n s (h, o, r) = let top = r (omega arith) in (omega arith, omega arith, λ _. omega arith)

next_busy : (s : SpState) → (next_word s).busy ≡ true
unfolding next_word
next_busy s = refl

joined : (n : ℕ) (s : SpState) (m : Memory) → s.busy ≡ true → Straight (suc (suc n)) s
    → between (next_word s).storing (ltb (next_word s).spaddr 0x1000) (suc n) (next_word s).ramaddr ((next_word s).spaddr % 0x1000) (sp_move s m)
    ≡ between s.storing (ltb s.spaddr 0x1000) (suc (suc n)) s.ramaddr (s.spaddr % 0x1000) m
unfolding next_word
joined n s m b (h, o, r) =
    let top = r (omega arith) in
    let ram : ram_add s.ramaddr 8 ≡ s.ramaddr + 8 = omega arith in
    let offset : bank_add s.spaddr 8 % 0x1000 ≡ s.spaddr % 0x1000 + 8 = omega arith in
    rw (same_bank s.spaddr, ram, offset, move_one s m b)
    (between_more s.storing (ltb s.spaddr 0x1000) (suc n) s.ramaddr (s.spaddr % 0x1000) m)

-- The turns of such words move them one after another
moves : (n : ℕ) (s : SpState) (m : Memory) → s.busy ≡ true → Straight n s
    → memory_after n s m ≡ between s.storing (ltb s.spaddr 0x1000) n s.ramaddr (s.spaddr % 0x1000) m
unfolding memory_after
moves zero s m b h = sym (between_none s.storing (ltb s.spaddr 0x1000) s.ramaddr (s.spaddr % 0x1000) m)
moves (suc zero) s m b h = move_one s m b
moves (suc (suc n)) s m b h =
    ap (λ (t : SpState). memory_after (suc n) t (sp_move s m)) (next_inside s b (omega (arith, h.0)))
    ∙ moves (suc n) (next_word s) (sp_move s m) (next_busy s) (straight_on n s h)
    ∙ joined n s m b h

-- The memory that the code leaves, by its bank
module _ (storing : Bool) (n ram offset : ℕ) (m : Memory) where
  pub between_dmem : {low : Bool} → low ≡ true → {r d : List ℕ}
      → r ≡ cond storing (words_moved n m.rdram ram m.dmem offset) m.rdram
      → d ≡ cond storing m.dmem (words_moved n m.dmem offset m.rdram ram)
      → memory r d m.imem ≡ between storing low n ram offset m
  unfolding between
  between_dmem l e f = rw (e, f, l) (by storing (λ i. rw i) (λ i. rw i))

  pub between_imem : {low : Bool} → low ≡ false → {r i : List ℕ}
      → r ≡ cond storing (words_moved n m.rdram ram m.imem offset) m.rdram
      → i ≡ cond storing m.imem (words_moved n m.imem offset m.rdram ram)
      → memory r m.dmem i ≡ between storing low n ram offset m
  unfolding between
  between_imem l e f = rw (e, f, l) (by storing (λ i. rw i) (λ i. rw i))

-- ---- A piece

-- Its registers: advanced to its last word, and one turn more
pub piece_state : (n : ℕ) (s : SpState) {k : ℕ} {t t₁ : SpState} → s.busy ≡ true → 0 < n → n ≤ s.len / 8 + 1 → k ≡ n - 1
    → t ≡ advanced (8 * k) s → t₁ ≡ sp_next t → t₁ ≡ sp_after n s
piece_state zero s b h l i e f = absurd (omega arith)
piece_state (suc n) s {k} b h l i e f =
    let same : k ≡ n = omega arith in
    f ∙ ap sp_next (e ∙ ap (λ (j : ℕ). advanced (8 * j) s) same ∙ sym (inside n s b (omega arith))) ∙ sym (after_suc n s)

pub piece_bytes : (n most : ℕ) (s : SpState) (m : Memory) {m' : Memory} → Piece s most n → s.busy ≡ true
    → m' ≡ between s.storing (ltb s.spaddr 0x1000) n s.ramaddr (s.spaddr % 0x1000) m → m' ≡ memory_after n s m
piece_bytes n most s m p b e =
    e
    ∙ sym (moves n s m b (omega (arith, p.in_row), p.bank, p.top))

-- ---- The row's loop: words - left turns were taken

still_inside : (n : ℕ) (s : SpState) {t : SpState} → s.busy ≡ true → n < s.len / 8 + 1 → t ≡ sp_after n s
    → (t.busy ≡ true) × (t.len / 8 + 1 ≡ s.len / 8 + 1 - n)
still_inside n s b h e =
    let here = e ∙ inside n s b (omega arith) in
    rw here (advanced_busy (8 * n) s ∙ b, rw (advanced_len (8 * n) s) (omega arith))

pub row_start : (s : SpState) (words : ℕ) → s ≡ sp_after (words - words) s
unfolding sp_after
row_start s words = let e : words - words ≡ 0 = omega arith in rw e

pub row_start_bytes : (s : SpState) (m : Memory) (words : ℕ) → m ≡ memory_after (words - words) s m
unfolding memory_after
row_start_bytes s m words = let e : words - words ≡ 0 = omega arith in rw e

module _ (s : SpState) (m : Memory) (words left n : ℕ) (h : left ≤ words) (k : n ≤ left) where
  pub row_state : {t t₁ : SpState} → t ≡ sp_after (words - left) s → t₁ ≡ sp_after n t → t₁ ≡ sp_after (words - (left - n)) s
  row_state e f =
      let sum : words - left + n ≡ words - (left - n) = omega arith in
      f ∙ ap (sp_after n) e ∙ sym (after_add (words - left) n s) ∙ ap (λ (i : ℕ). sp_after i s) sum

  pub row_bytes : {t : SpState} {m₁ m₂ : Memory} → t ≡ sp_after (words - left) s → m₁ ≡ memory_after (words - left) s m → m₂ ≡ memory_after n t m₁
      → m₂ ≡ memory_after (words - (left - n)) s m
  row_bytes e f g =
      let sum : words - left + n ≡ words - (left - n) = omega arith in
      rw (g, e, f) (sym (memory_add (words - left) n s m) ∙ ap (λ (i : ℕ). memory_after i s m) sum)

-- The registers inside the row while words are left
pub row_inside : (left n : ℕ) (t : SpState) {t₁ : SpState} → t.busy ≡ true → left ≡ t.len / 8 + 1 → 0 < left - n → t₁ ≡ sp_after n t
    → (t₁.busy ≡ true) × (left - n ≡ t₁.len / 8 + 1)
row_inside left n t b e h f =
    let r = still_inside n t b (omega arith) f in
    (r.0, omega (arith, r.1))

-- What the loop leaves when no words are left, and what an idle engine gives
module _ (s : SpState) (m : Memory) where
  pub row_end : {words : ℕ} (left : ℕ) {t : SpState} {m₁ : Memory} → left ≤ 0 → words ≡ row_turns s → t ≡ sp_after (words - left) s
      → m₁ ≡ memory_after (words - left) s m
      → (ran t words ≡ ran (sp_after (row_turns s) s) (row_turns s)) × (m₁ ≡ memory_after (row_turns s) s m)
  row_end {words} left h e f g =
      let all : words - left ≡ row_turns s = omega arith in
      let state = f ∙ ap (λ (i : ℕ). sp_after i s) all in
      ((λ i. ran (state i) (e i)), g ∙ ap (λ (i : ℕ). memory_after i s m) all)

  pub row_none : s.busy ≡ false → (ran s 0 ≡ ran (sp_after (row_turns s) s) (row_turns s)) × (m ≡ memory_after (row_turns s) s m)
  unfolding sp_after memory_after
  row_none b = rw (row_idle s b) (refl, refl)
