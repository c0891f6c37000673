-- A row at a time (request (vi)): the turns that finish the current row, and the registers that they leave.
-- `with_transfer` takes SPADDR, RAMADDR, LEN, COUNT, SKIP, ROW, BUSY, the direction and FULL, in this order.
use Rattle.std.specs.Prelude.{ℕ, ◌+◌, ◌-◌, ◌/◌, ◌<◌, ◌≤◌, ◌≡◌, true, false, cond, ltb}
use Rattle.words.specs.Bits.{ram_add}
use Rattle.sp.specs.declared.SpState.{SpState}
use Rattle.sp.specs.State.{with_transfer}
use Rattle.sp.specs.Transfer.{bank_add, started}
use Rattle.sp.specs.Turn.{sp_after, sp_taken}
use Rattle.sp.specs.Left.{words_left}

-- LEN / 8 + 1 turns, of a row that is half moved too; none where the engine is idle
unfoldable pub row_turns : SpState → ℕ
row_turns s = cond s.busy (s.len / 8 + 1) 0

-- What they leave of sound registers while BUSY is on: the end of this row, and no word of the next one
pub record RowEnds (s : SpState) : Type 0 where
  -- Not the last row: COUNT falls by 1, SKIP is added to the RDRAM address and LEN becomes ROW
  pub row : 0 < s.count
      → sp_after (row_turns s) s
      ≡ with_transfer s (bank_add s.spaddr (s.len + 8)) (ram_add (ram_add s.ramaddr (s.len + 8)) s.skip) s.row (s.count - 1) s.skip s.row true
      s.storing s.full
  -- The last one, and a transfer waits: it has started
  pub starts : s.count ≡ 0 → s.full ≡ true → sp_after (row_turns s) s ≡ started s s.waiting s.waitstoring
  -- The last one: LEN is 0xFF8, and no SKIP is added
  pub ends : s.count ≡ 0 → s.full ≡ false
      → sp_after (row_turns s) s
      ≡ with_transfer s (bank_add s.spaddr (s.len + 8)) (ram_add s.ramaddr (s.len + 8)) 0xFF8 0 s.skip s.row false s.storing false

-- Of sound registers, busy or idle
pub record RowTurns (s : SpState) : Type 0 where
  -- As many words less are left, none of them idle: a run with that budget takes all of them
  pub words : words_left (sp_after (row_turns s) s) ≡ words_left s - row_turns s
  pub within : row_turns s ≤ words_left s
  pub taken : sp_taken (row_turns s) s ≡ row_turns s

-- ---- For the code, which moves several words of a row at once

-- The registers n bytes on inside a row
unfoldable pub advanced : ℕ → SpState → SpState
advanced n s =
    cond (ltb 0 n)
    (with_transfer s (bank_add s.spaddr n) (ram_add s.ramaddr n) (s.len - n) s.count s.skip s.row s.busy s.storing s.full)
    s
