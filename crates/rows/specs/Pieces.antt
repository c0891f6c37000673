-- A piece of a row: words that are moved at once, because they are one part of RDRAM and one part
-- of a bank.
use Rattle.std.specs.Prelude.{ℕ, ◌+◌, ◌*◌, ◌/◌, ◌%◌, ◌<◌, ◌≤◌, ◌≡◌, Bool, true, cond}
use Rattle.words.specs.declared.stepped.Stepped.{Stepped}
use Rattle.words.specs.Memory.{Memory, Place, RDRAM, DMEM, IMEM, bytes_of, with_bytes}
use Rattle.sp.specs.declared.SpState.{SpState}
use Rattle.sp.specs.Turn.{sp_after, memory_after}
use Rattle.rows.specs.Words.{words_moved}

-- The memory after n words between RDRAM and a bank, from two addresses on. `low` picks DMEM
unfoldable pub between : Bool → Bool → ℕ → ℕ → ℕ → Memory → Memory
between storing low n ram offset m =
    let bank : Place = cond low DMEM IMEM in
    let target : Place = cond storing RDRAM bank in
    let source : Place = cond storing bank RDRAM in
    with_bytes target (words_moved n (bytes_of target m) (cond storing ram offset) (bytes_of source m) (cond storing offset ram)) m

-- r words from an address on, one at least, begin below the end
abbrev pub Below : ℕ → ℕ → ℕ → Type 0
Below at end r = (0 < r) × (at < end → at + 8 * r < end + 8) × (end ≤ at → r ≡ 1)

-- n words of a row, `most` at most, of which neither address goes round; one at least where any is
-- asked for
pub record Piece (s : SpState) (most n : ℕ) : Type 0 where
  pub some : 0 < most → 0 < n
  pub asked : n ≤ most
  pub in_row : n ≤ s.len / 8 + 1
  pub bank : s.spaddr % 0x1000 + 8 * n < 0x1000 + 8
  pub top : 1 < n → s.ramaddr + 8 * n < 0x1000000 + 8

-- What such a piece gives: the registers and the memory after as many turns
pub record Pieced (s : SpState) (most : ℕ) (m : Memory) (r : Stepped SpState)
    (m' : Memory) : Type 0 where
  pub piece : Piece s most r.count
  pub state : s.busy ≡ true → 0 < most → r.state ≡ sp_after r.count s
  pub bytes : s.busy ≡ true → 0 < most → m' ≡ memory_after r.count s m
