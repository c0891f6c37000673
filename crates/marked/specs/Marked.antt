-- The twelve marked examples of the rules, M8 to M10 as request (iii) has them and M9, M11 and M12 read as (ix) says, as one table, and when an example holds:
-- every call answers as the table says.
use Rattle.std.specs.Prelude.{ℕ, zero, suc, Bool, true, false, ◌&&◌, List, [], ◌∷◌, eqb, replicate, set}
use Rattle.std.specs.Bool.{beq}
use Rattle.words.specs.Memory.{Memory, memory}
use Rattle.machine.specs.declared.State.{State}
use Rattle.machine.specs.declared.Answer.{Answer}
use Rattle.machine.specs.Sound.{power_up}
use Rattle.machine.specs.Calls.{read_register, write_register}
use Rattle.machine.specs.Turns.{sp_turn, sp_turn_memory, dp_turn, consumer_turn}

-- ---- Lines

-- One line of an example
pub data Line : Type 0 where
  -- A write to an address, of a value
  write : ℕ → ℕ → Line
  -- A read of an address, and the value that it gives
  reads : ℕ → ℕ → Line
  -- So many SP turns, of which each moves a word
  sp_moves : ℕ → Line
  -- A DP turn that fetches a word
  dp_fetches : Line
  -- A consumer turn, and the word that it hands out
  consumes : ℕ → Line
  -- The DP line is up, or down
  dp_line : Bool → Line
  -- The owner of the lent RDRAM puts a byte there: its address and the byte
  puts : ℕ → ℕ → Line

-- A call succeeds, with a value and a count
abbrev pub gives : Answer → ℕ → ℕ → Bool
gives a value count = eqb a.number 0 && eqb a.value value && eqb a.count count

-- n SP turns, of which each moves a word; the rest is asked of the state and the memory that they leave
unfoldable pub moving : ℕ → (State → Memory → Bool) → State → Memory → Bool
moving zero rest s m = rest s m
moving (suc n) rest s m =
    let x = sp_turn s m in
    gives x.answer 0 1 && moving n rest x.state (sp_turn_memory s m)

-- The lines hold from a state and a lent memory on
unfoldable pub holds : List Line → State → Memory → Bool
holds [] s m = true
holds (write a v ∷ ls) s m =
    let x = write_register s a v in
    gives x.answer 0 0 && holds ls x.state m
holds (reads a v ∷ ls) s m =
    let x = read_register s a in
    gives x.answer v 0 && holds ls x.state m
holds (sp_moves n ∷ ls) s m = moving n (holds ls) s m
holds (dp_fetches ∷ ls) s m =
    let x = dp_turn s m.rdram m.dmem in
    gives x.answer 0 1 && holds ls x.state m
holds (consumes v ∷ ls) s m =
    let x = consumer_turn s in
    gives x.answer v 1 && holds ls x.state m
holds (dp_line up ∷ ls) s m = beq s.dp.line up && holds ls s m
holds (puts a b ∷ ls) s m = holds ls s (memory (set m.rdram a b) m.dmem m.imem)

-- The memory lent to each example: 32,768 bytes of RDRAM and the two banks
abbrev pub zeros : Memory
zeros = memory (replicate 32768 0) (replicate 4096 0) (replicate 4096 0)

-- Every example holds from power-up
unfoldable pub holds_all : List (List Line) → Bool
holds_all [] = true
holds_all (ls ∷ es) = holds ls power_up zeros && holds_all es

-- ---- Addresses

abbrev pub SPADDR : ℕ
SPADDR = 0x04040000

abbrev pub RAMADDR : ℕ
RAMADDR = 0x04040004

abbrev pub RDLEN : ℕ
RDLEN = 0x04040008

abbrev pub WRLEN : ℕ
WRLEN = 0x0404000C

abbrev pub SPSTATUS : ℕ
SPSTATUS = 0x04040010

abbrev pub DMABUSY : ℕ
DMABUSY = 0x04040018

abbrev pub SEMAPHORE : ℕ
SEMAPHORE = 0x0404001C

abbrev pub START : ℕ
START = 0x04100000

abbrev pub END : ℕ
END = 0x04100004

abbrev pub CURRENT : ℕ
CURRENT = 0x04100008

abbrev pub DPSTATUS : ℕ
DPSTATUS = 0x0410000C

-- ---- The table

unfoldable pub examples : List (List Line)
examples =
    -- M1
    (reads SPSTATUS 0 ∷ reads DPSTATUS 0x80 ∷ [])
    -- M2
    ∷ (write RAMADDR 0x1000 ∷ write RDLEN 0x0200B03F ∷ sp_moves 9
    ∷ reads RAMADDR 0x1068 ∷ reads SPADDR 0x48 ∷ reads RDLEN 0x0200A030 ∷ reads WRLEN 0x0200A030 ∷ [])
    -- M3: M2 to its end
    ∷ (write RAMADDR 0x1000 ∷ write RDLEN 0x0200B03F ∷ sp_moves 96
    ∷ reads RAMADDR 0x1460 ∷ reads SPADDR 0x300 ∷ reads RDLEN 0x02000FF8 ∷ reads WRLEN 0x02000FF8 ∷ [])
    -- M4: 131,072 turns, and no fewer
    ∷ (write RDLEN 0xFFFFFFFF ∷ sp_moves 131071 ∷ reads DMABUSY 1 ∷ sp_moves 1 ∷ reads DMABUSY 0 ∷ reads RAMADDR 0x1FE808 ∷ [])
    -- M5
    ∷ (write SPADDR 0xFFFFFFFF ∷ write RDLEN 0x0F ∷ sp_moves 2 ∷ reads SPADDR 0x1008 ∷ [])
    -- M6, with HALTED off before the write of 3, and with HALTED on
    ∷ (write SPSTATUS 0x01000000 ∷ reads SPSTATUS 0x4000 ∷ write SPSTATUS 3 ∷ reads SPSTATUS 0x4000 ∷ [])
    ∷ (write SPSTATUS 2 ∷ reads SPSTATUS 1 ∷ write SPSTATUS 3 ∷ reads SPSTATUS 1 ∷ [])
    -- M7
    ∷ (reads SEMAPHORE 0 ∷ reads SEMAPHORE 1 ∷ write SEMAPHORE 1 ∷ reads SEMAPHORE 0 ∷ [])
    -- M8
    ∷ (write START 0x2000 ∷ write END 0x2000 ∷ reads DPSTATUS 0x80 ∷ [])
    -- M9: a turn is a fetch and a consumer turn
    ∷ (write START 0x2000 ∷ write END 0x2018 ∷ write START 0x3000 ∷ write END 0x3008 ∷ reads DPSTATUS 0x780
    ∷ dp_fetches ∷ consumes 0 ∷ dp_fetches ∷ consumes 0 ∷ dp_fetches ∷ consumes 0 ∷ reads CURRENT 0x3000 ∷ reads DPSTATUS 0x1A8 ∷ [])
    -- M10
    ∷ (write DPSTATUS 8 ∷ write START 0x2000 ∷ write END 0x2008 ∷ reads DPSTATUS 0x682
    ∷ write DPSTATUS 4 ∷ reads DPSTATUS 0x180 ∷ [])
    -- M11: as in M9
    ∷ (puts 0x2000 0xE9 ∷ write START 0x2000 ∷ write END 0x2008 ∷ dp_line false
    ∷ dp_fetches ∷ consumes 0xE900000000000000 ∷ dp_line true ∷ reads DPSTATUS 0x80 ∷ [])
    -- M12: one fetch
    ∷ (write START 0x2000 ∷ write END 0x2018 ∷ dp_fetches
    ∷ write DPSTATUS 0x20 ∷ reads CURRENT 0x2008 ∷ reads DPSTATUS 0xAC ∷ [])
    ∷ []
