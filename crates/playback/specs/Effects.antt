-- What one record does, and the line that it writes.
use Rattle.std.specs.Prelude.{ℕ, ◌%◌, true, false, if◌then◌else◌, List, [], ◌++◌, nat_lt, replicate}
use Rattle.words.specs.Memory.{Memory, Place, RDRAM, DMEM, IMEM, bytes_of, with_bytes, load_word, store_word, word_value, word_bytes}
use Rattle.machine.specs.declared.Outcome.{Outcome}
use Rattle.machine.specs.declared.Ran.{Ran}
use Rattle.machine.specs.Calls.{read_register, write_register, tick, break, acknowledge}
use Rattle.machine.specs.Runs.{end_of_run, run}
use Rattle.laws.specs.World.{World, world}
use Rattle.recording.specs.declared.Record.{Record}
use Rattle.recording.specs.declared.Record.TheVariants.{None, Write, Read, SpRun, DpRun, Tick, Break, Acknowledge, Store, Check, Run}
use Rattle.listing.specs.Text.{Text, letter_s, letter_d, letter_r, letter_l, run_line, found_line}

-- The memory that kinds 8 and 9 name by an address, and where in it: RDRAM from 0, DMEM from 0x04000000, IMEM from 0x04001000
abbrev pub place_at : ℕ → Place
place_at a = if nat_lt a 0x04000000 then RDRAM else (if nat_lt a 0x04001000 then DMEM else IMEM)

abbrev pub offset_at : ℕ → ℕ
offset_at a = if nat_lt a 0x04000000 then a else a % 0x1000

-- The word at an address; past the lent length it reads as zeros
unfoldable pub load_at : ℕ → Memory → ℕ
load_at a m = word_value (load_word (bytes_of (place_at a) m) (offset_at a))

-- The memory with a word stored at an address; past the lent length it is dropped
unfoldable pub store_at : ℕ → ℕ → Memory → Memory
store_at a word m = with_bytes (place_at a) (store_word (bytes_of (place_at a) m) (offset_at a) (word_bytes word)) m

-- The output of a run of a replay: 2,048 bytes of its own
abbrev pub room : List ℕ
room = replicate 2048 0

-- A run of a replay, with the SP's and the DP's budget, and what it leaves. The consumer has the DP's budget too
abbrev pub replay_run : World → ℕ → ℕ → Ran
replay_run w spbudget dpbudget = run w.state spbudget dpbudget dpbudget w.memory room

abbrev pub after_run : World → ℕ → ℕ → World
after_run w spbudget dpbudget =
    world (replay_run w spbudget dpbudget).outcome.state (end_of_run w.state spbudget dpbudget dpbudget w.memory room).memory

-- The lines that show its counts
abbrev pub sp_line : Ran → Text
sp_line r = run_line letter_s r.outcome.answer.count

abbrev pub dp_line : Ran → Text
dp_line r = run_line letter_d r.words

-- The state that a call gives, and the memory as it was
abbrev pub with_state : World → Outcome → World
with_state w o = world o.state w.memory

-- What a record leaves
unfoldable pub after : Record → World → World
after None w = w
after (Write a v) w = with_state w (write_register w.state a v)
after (Read a v) w = with_state w (read_register w.state a)
after (SpRun budget) w = after_run w budget 0
after (DpRun budget) w = after_run w 0 budget
after (Tick n) w = with_state w (tick w.state n)
after Break w = with_state w (break w.state)
after Acknowledge w = with_state w (acknowledge w.state)
after (Store a word) w = world w.state (store_at a word w.memory)
after (Check a word) w = w
after (Run spbudget dpbudget) w = after_run w spbudget dpbudget

-- The lines that it writes, from what was there before it. Kinds 2 and 9 show the value found and the value expected; 3 the SP's count, 4 the
-- consumer's, and 10 both
unfoldable pub line : Record → World → Text
line None w = []
line (Write a v) w = []
line (Read a v) w = found_line letter_r false a (read_register w.state a).answer.value v
line (SpRun budget) w = sp_line (replay_run w budget 0)
line (DpRun budget) w = dp_line (replay_run w 0 budget)
line (Tick n) w = []
line Break w = []
line Acknowledge w = []
line (Store a word) w = []
line (Check a word) w = found_line letter_l true a (load_at a w.memory) word
line (Run spbudget dpbudget) w = sp_line (replay_run w spbudget dpbudget) ++ dp_line (replay_run w spbudget dpbudget)
