-- The writer: the bytes of one record into a lent buffer from a place on, or the number of the first check that fails.
use Rattle.std.specs.Prelude.{ℕ, ◌+◌, ◌/◌, ◌≡◌, Bool, ◌&&◌, List, [], ◌∷◌, ◌++◌, leb, length, take, drop}
use Rattle.words.specs.Memory.{low_byte, word_bytes}
use Rattle.machine.specs.declared.Answer.{Answer}
use Rattle.machine.specs.Refusals.{check, if_refused}
use Rattle.recording.specs.declared.Record.{Record}
use Rattle.recording.specs.declared.Record.TheVariants.{None, Write, Read, SpRun, DpRun, Tick, Break, Acknowledge, Store, Check, Run}
use Rattle.recording.specs.declared.Fields.{Fields}
use Rattle.recording.specs.Kinds.{is_kind, size}
use Rattle.recording.specs.Fields.{record_by}
use Rattle.recording.specs.Reader.{address_number, longest}

-- Four bytes of a number, most significant first
abbrev pub four_bytes : ℕ → List ℕ
four_bytes n = low_byte (n / 0x1000000) ∷ low_byte (n / 0x10000) ∷ low_byte (n / 0x100) ∷ low_byte n ∷ []

-- The bytes of a record: its kind, and its fields in order
abbrev pub record_bytes : Record → List ℕ
record_bytes None = []
record_bytes (Write a v) = 1 ∷ four_bytes a ++ four_bytes v
record_bytes (Read a v) = 2 ∷ four_bytes a ++ four_bytes v
record_bytes (SpRun b) = 3 ∷ four_bytes b
record_bytes (DpRun b) = 4 ∷ four_bytes b
record_bytes (Tick n) = 5 ∷ four_bytes n
record_bytes Break = 6 ∷ []
record_bytes Acknowledge = 7 ∷ []
record_bytes (Store a w) = 8 ∷ four_bytes a ++ word_bytes w
record_bytes (Check a w) = 9 ∷ four_bytes a ++ word_bytes w
record_bytes (Run a b) = 10 ∷ four_bytes a ++ four_bytes b

-- A record of this kind ends within n bytes, and within the longest recording
abbrev pub has_room : ℕ → ℕ → ℕ → Bool
has_room at kind n = leb (at + size kind) n && leb (at + size kind) longest

-- A number that is not 0, else what the later checks give
abbrev pub before : ℕ → ℕ → ℕ
before number later = if_refused number number later

-- The number of the first check that fails for a record at a place of a buffer of n bytes: 7 unknown kind, 10 register address not a multiple of
-- 4, 5 not a register, 6 memory address not allowed, 14 does not fit
unfoldable pub write_number : Fields → ℕ → ℕ → ℕ
write_number f at n = check (is_kind f.kind) 7 (before (address_number (record_by f)) (check (has_room at f.kind n) 14 0))

abbrev pub answered : ℕ → ℕ → Answer
answered number value = record { number = number; value = value; count = 0 }

-- What the writer answers: its value is the place after the record
unfoldable pub write_answer : Fields → ℕ → List ℕ → Answer
write_answer f at d =
    if_refused (write_number f at (length d)) (answered (write_number f at (length d)) 0) (answered 0 (at + size f.kind))

-- Some bytes in place of as many from a place on
abbrev pub replaced : List ℕ → ℕ → List ℕ → List ℕ
replaced d at bytes = take at d ++ bytes ++ drop (at + length bytes) d

-- The buffer after it
unfoldable pub write_buffer : Fields → ℕ → List ℕ → List ℕ
write_buffer f at d = if_refused (write_number f at (length d)) d (replaced d at (record_bytes (record_by f)))

-- What the writer promises for every input: its answer r, and the buffer d' at exit, of the record f, a place, and the buffer d at entry
pub record WriteRecordGives (f : Fields) (at : ℕ) (d : List ℕ) (r : Answer) (d' : List ℕ) : Type 0 where
  pub answer : r ≡ write_answer f at d
  pub bytes : d' ≡ write_buffer f at d
