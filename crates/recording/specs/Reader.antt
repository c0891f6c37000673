-- The reader: a record and the place after it, or the number of the first check that fails.
use Rattle.std.specs.Prelude.{
  ℕ,
  ◌+◌,
  ◌%◌,
  ◌≡◌,
  Bool,
  cond,
  ◌&&◌,
  ◌||◌,
  List,
  Result,
  Ok,
  Err,
  ltb,
  leb,
  eqb,
  length,
  drop,
}
use Rattle.machine.specs.Address.{register_at}
use Rattle.machine.specs.declared.refusal.Refusal.{Refusal}
use Rattle.machine.specs.Refusals.{check, register_number, if_refused, number}
use Rattle.recording.specs.declared.Record.{Record}
use Rattle.recording.specs.declared.Record.TheVariants.{None, Write, Read, SpRun, DpRun, Tick, Break, Acknowledge, Store, Check, Run}
use Rattle.recording.specs.Kinds.{is_kind, size, kind_of, record_of}

-- An address that kinds 8 and 9 may name: a multiple of 8 in 0 to 0x03EFFFFF, or in 0x04000000 to 0x04001FFF. It is not cut to 24 bits
abbrev pub memory_allowed : ℕ → Bool
memory_allowed a = eqb (a % 8) 0 && (ltb a 0x03F00000 || (leb 0x04000000 a && ltb a 0x04002000))

abbrev pub memory_number : ℕ → ℕ
memory_number a = check (memory_allowed a) 6 0

-- The number of the check of a record's address
abbrev pub address_number : Record → ℕ
address_number None = 0
address_number (Write a v) = register_number (register_at a)
address_number (Read a v) = register_number (register_at a)
address_number (SpRun b) = 0
address_number (DpRun b) = 0
address_number (Tick n) = 0
address_number Break = 0
address_number Acknowledge = 0
address_number (Store a w) = memory_number a
address_number (Check a w) = memory_number a
address_number (Run a b) = 0

-- The number of the first check that fails for the record that bytes begin with: 8 where there is no byte at all, 7 unknown kind, 8 cut
-- short, 10 register address not a multiple of 4, 5 not a register, 6 memory address not allowed
unfoldable pub record_number : List ℕ → ℕ
record_number s =
    check (ltb 0 (length s)) 8
    (check (is_kind (kind_of s)) 7
    (check (leb (size (kind_of s)) (length s)) 8
    (address_number (record_of s))))

-- What a reading says, as numbers: 0, the record and the place after it; or the number of the
-- first check that failed
pub record Reading : Type 0 where
  pub number : ℕ
  pub item : Record
  pub place : ℕ

-- A declined reading gives no record and place 0
abbrev pub refused : ℕ → Reading
refused number = record { number = number; item = None; place = 0 }

abbrev pub found : Record → ℕ → Reading
found item place = record { number = 0; item = item; place = place }

-- What the code of the reader gives, a record and the place after it or a refusal, says this
abbrev pub reading_of : Result (Record × ℕ) Refusal → Reading
reading_of (Ok r) = found r.0 r.1
reading_of (Err why) = refused (number why)

-- What bytes begin with
unfoldable pub first : List ℕ → Reading
first s = if_refused (record_number s) (refused (record_number s)) (found (record_of s) (size (kind_of s)))

-- A reading n bytes on
abbrev pub shifted : ℕ → Reading → Reading
shifted n r = if_refused r.number (refused r.number) (found r.item (n + r.place))

abbrev pub longest : ℕ
longest = 16383

-- What stands at a place of a recording
unfoldable pub read_record : List ℕ → ℕ → Reading
read_record s at = cond (ltb longest (length s)) (refused 9) (shifted at (first (drop at s)))

-- What the reader promises for every input: its answer r, and the recording s' at exit
pub record RecordGives (s : List ℕ) (at : ℕ) (r : Reading) (s' : List ℕ) : Type 0 where
  pub reading : r ≡ read_record s at
  pub recording_kept : s' ≡ s
