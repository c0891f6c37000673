-- A recording whose accesses go through the first copy of the DP registers, in the place of their mirrors; and what is proved of the reader and
-- the writer.
use Rattle.std.specs.Prelude.{ℕ, ◌≡◌, cond, List, [], ◌∷◌, ◌++◌, map, length, drop}
use Rattle.machine.specs.Address.{first_copy}
use Rattle.recording.specs.declared.Record.{Record}
use Rattle.recording.specs.declared.Record.TheVariants.{None, Write, Read, SpRun, DpRun, Tick, Break, Acknowledge, Store, Check, Run}
use Rattle.recording.specs.declared.Fields.{Fields}
use Rattle.recording.specs.Kinds.{accesses}
use Rattle.recording.specs.Fields.{of_kind, record_by}
use Rattle.recording.specs.Reader.{address_number}
use Rattle.recording.specs.Writer.{record_bytes, write_answer}
use Rattle.recording.specs.Split.{Split, split}

-- The record with its register address in the first copy
abbrev pub at_first_copy : Record → Record
at_first_copy None = None
at_first_copy (Write a v) = Write (first_copy a) v
at_first_copy (Read a v) = Read (first_copy a) v
at_first_copy (SpRun b) = SpRun b
at_first_copy (DpRun b) = DpRun b
at_first_copy (Tick n) = Tick n
at_first_copy Break = Break
at_first_copy Acknowledge = Acknowledge
at_first_copy (Store a w) = Store a w
at_first_copy (Check a w) = Check a w
at_first_copy (Run a b) = Run a b

-- The bytes of records, one after another
abbrev pub all_bytes : List Record → List ℕ
all_bytes [] = []
all_bytes (r ∷ rs) = record_bytes r ++ all_bytes rs

-- The recording: each accepted record is the one at the first copy, and what follows them is as it was
unfoldable pub bytes_at_first_copy : List ℕ → List ℕ
bytes_at_first_copy s = all_bytes (map at_first_copy (split s).items) ++ drop (split s).place s

-- The fields of a record that is to be written, with a register address in the first copy
abbrev pub fields_at_first_copy : Fields → Fields
fields_at_first_copy f = of_kind f.kind (cond (accesses f.kind) (first_copy f.address) f.address) f.value

-- ---- What is proved of it

abbrev pub split_at_first_copy : Split → Split
split_at_first_copy x = record { items = map at_first_copy x.items; place = x.place; number = x.number }

-- The reader finds these records in it, and stops at the same place with the same number
pub record ReadAtFirstCopy (s : List ℕ) : Type 0 where
  pub length_kept : length (bytes_at_first_copy s) ≡ length s
  pub splitting : split (bytes_at_first_copy s) ≡ split_at_first_copy (split s)
  -- Where no record names a mirror it is the recording itself
  pub unmirrored : map at_first_copy (split s).items ≡ (split s).items → bytes_at_first_copy s ≡ s

-- The number of a record's address, the writer's answer and the record that it writes
pub record WrittenAtFirstCopy (f : Fields) : Type 0 where
  pub number : address_number (record_by (fields_at_first_copy f)) ≡ address_number (record_by f)
  pub answer : (at : ℕ) (d : List ℕ) → write_answer (fields_at_first_copy f) at d ≡ write_answer f at d
  pub item : record_by (fields_at_first_copy f) ≡ at_first_copy (record_by f)
