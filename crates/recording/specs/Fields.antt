-- Records by their kind and fields.
use Rattle.std.specs.Prelude.{ℕ, ◌+◌, ◌*◌, ◌/◌, ◌%◌, ◌<◌, ◌≡◌, Bool, true, cond, ◌||◌, [], ◌∷◌, map}
use Rattle.recording.specs.declared.Record.{Record}
use Rattle.recording.specs.declared.Record.TheVariants.{None, Write, Read, SpRun, DpRun, Tick, Break, Acknowledge, Store, Check, Run}
use Rattle.recording.specs.declared.Fields.{Fields}
use Rattle.recording.specs.Kinds.{is_kind, accesses, runs_or_ticks, stores_or_checks, runs_both, size, kinds, decoded}

abbrev pub of_kind : ℕ → ℕ → ℕ → Fields
of_kind kind address value = record { value = value; address = address; kind = kind }

-- The kind and the fields of a record; a field that a kind does not have is 0, and two budgets are the halves of one value. No record has kind 0
abbrev pub fields_of : Record → Fields
fields_of None = of_kind 0 0 0
fields_of (Write a v) = of_kind 1 a v
fields_of (Read a v) = of_kind 2 a v
fields_of (SpRun b) = of_kind 3 0 b
fields_of (DpRun b) = of_kind 4 0 b
fields_of (Tick n) = of_kind 5 0 n
fields_of Break = of_kind 6 0 0
fields_of Acknowledge = of_kind 7 0 0
fields_of (Store a w) = of_kind 8 a w
fields_of (Check a w) = of_kind 9 a w
fields_of (Run a b) = of_kind 10 0 (a * 0x100000000 + b)

-- How many bytes a record takes
abbrev pub record_size : Record → ℕ
record_size r = size (fields_of r).kind

-- The low 32 bits of the value, and those above them
abbrev pub low : Fields → ℕ
low f = f.value % 0x100000000

abbrev pub high : Fields → ℕ
high f = f.value / 0x100000000

-- What a body begins with: the value of kinds 3 to 5, the upper half of the value of kind 10, the address of the others
abbrev pub first_field : Fields → ℕ
first_field f = cond (runs_or_ticks f.kind) (low f) (cond (runs_both f.kind) (high f) f.address)

-- The record of this kind with these fields, None where the kind is unknown. Fields that a kind does not have play no part, and neither does
-- the upper half of the value where a kind has a value of four bytes
unfoldable pub record_by : Fields → Record
record_by f = decoded f.kind (first_field f) (low f) f.value

-- ---- What is proved of it

-- By the kind, from 0 on: the fields that the record has
abbrev pub RecordsBy : Type 0
RecordsBy = (a w : ℕ)
    → map (λ (kind : ℕ). record_by (of_kind kind a w)) (0 ∷ 1 ∷ 2 ∷ 3 ∷ 4 ∷ 5 ∷ 6 ∷ 7 ∷ 8 ∷ 9 ∷ 10 ∷ 11 ∷ [])
    ≡ None
    ∷ Write a (w % 0x100000000)
    ∷ Read a (w % 0x100000000)
    ∷ SpRun (w % 0x100000000)
    ∷ DpRun (w % 0x100000000)
    ∷ Tick (w % 0x100000000)
    ∷ Break
    ∷ Acknowledge
    ∷ Store a w
    ∷ Check a w
    ∷ Run (w / 0x100000000) (w % 0x100000000)
    ∷ None
    ∷ []

-- The fields of each kind's record; `kinds` lists a record of each, from 0 on
abbrev pub KindsNamed : Type 0
KindsNamed = (a v w : ℕ)
    → map fields_of (kinds a v w)
    ≡ of_kind 0 0 0
    ∷ of_kind 1 a v
    ∷ of_kind 2 a v
    ∷ of_kind 3 0 a
    ∷ of_kind 4 0 a
    ∷ of_kind 5 0 a
    ∷ of_kind 6 0 0
    ∷ of_kind 7 0 0
    ∷ of_kind 8 a w
    ∷ of_kind 9 a w
    ∷ of_kind 10 0 (a * 0x100000000 + v)
    ∷ []

-- The kinds that have an address; those that have a value of four bytes, and those that have one of eight
abbrev pub has_address : ℕ → Bool
has_address kind = accesses kind || stores_or_checks kind

abbrev pub has_value : ℕ → Bool
has_value kind = accesses kind || runs_or_ticks kind

abbrev pub has_word : ℕ → Bool
has_word kind = stores_or_checks kind || runs_both kind

-- The same kind, and the same in each field that this kind has
pub record SameFields (f g : Fields) : Type 0 where
  pub kind : f.kind ≡ g.kind
  pub address : has_address f.kind ≡ true → f.address ≡ g.address
  pub value : has_value f.kind ≡ true → low f ≡ low g
  pub word : has_word f.kind ≡ true → f.value ≡ g.value

-- The record of some fields is settled by the kind and that kind's fields, and has them
pub record FieldsKept (f : Fields) : Type 0 where
  pub unused : (g : Fields) → SameFields f g → record_by f ≡ record_by g
  pub kept : is_kind f.kind ≡ true → SameFields f (fields_of (record_by f))

-- ---- Widths, as the types of the code have them

-- Addresses, values, budgets and ticks below 2^32, words below 2^64
abbrev pub Fits : Record → Type 0
Fits None = Unit {0}
Fits (Write a v) = (a < 0x100000000) × (v < 0x100000000)
Fits (Read a v) = (a < 0x100000000) × (v < 0x100000000)
Fits (SpRun b) = b < 0x100000000
Fits (DpRun b) = b < 0x100000000
Fits (Tick n) = n < 0x100000000
Fits Break = Unit {0}
Fits Acknowledge = Unit {0}
Fits (Store a w) = (a < 0x100000000) × (w < 0x10000000000000000)
Fits (Check a w) = (a < 0x100000000) × (w < 0x10000000000000000)
Fits (Run a b) = (a < 0x100000000) × (b < 0x100000000)

pub record FieldsFit (f : Fields) : Type 0 where
  pub address : f.address < 0x100000000
  pub value : f.value < 0x10000000000000000
