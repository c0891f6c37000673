-- What is proved of the writer, of whatever code meets its promise (WriteRecordGives).
use Rattle.std.specs.Prelude.{ℕ, suc, ◌+◌, ◌-◌, ◌<◌, ◌≤◌, ◌≡◌, Bool, true, not, ◌&&◌, ◌||◌, List, [], ◌∷◌, ◌++◌, leb, eqb, length, get_or, take, drop}
use Rattle.words.specs.Tests.{implies}
use Rattle.machine.specs.declared.Answer.{Answer}
use Rattle.machine.specs.Address.{aligned, register_at}
use Rattle.machine.specs.Refusals.{check, is_register, ten_as_five}
use Rattle.recording.specs.declared.Record.{Record}
use Rattle.recording.specs.declared.Fields.{Fields}
use Rattle.recording.specs.Kinds.{Bytes, is_kind, accesses, stores_or_checks, size}
use Rattle.recording.specs.Fields.{fields_of, record_by, SameFields, FieldsFit}
use Rattle.recording.specs.Reader.{Reading, memory_allowed, found, read_record, RecordGives}
use Rattle.recording.specs.Writer.{record_bytes, has_room, write_number, answered, WriteRecordGives}
use Rattle.recording.specs.Split.{Split, split}

-- ---- The numbers

-- The address of a kind that names one is allowed
abbrev pub address_allowed : Fields → Bool
address_allowed f =
    implies (accesses f.kind) (is_register (register_at f.address)) && implies (stores_or_checks f.kind) (memory_allowed f.address)

-- Each number exactly in its case, by the first that applies, and 0 where none does: for a record at a place of a buffer of n bytes
pub record WriteNumbers (f : Fields) (at n : ℕ) : Type 0 where
  pub kind_number : eqb (write_number f at n) 7 ≡ not (is_kind f.kind)
  pub aligned_number : eqb (write_number f at n) 10 ≡ is_kind f.kind && accesses f.kind && not (aligned f.address)
  pub mapped_number : eqb (write_number f at n) 5
      ≡ is_kind f.kind && accesses f.kind && aligned f.address && not (is_register (register_at f.address))
  pub memory_number : eqb (write_number f at n) 6 ≡ is_kind f.kind && stores_or_checks f.kind && not (memory_allowed f.address)
  pub room_number : eqb (write_number f at n) 14 ≡ is_kind f.kind && address_allowed f && not (has_room at f.kind n)
  pub success : eqb (write_number f at n) 0 ≡ is_kind f.kind && address_allowed f && has_room at f.kind n
  -- Never 9, nor any other
  pub no_other : eqb (write_number f at n) 0
      || eqb (write_number f at n) 5
      || eqb (write_number f at n) 6
      || eqb (write_number f at n) 7
      || eqb (write_number f at n) 10
      || eqb (write_number f at n) 14
      ≡ true
  -- With 10 read as 5 it is what 5 for both would give
  pub five_for_both : ten_as_five (write_number f at n)
      ≡ check (is_kind f.kind) 7
      (check (implies (accesses f.kind) (is_register (register_at f.address))) 5
      (check (implies (stores_or_checks f.kind) (memory_allowed f.address)) 6
      (check (has_room at f.kind n) 14 0)))

-- ---- One record, written and read

-- The record f was to be written at a place of the buffer d; the writer answered r and left d'
pub record Written (f : Fields) (at : ℕ) (d : List ℕ) (r : Answer) (d' : List ℕ) : Type 0 where
  pub number : r.number ≡ write_number f at (length d)
  pub numbers : WriteNumbers f at (length d)
  -- Declined: value 0, count 0, and every byte as before
  pub declined : (n : ℕ) → r.number ≡ suc n → (r ≡ answered (suc n) 0) × (d' ≡ d)
  -- The place after the record, which stands there; it ends within the buffer and within the longest recording
  pub place : r.number ≡ 0 → r ≡ answered 0 (at + size f.kind)
  pub bytes : r.number ≡ 0 → take (size f.kind) (drop at d') ≡ record_bytes (record_by f)
  pub within : (r.value ≤ length d) × (r.value ≤ 16383)
  -- No other byte changes
  pub others : (i : ℕ) → (at ≤ i → i < r.value → ⊥) → get_or d' i 0 ≡ get_or d i 0
  pub length_kept : length d' ≡ length d
  -- Fields that the kind does not have play no part
  pub unused : (g : Fields) → SameFields f g → WriteRecordGives g at d r d'
  -- The reader finds the record and the place after it, in the buffer up to that place, or up to any place after it that a recording may reach
  pub reads_back : r.number ≡ 0 → (n : ℕ) → r.value ≤ n → n ≤ 16383 → read_record (take n d') at ≡ found (record_by f) r.value
  -- Of the same kind and with that kind's fields
  pub same_fields : r.number ≡ 0 → SameFields f (fields_of (record_by f))

abbrev pub EveryWrite : Type 0
EveryWrite = (f : Fields) (at : ℕ) (d : List ℕ) (r : Answer) (d' : List ℕ) → FieldsFit f → WriteRecordGives f at d r d' → Written f at d r d'

-- ---- What was read, written again

-- The reading q of the recording s at a place was written at the place `to` of the buffer d; the writer answered r and left d'
pub record WrittenBack (s : List ℕ) (at : ℕ) (q : Reading) (to : ℕ) (d : List ℕ) (r : Answer) (d' : List ℕ) : Type 0 where
  -- Declined only where it does not fit
  pub number : r.number ≡ check (leb (to + (q.place - at)) (length d) && leb (to + (q.place - at)) 16383) 14 0
  -- The bytes that were read
  pub bytes : r.number ≡ 0 → (r.value ≡ to + (q.place - at)) × (take (q.place - at) (drop to d') ≡ take (q.place - at) (drop at s))
  -- In its own place nothing changes
  pub in_place : to ≡ at → d ≡ s → (r ≡ answered 0 q.place) × (d' ≡ s)

abbrev pub EveryReading : Type 0
EveryReading = (s : List ℕ) (at : ℕ) (q : Reading) (s' : List ℕ) (to : ℕ) (d : List ℕ) (r : Answer) (d' : List ℕ)
    → Bytes s → RecordGives s at q s' → q.number ≡ 0 → WriteRecordGives (fields_of q.item) to d r d' → WrittenBack s at q to d r d'

-- ---- Records appended one after another

-- From the buffer d and a place on, each at the place that the last one gave: these were accepted, and the buffer d' and the place after the last
-- one are left. One that is declined adds nothing
pub data Appends : List ℕ → ℕ → List Record → List ℕ → ℕ → Type 0 where
  none : {d : List ℕ} {at : ℕ} → Appends d at [] d at
  adds : {d d₁ d' : List ℕ} {at last : ℕ} {f : Fields} {r : Answer} {rs : List Record} → FieldsFit f → WriteRecordGives f at d r d₁
      → r.number ≡ 0 → Appends d₁ r.value rs d' last → Appends d at (record_by f ∷ rs) d' last
  declines : {d d₁ d' : List ℕ} {at last n : ℕ} {f : Fields} {r : Answer} {rs : List Record} → WriteRecordGives f at d r d₁
      → r.number ≡ suc n → Appends d₁ at rs d' last → Appends d at rs d' last

-- A recording of n bytes whose records are all accepted
abbrev pub all_of : ℕ → List Record → Split
all_of n rs = record { items = rs; place = n; number = 0 }

-- The bytes up to the place after the last one are a recording: its records are those before and then those appended
pub record Appended (qs rs : List Record) (d d' : List ℕ) (last : ℕ) : Type 0 where
  pub records : split (take last d') ≡ all_of last (qs ++ rs)
  pub length_kept : length d' ≡ length d
  pub within : (last ≤ length d') × (last ≤ 16383)

abbrev pub EveryAppend : Type 0
EveryAppend = (d : List ℕ) (at : ℕ) (qs rs : List Record) (d' : List ℕ) (last : ℕ)
    → at ≤ length d → at ≤ 16383 → (split (take at d)).items ≡ qs → (split (take at d)).number ≡ 0 → Appends d at rs d' last
    → Appended qs rs d d' last
