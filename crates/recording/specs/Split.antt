-- A recording as the records that it holds.
use Rattle.std.specs.Prelude.{ℕ, zero, suc, ◌+◌, ◌<◌, ◌≡◌, Bool, not, ◌&&◌, ◌||◌, List, [], ◌∷◌, ltb, leb, eqb, length}
use Rattle.words.specs.Tests.{implies}
use Rattle.machine.specs.Address.{aligned, register_at}
use Rattle.machine.specs.Refusals.{check, is_register, if_refused, ten_as_five}
use Rattle.recording.specs.declared.Record.{Record}
use Rattle.recording.specs.Kinds.{four, is_kind, accesses, stores_or_checks, body_size, size, kind_of, record_of}
use Rattle.recording.specs.Fields.{Fits}
use Rattle.recording.specs.Reader.{memory_allowed, record_number, refused, found, read_record}

-- The records that are accepted, in order, the place after them, and the number of the one that begins there and is declined, 0 if none is left
pub record Split : Type 0 where
  pub items : List Record
  pub place : ℕ
  pub number : ℕ

abbrev pub stops : ℕ → ℕ → Split
stops at n = record { items = []; place = at; number = n }

abbrev pub precedes : Record → Split → Split
precedes r x = record { items = r ∷ x.items; place = x.place; number = x.number }

-- The records of bytes, of which the first `skip` are passed over: they are the rest of a body. Those after them stand at the place `at` of a
-- recording
unfoldable pub split_from : ℕ → ℕ → List ℕ → Split
split_from at skip [] = stops at 0
split_from at zero (b ∷ s) =
    if_refused (record_number (b ∷ s)) (stops at (record_number (b ∷ s))) (precedes (record_of (b ∷ s)) (split_from (at + size b) (body_size b) s))
split_from at (suc skip) (b ∷ s) = split_from at skip s

abbrev pub split : List ℕ → Split
split s = split_from 0 0 s

-- ---- What is proved of it

-- The reader of the recording s, called at a place and then at each place that it gives, accepts these records, stands at the place `last`,
-- and there is at the end (number 0) or declines with this number
pub data ReadOn (s : List ℕ) : ℕ → List Record → ℕ → ℕ → Type 0 where
  at_end : ReadOn s (length s) [] (length s) 0
  declines : {at n : ℕ} → at < length s → read_record s at ≡ refused (suc n) → ReadOn s at [] at (suc n)
  reads : {at p last n : ℕ} {r : Record} {rs : List Record} → at < length s → read_record s at ≡ found r p → ReadOn s p rs last n
      → ReadOn s at (r ∷ rs) last n

-- A known kind whose body is all there
abbrev pub whole : List ℕ → Bool
whole s = ltb 0 (length s) && is_kind (kind_of s) && leb (size (kind_of s)) (length s)

-- Each number exactly in its case, by the first that applies, and 0 where none does
pub record RecordGiven (s : List ℕ) : Type 0 where
  pub kind_number : eqb (record_number s) 7 ≡ ltb 0 (length s) && not (is_kind (kind_of s))
  pub cut_number : eqb (record_number s) 8 ≡ not (ltb 0 (length s)) || (is_kind (kind_of s) && not (leb (size (kind_of s)) (length s)))
  pub aligned_number : eqb (record_number s) 10 ≡ whole s && accesses (kind_of s) && not (aligned (four s 1))
  pub mapped_number : eqb (record_number s) 5 ≡ whole s && accesses (kind_of s) && aligned (four s 1) && not (is_register (register_at (four s 1)))
  pub memory_number : eqb (record_number s) 6 ≡ whole s && stores_or_checks (kind_of s) && not (memory_allowed (four s 1))
  pub success : eqb (record_number s) 0
      ≡ whole s && implies (accesses (kind_of s)) (is_register (register_at (four s 1))) && implies (stores_or_checks (kind_of s)) (memory_allowed (four s 1))
  -- With 10 read as 5 it is what 5 for both would give
  pub five_for_both : ten_as_five (record_number s)
      ≡ check (ltb 0 (length s)) 8
      (check (is_kind (kind_of s)) 7
      (check (leb (size (kind_of s)) (length s)) 8
      (check (implies (accesses (kind_of s)) (is_register (register_at (four s 1)))) 5
      (check (implies (stores_or_checks (kind_of s)) (memory_allowed (four s 1))) 6 0))))

-- 9 exactly where the recording is longer than 16,383 bytes, at every place
abbrev pub LengthGiven : List ℕ → Type 0
LengthGiven s = (at : ℕ) → eqb (read_record s at).number 9 ≡ ltb 16383 (length s)

-- Every number of the records has the width of its field
abbrev pub AllFit : List Record → Type 0
AllFit [] = Unit {0}
AllFit (r ∷ rs) = Fits r × AllFit rs
