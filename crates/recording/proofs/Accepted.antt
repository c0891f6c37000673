-- What is known of an accepted record, and what the reader gives in each case.
use Prim.Native.Nat.{ℕ, zero, suc, ◌+◌, ◌<◌, ◌≤◌}
use mathlib.Core.Path.{◌≡◌, refl, sym, ap, ◌∙◌}
use mathlib.Core.Bool.{Bool, true, false}
use mathlib.Core.List.{List, [], ◌∷◌}
use native.Mathlib.Omega.{arith}
use lib.Dec.{ltb, leb}
use lib.ListN.{length, drop, drop_of_length-le}
use borrow.Author.Tests.{ltb-true, leb-true, lt-ltb, le-ltb}
use Rattle.machine.specs.Address.{register_at}
use Rattle.machine.specs.Refusals.{check, if_refused}
use Rattle.machine.proofs.Refusals.{if_accepted, if_refused_lem}
use Rattle.recording.specs.declared.Record.{Record}
use Rattle.recording.specs.Kinds.{is_kind, body_size, size, decoded, kind_of, record_of}
use Rattle.recording.specs.Reader.{Reading, address_number, record_number, refused, found}
use Rattle.recording.specs.Reader.{first, shifted, longest, read_record}

-- ---- The numbers of some bytes, by computation

-- No byte; kinds 0 and 11; a merged run without its budgets; a write that is cut in its address, which begins no register's; writes to 0x04040020,
-- 0x04040021 and 0x00000001; a store at 0x03F00000, and one at an address that is no multiple of 4; reads at 0x041FFFFC, in the last mirror, at
-- 0x041FFFFE and at 0x04200000
pub numbers_of_bytes : (record_number [] ≡ 8)
    × (record_number (0 ∷ []) ≡ 7)
    × (record_number (11 ∷ []) ≡ 7)
    × (record_number (10 ∷ []) ≡ 8)
    × (record_number (1 ∷ 0xFF ∷ []) ≡ 8)
    × (record_number (1 ∷ 0x04 ∷ 0x04 ∷ 0x00 ∷ 0x20 ∷ 0 ∷ 0 ∷ 0 ∷ 0 ∷ []) ≡ 5)
    × (record_number (1 ∷ 0x04 ∷ 0x04 ∷ 0x00 ∷ 0x21 ∷ 0 ∷ 0 ∷ 0 ∷ 0 ∷ []) ≡ 10)
    × (record_number (1 ∷ 0x00 ∷ 0x00 ∷ 0x00 ∷ 0x01 ∷ 0 ∷ 0 ∷ 0 ∷ 0 ∷ []) ≡ 10)
    × (record_number (8 ∷ 0x03 ∷ 0xF0 ∷ 0x00 ∷ 0x00 ∷ 0 ∷ 0 ∷ 0 ∷ 0 ∷ 0 ∷ 0 ∷ 0 ∷ 0 ∷ []) ≡ 6)
    × (record_number (8 ∷ 0x00 ∷ 0x00 ∷ 0x00 ∷ 0x01 ∷ 0 ∷ 0 ∷ 0 ∷ 0 ∷ 0 ∷ 0 ∷ 0 ∷ 0 ∷ []) ≡ 6)
    × (record_number (2 ∷ 0x04 ∷ 0x1F ∷ 0xFF ∷ 0xFC ∷ 0 ∷ 0 ∷ 0 ∷ 0 ∷ []) ≡ 0)
    × (record_number (2 ∷ 0x04 ∷ 0x1F ∷ 0xFF ∷ 0xFE ∷ 0 ∷ 0 ∷ 0 ∷ 0 ∷ []) ≡ 10)
    × (record_number (2 ∷ 0x04 ∷ 0x20 ∷ 0x00 ∷ 0x00 ∷ 0 ∷ 0 ∷ 0 ∷ 0 ∷ []) ≡ 5)
unfolding record_number record_of decoded register_at
numbers_of_bytes = (refl, refl, refl, refl, refl, refl, refl, refl, refl, refl, refl, refl, refl)

-- ---- What is known of an accepted record

-- A body takes at most 12 bytes
pub body_at_most : (kind : ℕ) → body_size kind ≤ 12
body_at_most zero = omega arith
body_at_most (suc zero) = omega arith
body_at_most (suc (suc zero)) = omega arith
body_at_most (suc (suc (suc zero))) = omega arith
body_at_most (suc (suc (suc (suc zero)))) = omega arith
body_at_most (suc (suc (suc (suc (suc zero))))) = omega arith
body_at_most (suc (suc (suc (suc (suc (suc zero)))))) = omega arith
body_at_most (suc (suc (suc (suc (suc (suc (suc zero))))))) = omega arith
body_at_most (suc (suc (suc (suc (suc (suc (suc (suc zero)))))))) = omega arith
body_at_most (suc (suc (suc (suc (suc (suc (suc (suc (suc zero))))))))) = omega arith
body_at_most (suc (suc (suc (suc (suc (suc (suc (suc (suc (suc zero)))))))))) = omega arith
body_at_most (suc (suc (suc (suc (suc (suc (suc (suc (suc (suc (suc kind))))))))))) = omega arith

-- ---- What the number 0 says of the bytes

-- A check whose number is not 0 gives 0 only where it holds and the later checks give 0
pub passed : (ok : Bool) (n later : ℕ) → check ok (suc n) later ≡ 0 → (ok ≡ true) × (later ≡ 0)
passed true n later e = (refl, e)
passed false n later e = let z : suc n ≡ 0 = e in absurd (omega arith)

begun : (s : List ℕ) → record_number s ≡ 0
    → (ltb 0 (length s) ≡ true)
    × (check (is_kind (kind_of s)) 7 (check (leb (size (kind_of s)) (length s)) 8 (address_number (record_of s))) ≡ 0)
unfolding record_number
begun s e =
    passed (ltb 0 (length s)) 7 (check (is_kind (kind_of s)) 7 (check (leb (size (kind_of s)) (length s)) 8 (address_number (record_of s)))) e

known : (s : List ℕ) → record_number s ≡ 0
    → (is_kind (kind_of s) ≡ true) × (check (leb (size (kind_of s)) (length s)) 8 (address_number (record_of s)) ≡ 0)
known s e = passed (is_kind (kind_of s)) 6 (check (leb (size (kind_of s)) (length s)) 8 (address_number (record_of s))) (begun s e).1

there : (s : List ℕ) → record_number s ≡ 0 → (leb (size (kind_of s)) (length s) ≡ true) × (address_number (record_of s) ≡ 0)
there s e = passed (leb (size (kind_of s)) (length s)) 7 (address_number (record_of s)) (known s e).1

-- There are bytes, of a known kind
pub accepted_begun : (s : List ℕ) → record_number s ≡ 0 → 0 < length s
accepted_begun s e = ltb-true 0 (length s) (begun s e).0

pub accepted_kind : (s : List ℕ) → record_number s ≡ 0 → is_kind (kind_of s) ≡ true
accepted_kind s e = (known s e).0

-- The record is all there
pub accepted_whole : (s : List ℕ) → record_number s ≡ 0 → size (kind_of s) ≤ length s
accepted_whole s e = leb-true (size (kind_of s)) (length s) (there s e).0

-- Its address is allowed
pub accepted_address : (s : List ℕ) → record_number s ≡ 0 → address_number (record_of s) ≡ 0
accepted_address s e = (there s e).1

-- ---- What bytes begin with

pub first_found : (s : List ℕ) → record_number s ≡ 0 → first s ≡ found (record_of s) (size (kind_of s))
unfolding first
first_found s e = if_accepted (record_number s) (refused (record_number s)) (found (record_of s) (size (kind_of s))) e

pub first_refused : (s : List ℕ) → (record_number s ≡ 0 → ⊥) → first s ≡ refused (record_number s)
unfolding first
first_refused s e = if_refused_lem (record_number s) (refused (record_number s)) (found (record_of s) (size (kind_of s))) e

-- A reading gives the number of the checks
number_of : (n : ℕ) (item : Record) (place : ℕ) → (if_refused n (refused n) (found item place)).number ≡ n
number_of zero item place = refl
number_of (suc n) item place = refl

pub first_number_lem : (s : List ℕ) → (first s).number ≡ record_number s
unfolding first
first_number_lem s = number_of (record_number s) (record_of s) (size (kind_of s))

-- The place after a record stands within the bytes
place_within : (n : ℕ) (item : Record) (place top : ℕ) → (n ≡ 0 → place ≤ top) → (if_refused n (refused n) (found item place)).place ≤ top
place_within zero item place top h = h refl
place_within (suc n) item place top h = omega arith

pub first_within : (s : List ℕ) → (first s).place ≤ length s
unfolding first
first_within s = place_within (record_number s) (record_of s) (size (kind_of s)) (length s) (accepted_whole s)

-- ---- What the reader gives

pub read_long : (s : List ℕ) (at : ℕ) → longest < length s → read_record s at ≡ refused 9
unfolding read_record
read_long s at h = simp (lt-ltb longest (length s) h)

pub read_short : (s : List ℕ) (at : ℕ) → length s ≤ longest → read_record s at ≡ shifted at (first (drop at s))
unfolding read_record
read_short s at h = simp (le-ltb longest (length s) h)

-- By the reading of the bytes from the place on
pub read_found : (s : List ℕ) (at : ℕ) (r : Reading) → length s ≤ longest → r ≡ first (drop at s) → r.number ≡ 0
    → read_record s at ≡ found r.item (at + r.place)
read_found s at r h e z =
    read_short s at h ∙ ap (shifted at) (sym e) ∙ if_accepted r.number (refused r.number) (found r.item (at + r.place)) z

pub read_refused : (s : List ℕ) (at : ℕ) (r : Reading) → length s ≤ longest → r ≡ first (drop at s) → (r.number ≡ 0 → ⊥)
    → read_record s at ≡ refused r.number
read_refused s at r h e z =
    read_short s at h ∙ ap (shifted at) (sym e) ∙ if_refused_lem r.number (refused r.number) (found r.item (at + r.place)) z

-- At or past the end there is no byte
pub read_past : (s : List ℕ) (at : ℕ) → length s ≤ longest → length s ≤ at → read_record s at ≡ refused 8
read_past s at h past =
    let f : first (drop at s) ≡ refused 8
    = ap first (drop_of_length-le s past) ∙ first_refused [] (λ z. absurd (let e = numbers_of_bytes.0 in omega arith)) ∙ ap refused numbers_of_bytes.0 in
    read_short s at h ∙ ap (shifted at) f
