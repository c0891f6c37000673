-- Each number of a declined reading is given exactly in its case, and a declined reading gives nothing else.
use Prim.Native.Nat.{ℕ, zero, suc, ◌+◌}
use mathlib.Core.Path.{◌≡◌, refl, ap, ◌∙◌}
use mathlib.Core.Bool.{Bool, true, false, cond, not, ◌&&◌, ◌||◌}
use mathlib.Core.List.{List}
use native.Mathlib.Omega.{arith}
use lib.Dec.{ltb, leb, eqb}
use lib.ListN.{length, drop}
use borrow.Author.Tests.{ne_eqb}
use Rattle.words.specs.Tests.{implies}
use Rattle.words.proofs.Tests.{contradiction}
use Rattle.machine.specs.Address.{aligned, register_at}
use Rattle.machine.specs.Refusals.{check, is_register, if_refused, ten_as_five}
use Rattle.machine.proofs.Address.{register_number_lem, register_aligned}
use Rattle.recording.specs.Kinds.{four, eight, is_kind, accesses, stores_or_checks, size, kind_of, decoded, record_of}
use Rattle.recording.specs.Reader.{Reading, memory_allowed, address_number, record_number}
use Rattle.recording.specs.Reader.{refused, found, first, shifted, longest, read_record}
use Rattle.recording.specs.Split.{RecordGiven, LengthGiven}
use Rattle.recording.proofs.Accepted.{first_number_lem}

-- ---- The addresses that kinds 8 and 9 may name, at their edges

pub memory_edges : (memory_allowed 0x03EFFFF8 ≡ true)
    × (memory_allowed 0x03F00000 ≡ false)
    × (memory_allowed 0x04000000 ≡ true)
    × (memory_allowed 0x04001FF8 ≡ true)
    × (memory_allowed 0x04002000 ≡ false)
    × (memory_allowed 0x01000000 ≡ true)
memory_edges = (refl, refl, refl, refl, refl, refl)

-- ---- The number of a record

-- No kind names both a register and a memory address
pub one_address : (k : ℕ) → accesses k && stores_or_checks k ≡ false
one_address zero = refl
one_address (suc zero) = refl
one_address (suc (suc zero)) = refl
one_address (suc (suc (suc k))) =
    rw (ne_eqb (suc (suc (suc k))) 1 (λ e. absurd (omega arith)), ne_eqb (suc (suc (suc k))) 2 (λ e. absurd (omega arith)))

-- The checks of an address, by the kind alone
pub address_number_lem : (k a v w : ℕ)
    → address_number (decoded k a v w)
    ≡ check (implies (accesses k) (aligned a)) 10
    (check (implies (accesses k) (is_register (register_at a))) 5 (check (implies (stores_or_checks k) (memory_allowed a)) 6 0))
unfolding decoded
address_number_lem zero a v w = refl
address_number_lem (suc zero) a v w = register_number_lem a
address_number_lem (suc (suc zero)) a v w = register_number_lem a
address_number_lem (suc (suc (suc zero))) a v w = refl
address_number_lem (suc (suc (suc (suc zero)))) a v w = refl
address_number_lem (suc (suc (suc (suc (suc zero))))) a v w = refl
address_number_lem (suc (suc (suc (suc (suc (suc zero)))))) a v w = refl
address_number_lem (suc (suc (suc (suc (suc (suc (suc zero))))))) a v w = refl
address_number_lem (suc (suc (suc (suc (suc (suc (suc (suc zero)))))))) a v w = refl
address_number_lem (suc (suc (suc (suc (suc (suc (suc (suc (suc zero))))))))) a v w = refl
address_number_lem (suc (suc (suc (suc (suc (suc (suc (suc (suc (suc zero)))))))))) a v w = refl
address_number_lem (suc (suc (suc (suc (suc (suc (suc (suc (suc (suc (suc k))))))))))) a v w =
    let n = suc (suc (suc (suc (suc (suc (suc (suc (suc (suc (suc k)))))))))) in
    rw (
      ne_eqb n 1 (λ e. absurd (omega arith)),
      ne_eqb n 2 (λ e. absurd (omega arith)),
      ne_eqb n 8 (λ e. absurd (omega arith)),
      ne_eqb n 9 (λ e. absurd (omega arith)),
    )

-- The same over bare tests
record GivenBy (n : ℕ) (begun known there accesses stores multiple register memory : Bool) : Type 0 where
  by_kind : eqb n 7 ≡ begun && not known
  by_cut : eqb n 8 ≡ not begun || (known && not there)
  by_multiple : eqb n 10 ≡ begun && known && there && accesses && not multiple
  by_register : eqb n 5 ≡ begun && known && there && accesses && multiple && not register
  by_memory : eqb n 6 ≡ begun && known && there && stores && not memory
  by_none : eqb n 0 ≡ begun && known && there && implies accesses register && implies stores memory
  as_one : ten_as_five n ≡ check begun 8 (check known 7 (check there 8 (check (implies accesses register) 5 (check (implies stores memory) 6 0))))
  not_nine : eqb n 9 ≡ false

first_fails : (b k t a s x r m : Bool) → a && s ≡ false → implies r x ≡ true
    → GivenBy (check b 8 (check k 7 (check t 8 (check (implies a x) 10 (check (implies a r) 5 (check (implies s m) 6 0)))))) b k t a s x r m
first_fails false k t a s x r m e h = search
first_fails true false t a s x r m e h = search
first_fails true true false a s x r m e h = search
first_fails true true true true true x r m e h = contradiction refl e
first_fails true true true true false false true m e h = contradiction h refl
first_fails true true true true false false false m e h = search
first_fails true true true true false true true m e h = search
first_fails true true true true false true false m e h = search
first_fails true true true false true x r true e h = search
first_fails true true true false true x r false e h = search
first_fails true true true false false x r m e h = search

given_by : (s : List ℕ)
    → GivenBy (record_number s) (ltb 0 (length s)) (is_kind (kind_of s)) (leb (size (kind_of s)) (length s)) (accesses (kind_of s))
    (stores_or_checks (kind_of s)) (aligned (four s 1)) (is_register (register_at (four s 1))) (memory_allowed (four s 1))
unfolding record_number record_of
given_by s =
    rw (address_number_lem (kind_of s) (four s 1) (four s 5) (eight s 5))
    (first_fails (ltb 0 (length s)) (is_kind (kind_of s)) (leb (size (kind_of s)) (length s)) (accesses (kind_of s))
    (stores_or_checks (kind_of s)) (aligned (four s 1)) (is_register (register_at (four s 1))) (memory_allowed (four s 1)) (one_address (kind_of s))
    (register_aligned (four s 1)))

pub record_given : (s : List ℕ) → RecordGiven s
record_given s =
    let g = given_by s in
    record {
      kind_number = g.by_kind;
      cut_number = g.by_cut;
      aligned_number = g.by_multiple;
      mapped_number = g.by_register;
      memory_number = g.by_memory;
      success = g.by_none;
      five_for_both = g.as_one;
    }

-- ---- The number of a reading

shifted_number : (at : ℕ) (f : Reading) → (shifted at f).number ≡ f.number
shifted_number at f = go f.number
  where
    go : (n : ℕ) → (if_refused n (refused n) (found f.item (at + f.place))).number ≡ n
    go zero = refl
    go (suc n) = refl

pub read_number : (s : List ℕ) (at : ℕ) → (read_record s at).number ≡ cond (ltb longest (length s)) 9 (record_number (drop at s))
unfolding read_record
read_number s at = go (ltb longest (length s))
  where
    go : (b : Bool) → (cond b (refused 9) (shifted at (first (drop at s)))).number ≡ cond b 9 (record_number (drop at s))
    go true = refl
    go false = shifted_number at (first (drop at s)) ∙ first_number_lem (drop at s)

-- A declined reading gives no record and place 0
shifted_declined : (at n : ℕ) (f : Reading) → (shifted at f).number ≡ suc n → shifted at f ≡ refused (suc n)
shifted_declined at n f = go f.number
  where
    go : (m : ℕ) → (if_refused m (refused m) (found f.item (at + f.place))).number ≡ suc n
        → if_refused m (refused m) (found f.item (at + f.place)) ≡ refused (suc n)
    go zero e = absurd (let z : ◌≡◌ {A = ℕ} 0 (suc n) = e in omega arith)
    go (suc m) e = ap refused e

pub declined_reading : (s : List ℕ) (at n : ℕ) → (read_record s at).number ≡ suc n → read_record s at ≡ refused (suc n)
unfolding read_record
declined_reading s at n = go (ltb longest (length s))
  where
    go : (b : Bool) → (cond b (refused 9) (shifted at (first (drop at s)))).number ≡ suc n
        → cond b (refused 9) (shifted at (first (drop at s))) ≡ refused (suc n)
    go true e = ap refused e
    go false e = shifted_declined at n (first (drop at s)) e

-- ---- 9 is for the length of a recording alone

pub not_nine : (s : List ℕ) → eqb (record_number s) 9 ≡ false
not_nine s = (given_by s).not_nine

pub length_given : (s : List ℕ) → LengthGiven s
length_given s at = ap (λ (n : ℕ). eqb n 9) (read_number s at) ∙ go (ltb longest (length s))
  where
    go : (b : Bool) → eqb (cond b 9 (record_number (drop at s))) 9 ≡ b
    go true = refl
    go false = not_nine (drop at s)
