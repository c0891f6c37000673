-- The writer: its numbers, what it leaves, and what the reader finds there.
use Prim.Native.Nat.{ℕ, zero, suc, ◌+◌, ◌-◌, ◌<◌, ◌≤◌}
use mathlib.Core.Path.{◌≡◌, refl, sym, ap, ◌∙◌}
use mathlib.Core.Bool.{Bool, true, false, cond, not, ◌&&◌, ◌||◌}
use mathlib.Core.List.{List, ◌++◌, append_assoc}
use native.Mathlib.Omega.{arith}
use lib.Dec.{leb, eqb}
use lib.ListN.{length, get_or, take, drop, replicate, length-append, length-take}
use lib.Seq.{sets, sets-eq, length-sets, length-take-le, take_at, drop_at, take-append-add}
use borrow.Author.Tests.{leb-true, ne_eqb}
use Rattle.words.specs.Tests.{implies}
use Rattle.words.proofs.Tests.{contradiction, and_true}
use Rattle.words.proofs.Bytes.{sets_outside}
use Rattle.machine.specs.declared.Answer.{Answer}
use Rattle.machine.specs.Address.{aligned, register_at}
use Rattle.machine.specs.Refusals.{check, is_register, if_refused, ten_as_five}
use Rattle.machine.proofs.Address.{register_aligned}
use Rattle.machine.proofs.Refusals.{if_accepted, if_refused_lem}
use Rattle.recording.specs.declared.Fields.{Fields}
use Rattle.recording.specs.Kinds.{is_kind, accesses, runs_or_ticks, stores_or_checks, runs_both, size, decoded, kind_of, record_of}
use Rattle.recording.specs.Fields.{of_kind, low, high, first_field, record_by, SameFields, FieldsFit}
use Rattle.recording.specs.Reader.{memory_allowed, address_number, record_number, found, longest, read_record}
use Rattle.recording.specs.Writer.{record_bytes, has_room, before, write_number, answered, write_answer, replaced, write_buffer, WriteRecordGives}
use Rattle.recording.specs.Written.{WriteNumbers, EveryWrite}
use Rattle.recording.proofs.Accepted.{passed}
use Rattle.recording.proofs.Named.{fields_kept, record_fits}
use Rattle.recording.proofs.Agreeing.{more_kind, more_record, more_number}
use Rattle.recording.proofs.Bytes.{kind_number, bytes_record, bytes_kind, bytes_length, bytes_number}
use Rattle.recording.proofs.Numbers.{one_address, address_number_lem}
use Rattle.recording.proofs.Splitting.{read_accepted, drop_take}

-- ---- The answers for some records, by computation

-- The writer's numbers where there is no room: unknown kinds, 0x04040021 and 0x04040020 for a register and 0x03F00000 for memory come first. A BREAK
-- and a merged run have no address
pub numbers_of_writes : (write_number (of_kind 0 0 0) 0 0 ≡ 7)
    × (write_number (of_kind 11 0 0) 0 0 ≡ 7)
    × (write_number (of_kind 1 0x04040021 0) 0 0 ≡ 10)
    × (write_number (of_kind 1 0x04040020 0) 0 0 ≡ 5)
    × (write_number (of_kind 8 0x03F00000 0) 0 0 ≡ 6)
    × (write_number (of_kind 6 0x04040020 0) 0 0 ≡ 14)
    × (write_number (of_kind 10 0x04040020 0) 0 0 ≡ 14)
unfolding write_number record_by decoded register_at
numbers_of_writes = (refl, refl, refl, refl, refl, refl, refl)

-- The last place of a BREAK and the one after it, in a buffer of one byte and in one that is longer than a recording; and the largest place
pub room_edges : (write_number (of_kind 6 0 0) 0 1 ≡ 0)
    × (write_number (of_kind 6 0 0) 1 1 ≡ 14)
    × (write_number (of_kind 6 0 0) 16382 20000 ≡ 0)
    × (write_number (of_kind 6 0 0) 16383 20000 ≡ 14)
    × (write_number (of_kind 6 0 0) 0xFFFFFFFFFFFFFFFF 20000 ≡ 14)
unfolding write_number record_by decoded
room_edges = (refl, refl, refl, refl, refl)

-- The value is the place after the record
pub place_after : write_answer (of_kind 1 0x04040000 0) 1 (replicate 10 0) ≡ answered 0 10
unfolding write_answer write_number record_by decoded register_at
place_after = refl

-- ---- The numbers

-- Kinds that name an address have no number of four bytes in its stead
no_run_accesses : (k : ℕ) → (accesses k && runs_or_ticks k ≡ false) × (accesses k && runs_both k ≡ false)
no_run_accesses zero = (refl, refl)
no_run_accesses (suc zero) = (refl, refl)
no_run_accesses (suc (suc zero)) = (refl, refl)
no_run_accesses (suc (suc (suc k))) =
    rw (ne_eqb (suc (suc (suc k))) 1 (λ e. absurd (omega arith)), ne_eqb (suc (suc (suc k))) 2 (λ e. absurd (omega arith)))
    (refl, refl)

no_run_stores : (k : ℕ) → (stores_or_checks k && runs_or_ticks k ≡ false) × (stores_or_checks k && runs_both k ≡ false)
no_run_stores zero = (refl, refl)
no_run_stores (suc zero) = (refl, refl)
no_run_stores (suc (suc zero)) = (refl, refl)
no_run_stores (suc (suc (suc zero))) = (refl, refl)
no_run_stores (suc (suc (suc (suc zero)))) = (refl, refl)
no_run_stores (suc (suc (suc (suc (suc zero))))) = (refl, refl)
no_run_stores (suc (suc (suc (suc (suc (suc zero)))))) = (refl, refl)
no_run_stores (suc (suc (suc (suc (suc (suc (suc zero))))))) = (refl, refl)
no_run_stores (suc (suc (suc (suc (suc (suc (suc (suc zero)))))))) = (refl, refl)
no_run_stores (suc (suc (suc (suc (suc (suc (suc (suc (suc zero))))))))) = (refl, refl)
no_run_stores (suc (suc (suc (suc (suc (suc (suc (suc (suc (suc k)))))))))) =
    let n = suc (suc (suc (suc (suc (suc (suc (suc (suc (suc k))))))))) in
    rw (ne_eqb n 8 (λ e. absurd (omega arith)), ne_eqb n 9 (λ e. absurd (omega arith))) (refl, refl)

-- So their check is one of the address
of_address : (P : ℕ → Bool) (b r s : Bool) (x y z : ℕ) → (b && r ≡ false) × (b && s ≡ false)
    → implies b (P (cond r x (cond s y z))) ≡ implies b (P z)
of_address P true true s x y z e = contradiction refl e.0
of_address P true false true x y z e = contradiction refl e.1
of_address P true false false x y z e = refl
of_address P false r s x y z e = refl

address_checks : (f : Fields)
    → address_number (record_by f)
    ≡ check (implies (accesses f.kind) (aligned f.address)) 10
    (check (implies (accesses f.kind) (is_register (register_at f.address))) 5
    (check (implies (stores_or_checks f.kind) (memory_allowed f.address)) 6 0))
unfolding record_by
address_checks f =
    let k = f.kind in
    let register = no_run_accesses k in
    let memory = no_run_stores k in
    address_number_lem k (first_field f) (low f) f.value
    ∙ rw (
      of_address aligned (accesses k) (runs_or_ticks k) (runs_both k) (low f) (high f) f.address register,
      of_address (λ (a : ℕ). is_register (register_at a)) (accesses k) (runs_or_ticks k) (runs_both k) (low f) (high f) f.address register,
      of_address memory_allowed (stores_or_checks k) (runs_or_ticks k) (runs_both k) (low f) (high f) f.address memory,
    )

-- The same over bare tests
record GivenBy (n : ℕ) (known accesses stores multiple register memory room : Bool) : Type 0 where
  by_kind : eqb n 7 ≡ not known
  by_multiple : eqb n 10 ≡ known && accesses && not multiple
  by_register : eqb n 5 ≡ known && accesses && multiple && not register
  by_memory : eqb n 6 ≡ known && stores && not memory
  by_room : eqb n 14 ≡ known && (implies accesses register && implies stores memory) && not room
  by_none : eqb n 0 ≡ known && (implies accesses register && implies stores memory) && room
  others : eqb n 0 || eqb n 5 || eqb n 6 || eqb n 7 || eqb n 10 || eqb n 14 ≡ true
  as_one : ten_as_five n ≡ check known 7 (check (implies accesses register) 5 (check (implies stores memory) 6 (check room 14 0)))

first_fails : (k a s x r m room : Bool) → a && s ≡ false → implies r x ≡ true
    → GivenBy (check k 7 (before (check (implies a x) 10 (check (implies a r) 5 (check (implies s m) 6 0))) (check room 14 0))) k a s x r m room
first_fails false a s x r m room e h = search
first_fails true true true x r m room e h = contradiction refl e
first_fails true true false false true m room e h = contradiction h refl
first_fails true true false false false m room e h = search
first_fails true true false true true m true e h = search
first_fails true true false true true m false e h = search
first_fails true true false true false m room e h = search
first_fails true false true x r true true e h = search
first_fails true false true x r true false e h = search
first_fails true false true x r false room e h = search
first_fails true false false x r m true e h = search
first_fails true false false x r m false e h = search

pub write_numbers : (f : Fields) (at n : ℕ) → WriteNumbers f at n
unfolding write_number
write_numbers f at n =
    let k = f.kind in
    let a = f.address in
    let g : GivenBy (write_number f at n) (is_kind k) (accesses k) (stores_or_checks k) (aligned a) (is_register (register_at a)) (memory_allowed a)
    (has_room at k n)
    = rw (address_checks f)
    (first_fails (is_kind k) (accesses k) (stores_or_checks k) (aligned a) (is_register (register_at a)) (memory_allowed a) (has_room at k n)
    (one_address k) (register_aligned a)) in
    record {
      kind_number = g.by_kind;
      aligned_number = g.by_multiple;
      mapped_number = g.by_register;
      memory_number = g.by_memory;
      room_number = g.by_room;
      success = g.by_none;
      no_other = g.others;
      five_for_both = g.as_one;
    }

-- ---- What the number 0 says of the record

before_passed : (n later : ℕ) → before n later ≡ 0 → (n ≡ 0) × (later ≡ 0)
before_passed zero later e = (refl, e)
before_passed (suc n) later e = let z : suc n ≡ 0 = e in absurd (omega arith)

-- A known kind, an address that is allowed, and room
pub record Passed (f : Fields) (at n : ℕ) : Type 0 where
  pub known : is_kind f.kind ≡ true
  pub address : address_number (record_by f) ≡ 0
  pub in_buffer : at + size f.kind ≤ n
  pub in_recording : at + size f.kind ≤ longest

pub write_passed : (f : Fields) (at n : ℕ) → write_number f at n ≡ 0 → Passed f at n
unfolding write_number
write_passed f at n e =
    let k = f.kind in
    let p = passed (is_kind k) 6 (before (address_number (record_by f)) (check (has_room at k n) 14 0)) e in
    let q = before_passed (address_number (record_by f)) (check (has_room at k n) 14 0) p.1 in
    let r = and_true (leb (at + size k) n) (leb (at + size k) longest) (passed (has_room at k n) 13 0 q.1).0 in
    record {
      known = p.0;
      address = q.0;
      in_buffer = leb-true (at + size k) n r.0;
      in_recording = leb-true (at + size k) longest r.1;
    }

-- Its bytes
module _ (f : Fields) (known : is_kind f.kind ≡ true) where
  own_kind : kind_number (record_by f) ≡ f.kind
  own_kind = sym ((fields_kept f).kept known).kind

  own_known : is_kind (kind_number (record_by f)) ≡ true
  own_known = rw own_kind known

  pub own_length : length (record_bytes (record_by f)) ≡ size f.kind
  own_length = bytes_length (record_by f) own_known ∙ ap size own_kind

  pub own_first : kind_of (record_bytes (record_by f)) ≡ f.kind
  own_first = bytes_kind (record_by f) own_known ∙ own_kind

pub own_record : (f : Fields) → FieldsFit f → record_of (record_bytes (record_by f)) ≡ record_by f
own_record f h = bytes_record (record_by f) (record_fits f h)

own_number : (f : Fields) → FieldsFit f → is_kind f.kind ≡ true → address_number (record_by f) ≡ 0 → record_number (record_bytes (record_by f)) ≡ 0
own_number f h known a = bytes_number (record_by f) (own_known f known) a (record_fits f h)

-- ---- Bytes in place of others

module _ (d : List ℕ) (at : ℕ) (bs : List ℕ) (h : at + length bs ≤ length d) where
  front : length (take at d) ≡ at
  front = length-take-le at d (omega arith)

  stored : replaced d at bs ≡ sets d at bs
  stored = sym (sets-eq bs d at h)

  pub replaced_length : length (replaced d at bs) ≡ length d
  replaced_length = ap length stored ∙ length-sets d at bs

  pub replaced_others : (i : ℕ) → (at ≤ i → i < at + length bs → ⊥) → get_or (replaced d at bs) i 0 ≡ get_or d i 0
  replaced_others i out = rw stored (sets_outside bs d at i out)

  pub replaced_drop : drop at (replaced d at bs) ≡ bs ++ drop (at + length bs) d
  replaced_drop = rw append_assoc (drop_at (take at d) (bs ++ drop (at + length bs) d) at front)

  pub replaced_upto : take (at + length bs) (replaced d at bs) ≡ take at d ++ bs
  replaced_upto =
      take_at (take at d ++ bs) (drop (at + length bs) d) (at + length bs) (length-append (take at d) bs ∙ ap (λ (n : ℕ). n + length bs) front)

  -- Up to a place at or after their end
  pub replaced_part : (n : ℕ) → at + length bs ≤ n
      → drop at (take n (replaced d at bs)) ≡ bs ++ take (n - (at + length bs)) (drop (at + length bs) d)
  replaced_part n b =
      let e : n - at ≡ length bs + (n - (at + length bs)) = omega arith in
      drop_take at n (replaced d at bs) ∙ rw (replaced_drop, e) (take-append-add bs (drop (at + length bs) d) (n - (at + length bs)))

-- ---- What the writer gives

answer_number : (n p : ℕ) → (if_refused n (answered n 0) (answered 0 p)).number ≡ n
answer_number zero p = refl
answer_number (suc n) p = refl

module _ {f : Fields} {at : ℕ} {d : List ℕ} {r : Answer} {d' : List ℕ} (g : WriteRecordGives f at d r d') where
  pub gives_number : r.number ≡ write_number f at (length d)
  unfolding write_answer
  gives_number =
      ap (λ (a : Answer). a.number) g.answer ∙ answer_number (write_number f at (length d)) (at + size f.kind)

  pub gives_declined : (n : ℕ) → r.number ≡ suc n → (r ≡ answered (suc n) 0) × (d' ≡ d)
  unfolding write_answer write_buffer
  gives_declined n e =
      let m = write_number f at (length d) in
      let q : m ≡ suc n = sym gives_number ∙ e in (
        g.answer ∙ if_refused_lem m (answered m 0) (answered 0 (at + size f.kind)) (λ z. omega arith) ∙ ap (λ (k : ℕ). answered k 0) q,
        g.bytes ∙ if_refused_lem m d (replaced d at (record_bytes (record_by f))) (λ z. omega arith),
      )

  pub gives_accepted : r.number ≡ 0 → (r ≡ answered 0 (at + size f.kind)) × (d' ≡ replaced d at (record_bytes (record_by f)))
  unfolding write_answer write_buffer
  gives_accepted e =
      let m = write_number f at (length d) in
      let q : m ≡ 0 = sym gives_number ∙ e in (
        g.answer ∙ if_accepted m (answered m 0) (answered 0 (at + size f.kind)) q,
        g.bytes ∙ if_accepted m d (replaced d at (record_bytes (record_by f))) q,
      )

-- Fields that play no part
same_number : (f f' : Fields) (at n : ℕ) → SameFields f f' → write_number f at n ≡ write_number f' at n
unfolding write_number
same_number f f' at n s =
    let r = (fields_kept f).unused f' s in
    λ i. check (is_kind (s.kind i)) 7 (before (address_number (r i)) (check (has_room at (s.kind i) n) 14 0))

gives_same : {f : Fields} {at : ℕ} {d : List ℕ} {r : Answer} {d' : List ℕ} → WriteRecordGives f at d r d' → (f' : Fields) → SameFields f f'
    → WriteRecordGives f' at d r d'
unfolding write_answer write_buffer
gives_same {f} {at} {d} g f' s =
    let q = (fields_kept f).unused f' s in
    let n = same_number f f' at (length d) s in
    record {
      answer = g.answer ∙ (λ i. if_refused (n i) (answered (n i) 0) (answered 0 (at + size (s.kind i))));
      bytes = g.bytes ∙ (λ i. if_refused (n i) d (replaced d at (record_bytes (q i))));
    }

-- ---- An accepted record, in the buffer and as the reader finds it

abbrev bytes_by : Fields → List ℕ
bytes_by f = record_bytes (record_by f)

module _ {f : Fields} {at : ℕ} {d : List ℕ} {r : Answer} {d' : List ℕ} (h : FieldsFit f) (g : WriteRecordGives f at d r d')
    (e : r.number ≡ 0) where
  ok : Passed f at (length d)
  ok = write_passed f at (length d) (sym (gives_number g) ∙ e)

  as_long : length (bytes_by f) ≡ size f.kind
  as_long = own_length f ok.known

  room : at + length (bytes_by f) ≤ length d
  room = omega (arith, as_long, ok.in_buffer)

  pub accepted_known : is_kind f.kind ≡ true
  accepted_known = ok.known

  pub accepted_value : r.value ≡ at + size f.kind
  accepted_value = ap (λ (a : Answer). a.value) (gives_accepted g e).0

  pub accepted_buffer : d' ≡ replaced d at (bytes_by f)
  accepted_buffer = (gives_accepted g e).1

  pub accepted_bytes : take (size f.kind) (drop at d') ≡ bytes_by f
  accepted_bytes =
      rw (accepted_buffer, replaced_drop d at (bytes_by f) room)
      (take_at (bytes_by f) (drop (at + length (bytes_by f)) d) (size f.kind) as_long)

  pub accepted_within : (r.value ≤ length d) × (r.value ≤ longest)
  accepted_within = (omega (arith, accepted_value, ok.in_buffer), omega (arith, accepted_value, ok.in_recording))

  pub accepted_length : length d' ≡ length d
  accepted_length = ap length accepted_buffer ∙ replaced_length d at (bytes_by f) room

  pub accepted_others : (i : ℕ) → (at ≤ i → i < r.value → ⊥) → get_or d' i 0 ≡ get_or d i 0
  accepted_others i out =
      rw accepted_buffer
      (replaced_others d at (bytes_by f) room i (λ p q. out p (omega (arith, accepted_value, as_long))))

  -- The buffer up to the place after it
  pub accepted_upto : take r.value d' ≡ take at d ++ bytes_by f
  accepted_upto =
      let p : r.value ≡ at + length (bytes_by f) = omega (arith, accepted_value, as_long) in
      rw (p, accepted_buffer) (replaced_upto d at (bytes_by f) room)

  pub accepted_number : record_number (bytes_by f) ≡ 0
  accepted_number = own_number f h ok.known ok.address

  pub accepted_reading : (n : ℕ) → r.value ≤ n → n ≤ longest → read_record (take n d') at ≡ found (record_by f) r.value
  accepted_reading n b l =
      let t = take (n - (at + length (bytes_by f))) (drop (at + length (bytes_by f)) d) in
      let p : drop at (take n d') ≡ bytes_by f ++ t
      = rw accepted_buffer (replaced_part d at (bytes_by f) room n (omega (arith, accepted_value, as_long))) in
      let z : record_number (drop at (take n d')) ≡ 0 = ap record_number p ∙ more_number (bytes_by f) t accepted_number in
      let m : record_of (drop at (take n d')) ≡ record_by f
      = ap record_of p ∙ more_record (bytes_by f) t accepted_number ∙ own_record f h in
      let k : kind_of (drop at (take n d')) ≡ f.kind
      = ap kind_of p ∙ more_kind (bytes_by f) t accepted_number ∙ own_first f ok.known in
      read_accepted (take n d') at (omega (arith, length-take n d')) z
      ∙ (λ i. found (m i) (at + size (k i)))
      ∙ ap (found (record_by f)) (sym accepted_value)

-- ---- Every write

-- A declined write answers place 0 and changes nothing
module _ {f : Fields} {at : ℕ} {d : List ℕ} {r : Answer} {d' : List ℕ} (g : WriteRecordGives f at d r d') (n : ℕ) (e : r.number ≡ suc n) where
  declined_value : r.value ≡ 0
  declined_value = ap (λ (a : Answer). a.value) (gives_declined g n e).0

  declined_buffer : d' ≡ d
  declined_buffer = (gives_declined g n e).1

by_number : {P : Type 0} (n : ℕ) → (n ≡ 0 → P) → ((m : ℕ) → n ≡ suc m → P) → P
by_number zero p q = p refl
by_number (suc n) p q = q n refl

pub every_write : EveryWrite
every_write f at d r d' h g = record {
  number = gives_number g;
  numbers = write_numbers f at (length d);
  declined = gives_declined g;
  place = λ e. (gives_accepted g e).0;
  bytes = accepted_bytes h g;
  within =
      by_number r.number (accepted_within h g)
      (λ n e. (omega (arith, declined_value g n e), omega (arith, declined_value g n e)));
  others =
      λ i out.
      by_number r.number (λ e. accepted_others h g e i out)
      (λ n e. ap (λ (l : List ℕ). get_or l i 0) (declined_buffer g n e));
  length_kept = by_number r.number (accepted_length h g) (λ n e. ap length (declined_buffer g n e));
  unused = gives_same g;
  reads_back = λ e n. accepted_reading h g e n;
  same_fields = λ e. (fields_kept f).kept (ok h g e).known;
}
