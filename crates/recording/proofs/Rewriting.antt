-- What was read, written again.
use Prim.Native.Nat.{ℕ, ◌+◌, ◌-◌, ◌≤◌}
use mathlib.Core.Path.{◌≡◌, refl, sym, ap, ◌∙◌}
use mathlib.Core.Bool.{true}
use mathlib.Core.List.{List}
use native.Mathlib.Omega.{arith}
use lib.Dec.{ltb}
use lib.ListN.{length, take, drop, length-drop, take-append-drop}
use lib.Seq.{get_or-drop, length-take-le, take-add}
use borrow.Author.Tests.{ltb-true, ltb-false, le-leb}
use Rattle.words.proofs.Tests.{by}
use Rattle.machine.specs.declared.Answer.{Answer}
use Rattle.machine.specs.Refusals.{check}
use Rattle.recording.specs.declared.Record.{Record}
use Rattle.recording.specs.Kinds.{Bytes, four, eight, is_kind, size, decoded, kind_of, record_of}
use Rattle.recording.specs.Fields.{fields_of, record_size, record_by, FieldsFit}
use Rattle.recording.specs.Reader.{Reading, record_number, found, longest, read_record, RecordGives}
use Rattle.recording.specs.Writer.{record_bytes, has_room, write_number, answered, replaced, WriteRecordGives}
use Rattle.recording.specs.Written.{EveryReading}
use Rattle.recording.proofs.Accepted.{accepted_kind, accepted_whole, accepted_address, read_long}
use Rattle.recording.proofs.Named.{each_kind, own_fields, fits_fields}
use Rattle.recording.proofs.Bytes.{kind_number, read_bytes}
use Rattle.recording.proofs.Splitting.{short, read_accepted, read_fits}
use Rattle.recording.proofs.Writing.{gives_number, gives_accepted, accepted_bytes}

-- The kind that was decoded
pub decoded_kind : (k a v w : ℕ) → is_kind k ≡ true → kind_number (decoded k a v w) ≡ k
unfolding decoded
decoded_kind k a v w = each_kind (λ (n : ℕ). kind_number (decoded n a v w) ≡ n) refl refl refl refl refl refl refl refl refl refl k

read_kind : (u : List ℕ) → record_number u ≡ 0 → kind_number (record_of u) ≡ kind_of u
unfolding record_of
read_kind u z = decoded_kind (kind_of u) (four u 1) (four u 5) (eight u 5) (accepted_kind u z)

-- The place after a record that was read is as far on as the record has bytes
pub read_size : (s : List ℕ) (at : ℕ) → length s ≤ longest → (read_record s at).number ≡ 0
    → (read_record s at).place ≡ at + record_size (read_record s at).item
read_size s at h e =
    let z : record_number (drop at s) ≡ 0 = sym (short s at h) ∙ e in
    rw (read_accepted s at h z, read_kind (drop at s) z)

-- An accepted record by its own fields
module _ (u : List ℕ) (b : Bytes u) (z : record_number u ≡ 0) where
  same_kind : (fields_of (record_of u)).kind ≡ kind_of u
  same_kind = read_kind u z

  same_record : record_by (fields_of (record_of u)) ≡ record_of u
  same_record = own_fields (record_of u) (read_fits u b)

  same_bytes : record_bytes (record_by (fields_of (record_of u))) ≡ take (size (kind_of u)) u
  same_bytes = ap record_bytes same_record ∙ read_bytes u b z

  -- It is declined only where it does not fit
  only_room : (to n : ℕ) → write_number (fields_of (record_of u)) to n ≡ check (has_room to (kind_of u) n) 14 0
  unfolding write_number
  only_room to n = rw (same_kind, accepted_kind u z, same_record, accepted_address u z)

-- Bytes in their own place
in_place : (s : List ℕ) (at m : ℕ) → at + m ≤ length s → replaced s at (take m (drop at s)) ≡ s
in_place s at m h =
    let n : length (take m (drop at s)) ≡ m = length-take-le m (drop at s) (omega (arith, length-drop at s)) in
    rw (n, ← take-add at m s) (take-append-drop (at + m) s)

-- What a reading that is accepted says
record ReadAt (s : List ℕ) (at : ℕ) (q : Reading) : Type 0 where
  accepted : record_number (drop at s) ≡ 0
  item : q.item ≡ record_of (drop at s)
  place : q.place ≡ at + size (kind_of (drop at s))
  short : length s ≤ longest

not_long : (s : List ℕ) (at : ℕ) → (read_record s at).number ≡ 0 → length s ≤ longest
not_long s at e =
    by (ltb longest (length s))
    (λ l.
    let n = ap (λ (q : Reading). q.number) (read_long s at (ltb-true longest (length s) l)) in
    absurd (let z : ◌≡◌ {A = ℕ} 9 0 = sym n ∙ e in omega arith))
    (λ l. ltb-false longest (length s) l)

read_at_lem : {s : List ℕ} {at : ℕ} {q : Reading} {s' : List ℕ} → RecordGives s at q s' → q.number ≡ 0 → ReadAt s at q
read_at_lem {s} {at} {q} g e =
    let n : (read_record s at).number ≡ 0 = sym (ap (λ (x : Reading). x.number) g.reading) ∙ e in
    let l = not_long s at n in
    let z : record_number (drop at s) ≡ 0 = sym (short s at l) ∙ n in
    let f : q ≡ found (record_of (drop at s)) (at + size (kind_of (drop at s))) = g.reading ∙ read_accepted s at l z in
    record {
      accepted = z;
      item = ap (λ (x : Reading). x.item) f;
      place = ap (λ (x : Reading). x.place) f;
      short = l;
    }

module _ {s : List ℕ} {at : ℕ} {q : Reading} {to : ℕ} {d : List ℕ} {r : Answer} {d' : List ℕ} (b : Bytes s) (x : ReadAt s at q)
    (g : WriteRecordGives (fields_of q.item) to d r d') where
  rest_bytes : Bytes (drop at s)
  rest_bytes i = rw (get_or-drop at s i 0) (b (at + i))

  taken : q.place - at ≡ size (kind_of (drop at s))
  taken = omega (arith, x.place)

  again_number : r.number ≡ check (has_room to (kind_of (drop at s)) (length d)) 14 0
  again_number =
      gives_number g
      ∙ ap (λ (i : Record). write_number (fields_of i) to (length d)) x.item
      ∙ only_room (drop at s) rest_bytes x.accepted to (length d)

  again_gives : WriteRecordGives (fields_of (record_of (drop at s))) to d r d'
  again_gives = rw x.item at g

  again_value : r.number ≡ 0 → r ≡ answered 0 (to + size (kind_of (drop at s)))
  again_value e =
      (gives_accepted again_gives e).0
      ∙ ap (λ (k : ℕ). answered 0 (to + size k)) (same_kind (drop at s) rest_bytes x.accepted)

  again_buffer : r.number ≡ 0 → d' ≡ replaced d to (take (size (kind_of (drop at s))) (drop at s))
  again_buffer e =
      (gives_accepted again_gives e).1
      ∙ ap (replaced d to) (same_bytes (drop at s) rest_bytes x.accepted)

  again_bytes : r.number ≡ 0 → take (size (kind_of (drop at s))) (drop to d') ≡ take (size (kind_of (drop at s))) (drop at s)
  again_bytes e =
      let u = drop at s in
      let h : FieldsFit (fields_of (record_of u)) = fits_fields (record_of u) (read_fits u rest_bytes) in
      ap (λ (k : ℕ). take (size k) (drop to d')) (sym (same_kind u rest_bytes x.accepted))
      ∙ accepted_bytes h again_gives e
      ∙ same_bytes u rest_bytes x.accepted

  whole_there : at + size (kind_of (drop at s)) ≤ length s
  whole_there = omega (arith, accepted_whole (drop at s) x.accepted, length-drop at s)

  again_in_place : to ≡ at → d ≡ s → (r ≡ answered 0 q.place) × (d' ≡ s)
  again_in_place p o =
      let k = kind_of (drop at s) in
      let l : to + size k ≤ length d = rw (p, o) whole_there in
      let n : r.number ≡ 0
      = again_number
      ∙ rw (le-leb (to + size k) (length d) l, le-leb (to + size k) longest (omega (arith, ap length o, x.short))) in (
        again_value n ∙ ap (answered 0) (omega (arith, x.place)),
        again_buffer n ∙ (λ i. replaced (o i) (p i) (take (size k) (drop at s))) ∙ in_place s at (size k) whole_there,
      )

pub every_reading : EveryReading
every_reading s at q s' to d r d' b g e w =
    let x = read_at_lem g e in
    let m = taken b x w in
    record {
      number = rw m (again_number b x w);
      bytes = λ n. (ap (λ (a : Answer). a.value) (again_value b x w n) ∙ ap (λ (k : ℕ). to + k) (sym m), rw m (again_bytes b x w n));
      in_place = again_in_place b x w;
    }
