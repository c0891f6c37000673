-- The steps that fill a part make the bytes of a record.
use Prim.Native.Nat.{ℕ, ◌+◌, ◌-◌, ◌/◌, ◌%◌, ◌<◌, ◌≤◌}
use mathlib.Core.Path.{◌≡◌, refl, sym, ap, ◌∙◌}
use mathlib.Core.Bool.{true}
use mathlib.Core.List.{List, [], ◌∷◌, ◌++◌, append-nil, append_assoc}
use native.Mathlib.Omega.{arith}
use native.Mathlib.Nat.{zero-add}
use lib.ListN.{length, set, take, drop, length-drop}
use lib.Seq.{sets, sets-eq, length-sets, length-take-le, drop-length, drop-drop}
use borrow.Author.Tests.{le-leb, lt-leb}
use Rattle.std.specs.Int.{w32, to_be_bytes}
use borrow.Rule.Slice.PartMut.{put_mid}
use Rattle.words.proofs.Bytes.{sets_append}
use Rattle.machine.specs.declared.Answer.{Answer}
use Rattle.machine.proofs.Refusals.{if_accepted, if_refused_lem}
use Rattle.recording.specs.declared.Fields.{Fields}
use Rattle.recording.specs.Kinds.{is_kind, size, decoded}
use Rattle.recording.specs.Fields.{of_kind, low, first_field, record_by}
use Rattle.recording.specs.Reader.{longest}
use Rattle.recording.specs.Writer.{four_bytes, record_bytes, write_number, answered}
use Rattle.recording.specs.Writer.{write_answer, write_buffer, WriteRecordGives}
use Rattle.recording.proofs.Named.{each_kind}
use Rattle.recording.proofs.Bytes.{word_halves}
use Rattle.recording.proofs.Writing.{own_length, write_passed}
use Rattle.writer.specs.Parts.{second_field, four_put}

-- ---- Four bytes

pub four_none : (d : List ℕ) (at v : ℕ) → length d < at + 4 → four_put d at v ≡ d
four_none d at v h = rw (lt-leb (at + 4) (length d) h)

-- The library's four bytes of a number are these
be_bytes : (v : ℕ) → to_be_bytes w32 v ≡ four_bytes v
be_bytes v = refl

-- Those that code copies there
pub four_copied : (d : List ℕ) (at v : ℕ) {bytes : List ℕ}
    → bytes ≡ to_be_bytes w32 v → at + 4 ≤ length d
    → put_mid at (at + 4 - at) d bytes ≡ four_put d at v
four_copied d at v e h =
    let k : at + 4 - at ≡ 4 = omega arith in
    let room = le-leb (at + 4) (length d) h in
    rw (e ∙ be_bytes v, k, room, sets-eq (four_bytes v) d at h, drop-drop 4 at d)
    (sym (append_assoc (take at d) (four_bytes v) (drop (at + 4) d)))

-- ---- A part

-- A part that is filled to its end has no byte left of those before
whole : (d t : List ℕ) → length d ≡ length t → sets d 0 t ≡ t
whole d t h = sets-eq t d 0 (omega arith) ∙ rw (zero-add, ← h, drop-length d) (append-nil t)

-- Four bytes after some others, where there is room for them, and where there is not
put_room : (d s : List ℕ) (v : ℕ) → length s + 4 ≤ length d → four_put (sets d 0 s) (length s) v ≡ sets d 0 (s ++ four_bytes v)
put_room d s v h =
    rw (le-leb (length s + 4) (length (sets d 0 s)) (omega (arith, length-sets d 0 s)))
    (ap (λ (n : ℕ). sets (sets d 0 s) n (four_bytes v)) (sym (zero-add (length s))) ∙ sym (sets_append d 0 s (four_bytes v)))

put_none : (d s : List ℕ) (at v : ℕ) → length d < at + 4 → four_put (sets d 0 s) at v ≡ sets d 0 s
put_none d s at v h = four_none (sets d 0 s) at v (omega (arith, length-sets d 0 s))

-- What the code leaves of a part d: the kind, and three numbers
abbrev pub puts : List ℕ → ℕ → ℕ → ℕ → ℕ → List ℕ
puts d k a v l = four_put (four_put (four_put (set d 0 k) 1 a) 5 v) 9 l

module _ (d : List ℕ) (k a v l : ℕ) where
  puts_1 : length d ≡ 1 → puts d k a v l ≡ k ∷ []
  puts_1 h =
      let s = k ∷ [] in
      rw (put_none d s 1 a (omega arith), put_none d s 5 v (omega arith), put_none d s 9 l (omega arith)) (whole d s h)

  puts_5 : length d ≡ 5 → puts d k a v l ≡ k ∷ four_bytes a
  puts_5 h =
      let s = k ∷ four_bytes a in
      rw (put_room d (k ∷ []) a (omega arith), put_none d s 5 v (omega arith), put_none d s 9 l (omega arith)) (whole d s h)

  puts_9 : length d ≡ 9 → puts d k a v l ≡ k ∷ four_bytes a ++ four_bytes v
  puts_9 h =
      let s = k ∷ four_bytes a ++ four_bytes v in
      rw (put_room d (k ∷ []) a (omega arith), put_room d (k ∷ four_bytes a) v (omega arith), put_none d s 9 l (omega arith)) (whole d s h)

  puts_13 : length d ≡ 13 → puts d k a v l ≡ k ∷ four_bytes a ++ (four_bytes v ++ four_bytes l)
  puts_13 h =
      let s = k ∷ four_bytes a ++ four_bytes v in
      rw (put_room d (k ∷ []) a (omega arith), put_room d (k ∷ four_bytes a) v (omega arith), put_room d s l (omega arith))
      (whole d (s ++ four_bytes l) h)

-- A part that is as long as the record
by_kind : (k a w : ℕ) (d : List ℕ) → is_kind k ≡ true → length d ≡ size k
    → puts d k (first_field (of_kind k a w)) (second_field (of_kind k a w)) (w % 0x100000000) ≡ record_bytes (record_by (of_kind k a w))
unfolding record_by decoded
by_kind k a w d =
    let l = w % 0x100000000 in
    each_kind
    (λ (n : ℕ).
    length d ≡ size n → puts d n (first_field (of_kind n a w)) (second_field (of_kind n a w)) l ≡ record_bytes (record_by (of_kind n a w)))
    (puts_9 d 1 a l l)
    (puts_9 d 2 a l l)
    (puts_5 d 3 l l l)
    (puts_5 d 4 l l l)
    (puts_5 d 5 l l l)
    (puts_1 d 6 a l l)
    (puts_1 d 7 a l l)
    (λ h. rw word_halves (puts_13 d 8 a (w / 0x100000000) l h))
    (λ h. rw word_halves (puts_13 d 9 a (w / 0x100000000) l h))
    (puts_9 d 10 (w / 0x100000000) l l)
    k

-- Out of what the steps give
pub filled : (f : Fields) (d : List ℕ) {d₁ d₂ d₃ d₄ : List ℕ} {a v l : ℕ} → d₁ ≡ set d 0 f.kind
    → a ≡ first_field f → d₂ ≡ four_put d₁ 1 a
    → v ≡ second_field f → d₃ ≡ four_put d₂ 5 v
    → l ≡ low f → d₄ ≡ four_put d₃ 9 l
    → is_kind f.kind ≡ true → length d ≡ size f.kind → d₄ ≡ record_bytes (record_by f)
filled f d e₁ ea e₂ ev e₃ el e₄ e h =
    e₄
    ∙ (λ i. four_put (e₃ i) 9 (el i))
    ∙ (λ i. four_put (four_put (e₂ i) 5 (ev i)) 9 (low f))
    ∙ (λ i. four_put (four_put (four_put (e₁ i) 1 (ea i)) 5 (second_field f)) 9 (low f))
    ∙ by_kind f.kind f.address f.value d e h

-- ---- The writer

-- Where no check failed, there is room
pub room_for_lem : (f : Fields) (at : ℕ) (d : List ℕ) {end : ℕ}
    → write_number f at (length d) ≡ 0 → end ≡ at + size f.kind
    → (at ≤ end) × (end ≤ length d) × (end ≤ longest)
room_for_lem f at d z h =
    let p = write_passed f at (length d) z in
    (omega arith, omega (arith, p.in_buffer), omega (arith, p.in_recording))

-- The part comes back in its place in the buffer
pub written : (f : Fields) (at : ℕ) (d ys : List ℕ) (end : ℕ) (r : Answer)
    → write_number f at (length d) ≡ 0
    → end ≡ at + size f.kind
    → (is_kind f.kind ≡ true → length (take (end - at) (drop at d)) ≡ size f.kind
    → ys ≡ record_bytes (record_by f))
    → r ≡ answered 0 end
    → WriteRecordGives f at d r (put_mid at (end - at) d ys)
unfolding write_answer write_buffer
written f at d ys end r z e fill a =
    let p = write_passed f at (length d) z in
    let k : end - at ≡ size f.kind = omega arith in
    let part : length (take (end - at) (drop at d)) ≡ size f.kind
    = rw k
    (length-take-le (size f.kind) (drop at d) (omega (arith, p.in_buffer, length-drop at d))) in
    let n : size f.kind ≡ length (record_bytes (record_by f)) = sym (own_length f p.known) in
    record {
      answer = a ∙ ap (answered 0) e ∙ sym (if_accepted (write_number f at (length d)) _ _ z);
      bytes =
          rw (k, drop-drop (size f.kind) at d, fill p.known part, n)
          (sym (append_assoc (take at d) (record_bytes (record_by f)) _))
          ∙ sym (if_accepted (write_number f at (length d)) _ _ z);
    }

pub declined : (f : Fields) (at : ℕ) (d : List ℕ) (n : ℕ) (r : Answer) → n ≡ write_number f at (length d) → (n ≡ 0 → ⊥) → r ≡ answered n 0
    → WriteRecordGives f at d r d
unfolding write_answer write_buffer
declined f at d n r e z a =
    record {
      answer = a ∙ ap (λ (m : ℕ). answered m 0) e ∙ sym (if_refused_lem (write_number f at (length d)) _ _ (λ q. z (e ∙ q)));
      bytes = sym (if_refused_lem (write_number f at (length d)) _ _ (λ q. z (e ∙ q)));
    }
