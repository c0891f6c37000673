-- A recording is split as the reader reads it, one record after another.
use Prim.Native.Nat.{ℕ, zero, suc, ◌+◌, ◌-◌, ◌*◌, ◌<◌, ◌≤◌}
use mathlib.Core.Path.{◌≡◌, refl, sym, ap, ◌∙◌}
use mathlib.Core.Bool.{Bool, false, cond}
use mathlib.Core.List.{List, [], ◌∷◌}
use native.Mathlib.Omega.{arith}
use native.Mathlib.Nat.{zero-sub, sub-zero, suc-sub-suc}
use native.Mathlib.Numerals.{one-add}
use lib.Dec.{ltb, eqb}
use lib.ListN.{length, take, drop, length-drop, length-take}
use lib.Seq.{drop-drop, get_or-take, length-take-le, take-nil}
use borrow.Author.Tests.{ltb-true, ltb-false, le-ltb, lt-ltb}
use Rattle.words.proofs.Tests.{by}
use Rattle.machine.specs.Address.{register_at}
use Rattle.machine.specs.Refusals.{if_refused}
use Rattle.machine.proofs.Refusals.{if_accepted, if_refused_lem}
use Rattle.recording.specs.declared.Record.{Record}
use Rattle.recording.specs.declared.Record.TheVariants.{SpRun, Break}
use Rattle.recording.specs.Kinds.{Bytes, byte, four, eight, body_size, size, kind_of, decoded, record_of}
use Rattle.recording.specs.Fields.{Fits}
use Rattle.recording.specs.Reader.{Reading, record_number, refused, found, first, longest}
use Rattle.recording.specs.Reader.{read_record}
use Rattle.recording.specs.Split.{Split, stops, precedes, split_from, split, ReadOn, AllFit}
use Rattle.recording.specs.Split.ReadOn.{at_end, declines, reads}
use Rattle.recording.proofs.Accepted.{accepted_whole}
use Rattle.recording.proofs.Named.{decoded_fits}
use Rattle.recording.proofs.Agreeing.{agreeing_kind, agreeing_record, agreeing_number}
use Rattle.recording.proofs.Bytes.{four_fits}
use Rattle.recording.proofs.Numbers.{read_number, declined_reading, not_nine}

-- ---- Where some recordings stop, by computation

-- A BREAK and an SP run, and then: nothing; a write to 0x04040021, and more; a write that is cut short
pub stops_of_bytes : (split (6 ∷ 3 ∷ 0 ∷ 0 ∷ 0 ∷ 2 ∷ []) ≡ record { items = Break ∷ SpRun 2 ∷ []; place = 6; number = 0 })
    × (split (6 ∷ 3 ∷ 0 ∷ 0 ∷ 0 ∷ 2 ∷ 1 ∷ 0x04 ∷ 0x04 ∷ 0x00 ∷ 0x21 ∷ 0 ∷ 0 ∷ 0 ∷ 0 ∷ 6 ∷ [])
    ≡ record { items = Break ∷ SpRun 2 ∷ []; place = 6; number = 10 })
    × (split (6 ∷ 3 ∷ 0 ∷ 0 ∷ 0 ∷ 2 ∷ 1 ∷ 0x04 ∷ 0x04 ∷ []) ≡ record { items = Break ∷ SpRun 2 ∷ []; place = 6; number = 8 })
unfolding split_from record_number record_of decoded register_at
stops_of_bytes = (refl, refl, refl)

-- ---- The records of bytes

-- The records of a recording from a place on
abbrev pub split_at : ℕ → List ℕ → Split
split_at at s = split_from at 0 (drop at s)

-- A body that is passed over is dropped
skipped : (at k : ℕ) (s : List ℕ) → split_from at k s ≡ split_from at 0 (drop k s)
unfolding split_from
skipped at zero s = refl
skipped at (suc k) [] = refl
skipped at (suc k) (b ∷ s) = skipped at k s

pub split_empty : (at : ℕ) (s : List ℕ) → length s ≤ 0 → split_from at 0 s ≡ stops at 0
unfolding split_from
split_empty at [] h = refl
split_empty at (b ∷ s) h = absurd (omega arith)

pub split_accepted : (at : ℕ) (s : List ℕ) → record_number s ≡ 0
    → split_from at 0 s ≡ precedes (record_of s) (split_from (at + size (kind_of s)) 0 (drop (size (kind_of s)) s))
unfolding split_from
split_accepted at [] e = absurd (omega (arith, accepted_whole [] e))
split_accepted at (b ∷ s) e =
    if_accepted (record_number (b ∷ s)) _ _ e
    ∙ rw (one-add (body_size b)) (ap (precedes (record_of (b ∷ s))) (skipped (at + suc (body_size b)) (body_size b) s))

pub split_declined : (at : ℕ) (s : List ℕ) (n : ℕ) → 0 < length s → record_number s ≡ suc n → split_from at 0 s ≡ stops at (suc n)
unfolding split_from
split_declined at [] n h e = absurd (omega arith)
split_declined at (b ∷ s) n h e = if_refused_lem (record_number (b ∷ s)) _ _ (λ z. omega arith) ∙ ap (stops at) e

-- ---- The reader

pub short : (s : List ℕ) (at : ℕ) → length s ≤ longest → (read_record s at).number ≡ record_number (drop at s)
short s at h = read_number s at ∙ ap (λ (b : Bool). cond b 9 (record_number (drop at s))) (le-ltb longest (length s) h)

pub read_accepted : (s : List ℕ) (at : ℕ) → length s ≤ longest → record_number (drop at s) ≡ 0
    → read_record s at ≡ found (record_of (drop at s)) (at + size (kind_of (drop at s)))
unfolding read_record first
read_accepted s at h e = rw (le-ltb longest (length s) h, e)

-- ---- The splitting and the reader

pub split_none : (s : List ℕ) (at : ℕ) → length s ≤ at → split_at at s ≡ stops at 0
split_none s at h = split_empty at (drop at s) (simp length-drop (omega arith))

pub split_next : (s : List ℕ) (at : ℕ) → length s ≤ longest → (read_record s at).number ≡ 0
    → split_at at s ≡ precedes (read_record s at).item (split_at (read_record s at).place s)
split_next s at h e =
    let z : record_number (drop at s) ≡ 0 = sym (short s at h) ∙ e in
    split_accepted at (drop at s) z
    ∙ rw (read_accepted s at h z, drop-drop (size (kind_of (drop at s))) at s)

pub split_stops : (s : List ℕ) (at : ℕ) → length s ≤ longest → at < length s → ((read_record s at).number ≡ 0 → ⊥)
    → split_at at s ≡ stops at (read_record s at).number
split_stops s at h l not-accepted = go (read_record s at).number refl
  where
    go : (n : ℕ) → (read_record s at).number ≡ n → split_at at s ≡ stops at n
    go zero e = absurd (not-accepted e)
    go (suc n) e = split_declined at (drop at s) n (simp length-drop (omega arith)) (sym (short s at h) ∙ e)

pub moves_on : (s : List ℕ) (at : ℕ) → length s ≤ longest → (read_record s at).number ≡ 0
    → (at < (read_record s at).place) × ((read_record s at).place ≤ length s)
moves_on s at h e =
    let z : record_number (drop at s) ≡ 0 = sym (short s at h) ∙ e in
    let p : (read_record s at).place ≡ at + size (kind_of (drop at s)) = ap (λ (r : Reading). r.place) (read_accepted s at h z) in
    let w : size (kind_of (drop at s)) ≤ length s - at = rw (length-drop at s) at (accepted_whole (drop at s) z) in
    rw p (further (body_size (kind_of (drop at s))) at (length s) w)
  where
    further : (n at l : ℕ) → 1 + n ≤ l - at → (at < at + (1 + n)) × (at + (1 + n) ≤ l)
    further n at l w = (omega arith, omega arith)

-- ---- The reader, called at each place that it gives

-- What is to be proved of the places from `at` on
abbrev OnFrom : List ℕ → ℕ → Type 0
OnFrom s at = ReadOn s at (split_at at s).items (split_at at s).place (split_at at s).number

module _ (s : List ℕ) (at : ℕ) where
  at_end_lem : at ≡ length s → OnFrom s at
  at_end_lem e = rw (e, split_none s (length s) (omega arith)) at_end

  at_declined : (n : ℕ) → length s ≤ longest → at < length s → (read_record s at).number ≡ suc n → OnFrom s at
  at_declined n h l e =
      let q : split_at at s ≡ stops at (suc n) = split_stops s at h l (λ z. omega arith) ∙ ap (stops at) e in
      rw q (declines l (declined_reading s at n e))

  found_there : (read_record s at).number ≡ 0 → read_record s at ≡ found (read_record s at).item (read_record s at).place
  found_there e = λ i. record { number = e i; item = (read_record s at).item; place = (read_record s at).place }

  at_record : length s ≤ longest → at < length s → (read_record s at).number ≡ 0 → OnFrom s (read_record s at).place → OnFrom s at
  at_record h l e r = rw (split_next s at h e) (reads l (found_there e) r)

  -- By the three cases
  at_place : length s ≤ longest → at ≤ length s → ((read_record s at).number ≡ 0 → OnFrom s (read_record s at).place) → OnFrom s at
  at_place h b more =
      by (ltb at (length s)) (λ l. go (read_record s at).number refl (ltb-true at (length s) l))
      (λ l. at_end_lem (omega (arith, ltb-false at (length s) l)))
    where
      go : (n : ℕ) → (read_record s at).number ≡ n → at < length s → OnFrom s at
      go zero e l = at_record h l e (more e)
      go (suc n) e l = at_declined n h l e

-- With at least as many steps as there are bytes left
on_from : (fuel : ℕ) (s : List ℕ) (at : ℕ) → length s ≤ longest → at ≤ length s → length s ≤ at + fuel → OnFrom s at
on_from zero s at h b f = at_end_lem s at (omega arith)
on_from (suc fuel) s at h b f =
    at_place s at h b
    (λ e.
    let m = moves_on s at h e in
    on_from fuel s (read_record s at).place h m.1 (omega (arith, m.0)))

-- Every short recording is read to its end or to a record that is declined, and its records, the place and the number are the split's
pub read_on : (s : List ℕ) → length s ≤ longest → ReadOn s 0 (split s).items (split s).place (split s).number
read_on s h = on_from (length s) s 0 h (omega arith) (omega arith)

-- ---- What was read is determined

same_parts : {s : List ℕ} {at at' last last' n n' : ℕ} {rs rs' : List Record} → at ≡ at' → ReadOn s at rs last n → ReadOn s at' rs' last' n'
    → (rs ≡ rs') × (last ≡ last') × (n ≡ n')
same_parts e at_end at_end = (refl, refl, refl)
same_parts e at_end (declines l q) = absurd (omega arith)
same_parts e at_end (reads l q x) = absurd (omega arith)
same_parts e (declines k p) at_end = absurd (omega arith)
same_parts {s} e (declines k p) (declines l q) =
    let both = sym p ∙ ap (read_record s) e ∙ q in (refl, e, ap (λ (r : Reading). r.number) both)
same_parts {s} e (declines k p) (reads l q x) =
    let both = ap (λ (r : Reading). r.number) (sym p ∙ ap (read_record s) e ∙ q) in absurd (omega arith)
same_parts e (reads k p y) at_end = absurd (omega arith)
same_parts {s} e (reads k p y) (declines l q) =
    let both = ap (λ (r : Reading). r.number) (sym p ∙ ap (read_record s) e ∙ q) in absurd (omega arith)
same_parts {s} e (reads {r = r} k p y) (reads {r = r'} l q x) =
    let both = sym p ∙ ap (read_record s) e ∙ q in
    let rest = same_parts (ap (λ (f : Reading). f.place) both) y x in
    let item : r ≡ r' = ap (λ (f : Reading). f.item) both in
    (λ i. item i ∷ rest.0 i, rest.1, rest.2)

pub reader_alone : (s : List ℕ) (rs rs' : List Record) (last last' n n' : ℕ) → ReadOn s 0 rs last n → ReadOn s 0 rs' last' n'
    → (rs ≡ rs') × (last ≡ last') × (n ≡ n')
reader_alone s rs rs' last last' n n' x y = same_parts refl x y

-- Where it ends with a number, the record at that place is declined with it
declined_there : {s : List ℕ} {at last m n : ℕ} {rs : List Record} → ReadOn s at rs last m → m ≡ suc n
    → (last < length s) × (read_record s last ≡ refused (suc n))
declined_there at_end e = absurd (omega arith)
declined_there (declines l q) e = (l, q ∙ ap refused e)
declined_there (reads l q x) e = declined_there x e

pub declined_at : (s : List ℕ) (rs : List Record) (last m n : ℕ) → ReadOn s 0 rs last m → m ≡ suc n
    → (last < length s) × (read_record s last ≡ refused (suc n))
declined_at s rs last m n x e = declined_there x e

-- ---- The accepted records alone

-- The first m bytes of a list that begins with an accepted record, which is in them
module _ (m : ℕ) (u : List ℕ) (e : record_number u ≡ 0) (b : size (kind_of u) ≤ m) where
  cut_there : size (kind_of u) ≤ length (take m u)
  cut_there = omega (arith, accepted_whole u e, length-take m u)

  cut_same : (i : ℕ) → i < size (kind_of u) → byte (take m u) i ≡ byte u i
  cut_same i h = get_or-take m u i 0 (omega arith)

  cut_kind : kind_of (take m u) ≡ kind_of u
  cut_kind = agreeing_kind u (take m u) e cut_there cut_same

  cut_record : record_of (take m u) ≡ record_of u
  cut_record = agreeing_record u (take m u) e cut_there cut_same

  cut_number : record_number (take m u) ≡ 0
  cut_number = agreeing_number u (take m u) e cut_there cut_same

pub drop_take : (n m : ℕ) (l : List ℕ) → drop n (take m l) ≡ take (m - n) (drop n l)
drop_take zero m l = rw (sub-zero m)
drop_take (suc n) zero l = rw (zero-sub (suc n))
drop_take (suc n) (suc m) [] = sym (take-nil (suc m - suc n))
drop_take (suc n) (suc m) (x ∷ l) = rw (suc-sub-suc m n) (drop_take n m l)

-- A record that ends where a recording is cut, or before, is read as before
cut_read : (s : List ℕ) (at last : ℕ) → length s ≤ longest → (read_record s at).number ≡ 0 → (read_record s at).place ≤ last → last ≤ length s
    → read_record (take last s) at ≡ read_record s at
cut_read s at last h e p l =
    let z : record_number (drop at s) ≡ 0 = sym (short s at h) ∙ e in
    let r = read_accepted s at h z in
    let q : (read_record s at).place ≡ at + size (kind_of (drop at s)) = ap (λ (f : Reading). f.place) r in
    let b : size (kind_of (drop at s)) ≤ last - at = fits (body_size (kind_of (drop at s))) (omega arith) in
    let d = drop_take at last s in
    let n : length (take last s) ≡ last = length-take-le last s l in
    let z' : record_number (drop at (take last s)) ≡ 0 = rw d (cut_number (last - at) (drop at s) z b) in
    read_accepted (take last s) at (omega arith) z'
    ∙ rw (d, cut_record (last - at) (drop at s) z b, cut_kind (last - at) (drop at s) z b, r)
  where
    fits : (n : ℕ) → at + (1 + n) ≤ last → 1 + n ≤ last - at
    fits n k = omega arith

-- Where the recording is cut at the place that the reader came to
record Alone (s : List ℕ) (at : ℕ) (rs : List Record) (last : ℕ) : Type 0 where
  items : (split_at at (take last s)).items ≡ rs
  number : (split_at at (take last s)).number ≡ 0
  onward : at ≤ last
  within : last ≤ length s

alone_none : (s : List ℕ) (at : ℕ) → at ≤ length s → Alone s at [] at
alone_none s at h =
    let q = split_none (take at s) at (omega (arith, length-take at s)) in
    record {
      items = ap (λ (x : Split). x.items) q;
      number = ap (λ (x : Split). x.number) q;
      onward = omega arith;
      within = h;
    }

alone_more : (s : List ℕ) (at p last : ℕ) (r : Record) (rs : List Record) → length s ≤ longest → read_record s at ≡ found r p → Alone s p rs last
    → Alone s at (r ∷ rs) last
alone_more s at p last r rs h e x =
    let z : (read_record s at).number ≡ 0 = ap (λ (f : Reading). f.number) e in
    let i : (read_record s at).item ≡ r = ap (λ (f : Reading). f.item) e in
    let w : (read_record s at).place ≡ p = ap (λ (f : Reading). f.place) e in
    let m = moves_on s at h z in
    let o = x.onward in
    let v = x.within in
    let c : read_record (take last s) at ≡ found r p = cut_read s at last h z (omega arith) v ∙ e in
    let n : length (take last s) ≡ last = length-take-le last s v in
    let q : split_at at (take last s) ≡ precedes r (split_at p (take last s)) =
    split_next (take last s) at (omega arith) (ap (λ (f : Reading). f.number) c)
    ∙ ap (λ (f : Reading). precedes f.item (split_at f.place (take last s))) c in
    record {
      items = ap (λ (y : Split). y.items) q ∙ ap (λ (l : List Record). r ∷ l) x.items;
      number = ap (λ (y : Split). y.number) q ∙ x.number;
      onward = omega (arith, m.0);
      within = v;
    }

alone : {s : List ℕ} {at last n : ℕ} {rs : List Record} → length s ≤ longest → ReadOn s at rs last n → Alone s at rs last
alone {s} h at_end = alone_none s (length s) (omega arith)
alone {s} h (declines {at = at} l e) = alone_none s at (omega arith)
alone {s} h (reads {at = at} {p = p} {last = last} {r = r} {rs = rs} l e x) = alone_more s at p last r rs h e (alone h x)

-- Replayed alone, the accepted records are all accepted
pub accepted_alone : (s : List ℕ) (rs : List Record) (last n : ℕ) → length s ≤ longest → ReadOn s 0 rs last n
    → ((split (take last s)).items ≡ rs) × ((split (take last s)).number ≡ 0) × (last ≤ length s)
accepted_alone s rs last n h x = let a = alone h x in (a.items, a.number, a.within)

-- ---- The numbers of the records

both_fit : (a b : ℕ) → a < 0x100000000 → b < 0x100000000 → a * 0x100000000 + b < 0x10000000000000000
both_fit a b ha hb = omega arith

pub read_fits : (s : List ℕ) → Bytes s → Fits (record_of s)
unfolding record_of
read_fits s h =
    decoded_fits (kind_of s) (four s 1) (four s 5) (eight s 5) (four_fits s 1 h) (four_fits s 5 h)
    (both_fit (four s 5) (four s 9) (four_fits s 5 h) (four_fits s 9 h))

by_number : (at n : ℕ) (x : Split) → AllFit x.items → AllFit (if_refused n (stops at n) x).items
by_number at zero x h = h
by_number at (suc n) x h = tt

from_fit : (at k : ℕ) (s : List ℕ) → Bytes s → AllFit (split_from at k s).items
unfolding split_from
from_fit at k [] h = tt
from_fit at zero (b ∷ s) h =
    by_number at (record_number (b ∷ s)) (precedes (record_of (b ∷ s)) (split_from (at + size b) (body_size b) s))
    (read_fits (b ∷ s) h, from_fit (at + size b) (body_size b) s (λ j. h (suc j)))
from_fit at (suc k) (b ∷ s) h = from_fit at k s (λ j. h (suc j))

-- Values and budgets are below 2 ^ 32, words below 2 ^ 64
pub items_fit : (s : List ℕ) → Bytes s → AllFit (split s).items
items_fit s h = from_fit 0 0 s h

-- A recording that is too long is declined at its start
pub too_long : (s : List ℕ) → longest < length s → ReadOn s 0 [] 0 9
unfolding read_record
too_long s h = declines {at = 0} {n = 8} (omega arith) (rw (lt-ltb longest (length s) h))

-- ---- The number that ends the records

either_not_nine : (at n : ℕ) (x : Split) → eqb n 9 ≡ false → eqb x.number 9 ≡ false → eqb (if_refused n (stops at n) x).number 9 ≡ false
either_not_nine at zero x h l = l
either_not_nine at (suc n) x h l = h

from_not_nine : (at k : ℕ) (s : List ℕ) → eqb (split_from at k s).number 9 ≡ false
unfolding split_from
from_not_nine at k [] = refl
from_not_nine at zero (b ∷ s) =
    either_not_nine at (record_number (b ∷ s)) (precedes (record_of (b ∷ s)) (split_from (at + size b) (body_size b) s)) (not_nine (b ∷ s))
    (from_not_nine (at + size b) (body_size b) s)
from_not_nine at (suc k) (b ∷ s) = from_not_nine at k s

pub ends_not_nine : (s : List ℕ) → eqb (split s).number 9 ≡ false
ends_not_nine s = from_not_nine 0 0 s
