-- Records appended one after another.
use Prim.Native.Nat.{ℕ, zero, suc, ◌+◌, ◌≤◌}
use mathlib.Core.Path.{◌≡◌, refl, sym, ap, ◌∙◌}
use mathlib.Core.List.{List, [], ◌∷◌, ◌++◌, append-nil}
use native.Mathlib.Omega.{arith}
use lib.ListN.{length, take}
use lib.Seq.{append_snoc, drop-length, length-take-le}
use Rattle.machine.specs.declared.Answer.{Answer}
use Rattle.machine.specs.Refusals.{if_refused}
use Rattle.machine.proofs.Refusals.{if_accepted}
use Rattle.recording.specs.declared.Record.{Record}
use Rattle.recording.specs.declared.Fields.{Fields}
use Rattle.recording.specs.Kinds.{body_size, size, kind_of, record_of}
use Rattle.recording.specs.Fields.{record_by, FieldsFit}
use Rattle.recording.specs.Reader.{record_number}
use Rattle.recording.specs.Writer.{record_bytes, WriteRecordGives}
use Rattle.recording.specs.Split.{Split, stops, precedes, split_from, split}
use Rattle.recording.specs.Written.{Appends, all_of, Appended, EveryAppend}
use Rattle.recording.specs.Written.Appends.{none, adds, declines}
use Rattle.recording.proofs.Accepted.{accepted_whole}
use Rattle.recording.proofs.Agreeing.{more_record, more_number}
use Rattle.recording.proofs.Splitting.{split_accepted}
use Rattle.recording.proofs.Writing.{own_length, own_first, own_record, gives_declined, accepted_known, accepted_value, accepted_upto, accepted_number, accepted_within, accepted_length}

-- ---- Records before others

abbrev joined_split : Split → Split → Split
joined_split x y = record { items = x.items ++ y.items; place = y.place; number = y.number }

accepted_first : (at n : ℕ) (x : Split) → (if_refused n (stops at n) x).number ≡ 0 → n ≡ 0
accepted_first at zero x e = refl
accepted_first at (suc n) x e = let z : suc n ≡ 0 = e in absurd (omega arith)

-- One record, and the rest by induction
module _ (at b : ℕ) (s t : List ℕ) where
  first_there : (split_from at zero (b ∷ s)).number ≡ 0 → record_number (b ∷ s) ≡ 0
  unfolding split_from
  first_there e = accepted_first at (record_number (b ∷ s)) (precedes (record_of (b ∷ s)) (split_from (at + size b) (body_size b) s)) e

  first_split : record_number (b ∷ s) ≡ 0 → split_from at zero (b ∷ s) ≡ precedes (record_of (b ∷ s)) (split_from (at + size b) (body_size b) s)
  unfolding split_from
  first_split z = if_accepted (record_number (b ∷ s)) _ _ z

  first_more : record_number (b ∷ s) ≡ 0 → split_from at zero (b ∷ s ++ t) ≡ precedes (record_of (b ∷ s)) (split_from (at + size b) (body_size b) (s ++ t))
  unfolding split_from
  first_more z =
      if_accepted (record_number (b ∷ s ++ t)) _ _ (more_number (b ∷ s) t z)
      ∙ ap (λ (r : Record). precedes r (split_from (at + size b) (body_size b) (s ++ t))) (more_record (b ∷ s) t z)

  joined_first : (x : Split) → (split_from at zero (b ∷ s)).number ≡ 0
      → (body_size b ≤ length s → (split_from (at + size b) (body_size b) s).number ≡ 0
      → split_from (at + size b) (body_size b) (s ++ t) ≡ joined_split (split_from (at + size b) (body_size b) s) x)
      → split_from at zero (b ∷ s ++ t) ≡ joined_split (split_from at zero (b ∷ s)) x
  joined_first x e more =
      let z = first_there e in
      let f = first_split z in
      let w : body_size b ≤ length s = omega (arith, accepted_whole (b ∷ s) z) in
      let n : (split_from (at + size b) (body_size b) s).number ≡ 0 = sym (ap (λ (y : Split). y.number) f) ∙ e in
      first_more z ∙ ap (precedes (record_of (b ∷ s))) (more w n) ∙ ap (λ (y : Split). joined_split y x) (sym f)

-- Bytes that are read to their end, and more at the place after them
joined_from : (at k : ℕ) (s t : List ℕ) (last : ℕ) → last + k ≡ at + length s → k ≤ length s → (split_from at k s).number ≡ 0
    → split_from at k (s ++ t) ≡ joined_split (split_from at k s) (split_from last 0 t)
unfolding split_from
joined_from at zero [] t last l h e = let n : at ≡ last = omega arith in ap (λ (i : ℕ). split_from i 0 t) n
joined_from at (suc k) [] t last l h e = absurd (omega arith)
joined_from at zero (b ∷ s) t last l h e =
    joined_first at b s t (split_from last 0 t) e (joined_from (at + size b) (body_size b) s t last (omega arith))
joined_from at (suc k) (b ∷ s) t last l h e = joined_from at k s t last (omega arith) (omega arith) e

-- Bytes that are read to their end have the place after them
ends_from : (at k : ℕ) (s : List ℕ) → k ≤ length s → (split_from at k s).number ≡ 0 → (split_from at k s).place + k ≡ at + length s
unfolding split_from
ends_from at zero [] h e = refl
ends_from at (suc k) [] h e = absurd (omega arith)
ends_from at zero (b ∷ s) h e =
    let z = first_there at b s [] e in
    let f = first_split at b s [] z in
    let n = sym (ap (λ (y : Split). y.number) f) ∙ e in
    let p = ap (λ (y : Split). y.place) f in
    omega (arith, p, ends_from (at + size b) (body_size b) s (omega (arith, accepted_whole (b ∷ s) z)) n)
ends_from at (suc k) (b ∷ s) h e = omega (arith, ends_from at k s (omega arith) e)

whole_split : (s : List ℕ) (qs : List Record) → (split s).items ≡ qs → (split s).number ≡ 0 → split s ≡ all_of (length s) qs
whole_split s qs p e =
    let n : (split s).place ≡ length s = omega (arith, ends_from 0 0 s (omega arith) e) in
    λ i. record { items = p i; place = n i; number = e i }

split_joined : (s t : List ℕ) (last n : ℕ) (qs rs : List Record) → length s ≡ last → split s ≡ all_of last qs → split_from last 0 t ≡ all_of n rs
    → split (s ++ t) ≡ all_of n (qs ++ rs)
split_joined s t last n qs rs l p q =
    joined_from 0 0 s t last (omega arith) (omega arith) (ap (λ (x : Split). x.number) p) ∙ (λ i. joined_split (p i) (q i))

-- One record alone
split_one : (at : ℕ) (s : List ℕ) → record_number s ≡ 0 → length s ≤ size (kind_of s)
    → split_from at 0 s ≡ all_of (at + size (kind_of s)) (record_of s ∷ [])
unfolding split_from
split_one at s z h =
    let n : length s ≡ size (kind_of s) = omega (arith, accepted_whole s z) in
    split_accepted at s z ∙ rw (← n, drop-length s)

-- ---- Records appended

-- One more
append_one : {d d₁ : List ℕ} {at : ℕ} {f : Fields} {r : Answer} (qs : List Record) → FieldsFit f → WriteRecordGives f at d r d₁ → r.number ≡ 0
    → at ≤ length d → split (take at d) ≡ all_of at qs → split (take r.value d₁) ≡ all_of r.value (qs ++ (record_by f ∷ []))
append_one {d} {d₁} {at} {f} {r} qs h g e l p =
    let known = accepted_known h g e in
    let place : at + size (kind_of (record_bytes (record_by f))) ≡ r.value
    = ap (λ (k : ℕ). at + size k) (own_first f known) ∙ sym (accepted_value h g e) in
    let one : split_from at 0 (record_bytes (record_by f)) ≡ all_of r.value (record_by f ∷ [])
    = split_one at (record_bytes (record_by f)) (accepted_number h g e) (omega (arith, own_length f known, ap size (own_first f known)))
    ∙ (λ i. all_of (place i) (own_record f h i ∷ [])) in
    ap split (accepted_upto h g e)
    ∙ split_joined (take at d) (record_bytes (record_by f)) at r.value qs (record_by f ∷ []) (length-take-le at d l) p one

appended_none : (d : List ℕ) (at : ℕ) (qs : List Record) → at ≤ length d → at ≤ 16383 → split (take at d) ≡ all_of at qs → Appended qs [] d d at
appended_none d at qs l b p = record { records = p ∙ ap (all_of at) (sym (append-nil qs)); length_kept = refl; within = (l, b) }

appended_more : {d d₁ d' : List ℕ} {at last : ℕ} {f : Fields} {r : Answer} {qs rs : List Record} → FieldsFit f → WriteRecordGives f at d r d₁
    → r.number ≡ 0 → Appended (qs ++ (record_by f ∷ [])) rs d₁ d' last → Appended qs (record_by f ∷ rs) d d' last
appended_more {last = last} {f = f} {qs = qs} {rs = rs} h g e a = record {
  records = a.records ∙ ap (all_of last) (append_snoc qs (record_by f) rs);
  length_kept = a.length_kept ∙ accepted_length h g e;
  within = a.within;
}

appended_same : {d d₁ d' : List ℕ} {last : ℕ} {qs rs : List Record} → d₁ ≡ d → Appended qs rs d₁ d' last → Appended qs rs d d' last
appended_same e a = record { records = a.records; length_kept = a.length_kept ∙ ap length e; within = a.within }

append_all : (d : List ℕ) (at : ℕ) (qs rs : List Record) (d' : List ℕ) (last : ℕ)
    → at ≤ length d → at ≤ 16383 → split (take at d) ≡ all_of at qs → Appends d at rs d' last → Appended qs rs d d' last
append_all d at qs items d' last l b p none = appended_none d at qs l b p
append_all d at qs items d' last l b p (adds {d₁ = d₁} {f = f} {r = r} {rs = rs} h g e more) =
    let w = accepted_within h g e in
    appended_more h g e
    (append_all d₁ r.value (qs ++ (record_by f ∷ [])) rs d' last (omega (arith, w.0, accepted_length h g e)) w.1 (append_one qs h g e l p) more)
append_all d at qs rs d' last l b p (declines {d₁ = d₁} {n = n} g e more) =
    let same = (gives_declined g n e).1 in
    appended_same same
    (append_all d₁ at qs rs d' last (rw same l) b (ap (λ (k : List ℕ). split (take at k)) same ∙ p) more)

pub every_append : EveryAppend
every_append d at qs rs d' last l b p e x =
    append_all d at qs rs d' last l b
    (whole_split (take at d) qs p e ∙ ap (λ (n : ℕ). all_of n qs) (length-take-le at d l)) x
