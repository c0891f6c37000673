-- Records by their kind and fields: the record has them, and nothing else plays a part.
use Prim.Native.Nat.{ℕ, zero, suc, ◌+◌, ◌*◌, ◌/◌, ◌%◌, ◌<◌, ◌≤◌}
use mathlib.Core.Path.{◌≡◌, refl, sym, ap, ◌∙◌}
use mathlib.Core.Bool.{Bool, true, false, cond}
use native.Mathlib.Omega.{arith}
use native.Mathlib.Nat.{mod-eq_of_lt, mod-mod, div-add-mod'}
use lib.Dec.{leb}
use borrow.Author.Tests.{leb-true}
use Rattle.words.proofs.Tests.{contradiction, and_true}
use Rattle.recording.specs.declared.Record.{Record}
use Rattle.recording.specs.declared.Record.TheVariants.{None, Write, Read, SpRun, DpRun, Tick, Break, Acknowledge, Store, Check, Run}
use Rattle.recording.specs.declared.Fields.{Fields}
use Rattle.recording.specs.Kinds.{is_kind, runs_or_ticks, runs_both, decoded}
use Rattle.recording.specs.Fields.{of_kind, fields_of, low, high, first_field, record_by, RecordsBy, KindsNamed, has_address, has_value, has_word, SameFields, FieldsKept, Fits, FieldsFit}

-- ---- The ten kinds

-- A test that is false
pub never : {P : Type 0} → ◌≡◌ {A = Bool} false true → P
never e = contradiction e refl

at_most_ten : (k : ℕ) → is_kind k ≡ true → k ≤ 10
at_most_ten k e = leb-true k 10 (and_true (leb 1 k) (leb k 10) e).1

-- What holds of each of them holds of every known kind
pub each_kind : (P : ℕ → Type 0) → P 1 → P 2 → P 3 → P 4 → P 5 → P 6 → P 7 → P 8 → P 9 → P 10 → (k : ℕ) → is_kind k ≡ true → P k
each_kind P p₁ p₂ p₃ p₄ p₅ p₆ p₇ p₈ p₉ p₁₀ zero e = never e
each_kind P p₁ p₂ p₃ p₄ p₅ p₆ p₇ p₈ p₉ p₁₀ (suc zero) e = p₁
each_kind P p₁ p₂ p₃ p₄ p₅ p₆ p₇ p₈ p₉ p₁₀ (suc (suc zero)) e = p₂
each_kind P p₁ p₂ p₃ p₄ p₅ p₆ p₇ p₈ p₉ p₁₀ (suc (suc (suc zero))) e = p₃
each_kind P p₁ p₂ p₃ p₄ p₅ p₆ p₇ p₈ p₉ p₁₀ (suc (suc (suc (suc zero)))) e = p₄
each_kind P p₁ p₂ p₃ p₄ p₅ p₆ p₇ p₈ p₉ p₁₀ (suc (suc (suc (suc (suc zero))))) e = p₅
each_kind P p₁ p₂ p₃ p₄ p₅ p₆ p₇ p₈ p₉ p₁₀ (suc (suc (suc (suc (suc (suc zero)))))) e = p₆
each_kind P p₁ p₂ p₃ p₄ p₅ p₆ p₇ p₈ p₉ p₁₀ (suc (suc (suc (suc (suc (suc (suc zero))))))) e = p₇
each_kind P p₁ p₂ p₃ p₄ p₅ p₆ p₇ p₈ p₉ p₁₀ (suc (suc (suc (suc (suc (suc (suc (suc zero)))))))) e = p₈
each_kind P p₁ p₂ p₃ p₄ p₅ p₆ p₇ p₈ p₉ p₁₀ (suc (suc (suc (suc (suc (suc (suc (suc (suc zero))))))))) e = p₉
each_kind P p₁ p₂ p₃ p₄ p₅ p₆ p₇ p₈ p₉ p₁₀ (suc (suc (suc (suc (suc (suc (suc (suc (suc (suc zero)))))))))) e = p₁₀
each_kind P p₁ p₂ p₃ p₄ p₅ p₆ p₇ p₈ p₉ p₁₀ (suc (suc (suc (suc (suc (suc (suc (suc (suc (suc (suc k))))))))))) e =
    absurd (omega (arith, at_most_ten (suc (suc (suc (suc (suc (suc (suc (suc (suc (suc (suc k))))))))))) e))

-- ---- By the kind

pub kinds_named : KindsNamed
kinds_named a v w = refl

pub records_by : RecordsBy
unfolding record_by decoded
records_by a w = refl

-- ---- What a kind has settles the record

by_fields : (k a w a' w' : ℕ) → (has_address k ≡ true → a ≡ a') → (has_value k ≡ true → w % 0x100000000 ≡ w' % 0x100000000)
    → (has_word k ≡ true → w ≡ w') → record_by (of_kind k a w) ≡ record_by (of_kind k a' w')
unfolding record_by decoded
by_fields zero a w a' w' ea ev ew = refl
by_fields (suc zero) a w a' w' ea ev ew = rw (ea refl, ev refl)
by_fields (suc (suc zero)) a w a' w' ea ev ew = rw (ea refl, ev refl)
by_fields (suc (suc (suc zero))) a w a' w' ea ev ew = rw (ev refl)
by_fields (suc (suc (suc (suc zero)))) a w a' w' ea ev ew = rw (ev refl)
by_fields (suc (suc (suc (suc (suc zero))))) a w a' w' ea ev ew = rw (ev refl)
by_fields (suc (suc (suc (suc (suc (suc zero)))))) a w a' w' ea ev ew = refl
by_fields (suc (suc (suc (suc (suc (suc (suc zero))))))) a w a' w' ea ev ew = refl
by_fields (suc (suc (suc (suc (suc (suc (suc (suc zero)))))))) a w a' w' ea ev ew = rw (ea refl, ew refl)
by_fields (suc (suc (suc (suc (suc (suc (suc (suc (suc zero))))))))) a w a' w' ea ev ew = rw (ea refl, ew refl)
by_fields (suc (suc (suc (suc (suc (suc (suc (suc (suc (suc zero)))))))))) a w a' w' ea ev ew = rw (ew refl)
by_fields (suc (suc (suc (suc (suc (suc (suc (suc (suc (suc (suc k))))))))))) a w a' w' ea ev ew = refl

same_record : (f g : Fields) → SameFields f g → record_by f ≡ record_by g
same_record f g s =
    by_fields f.kind f.address f.value g.address g.value s.address s.value s.word
    ∙ ap (λ (k : ℕ). record_by (of_kind k g.address g.value)) s.kind

-- ---- The record has them

has_fields : (k a w : ℕ) → is_kind k ≡ true → SameFields (of_kind k a w) (fields_of (record_by (of_kind k a w)))
unfolding record_by decoded
has_fields k a w =
    each_kind (λ (n : ℕ). SameFields (of_kind n a w) (fields_of (record_by (of_kind n a w))))
    (record { kind = refl; address = λ _. refl; value = λ _. rw mod-mod; word = never })
    (record { kind = refl; address = λ _. refl; value = λ _. rw mod-mod; word = never })
    (record { kind = refl; address = never; value = λ _. rw mod-mod; word = never })
    (record { kind = refl; address = never; value = λ _. rw mod-mod; word = never })
    (record { kind = refl; address = never; value = λ _. rw mod-mod; word = never })
    (record { kind = refl; address = never; value = never; word = never })
    (record { kind = refl; address = never; value = never; word = never })
    (record { kind = refl; address = λ _. refl; value = λ _. refl; word = λ _. refl })
    (record { kind = refl; address = λ _. refl; value = λ _. refl; word = λ _. refl })
    (record { kind = refl; address = never; value = never; word = λ _. sym (div-add-mod' w 0x100000000) })
    k

pub fields_kept : (f : Fields) → FieldsKept f
fields_kept f = record { unused = same_record f; kept = has_fields f.kind f.address f.value }

-- ---- The record of its own fields

pub own_fields : (r : Record) → Fits r → record_by (fields_of r) ≡ r
unfolding record_by decoded
own_fields None h = refl
own_fields (Write a v) h = rw (mod-eq_of_lt h.1)
own_fields (Read a v) h = rw (mod-eq_of_lt h.1)
own_fields (SpRun b) h = rw (mod-eq_of_lt h)
own_fields (DpRun b) h = rw (mod-eq_of_lt h)
own_fields (Tick n) h = rw (mod-eq_of_lt h)
own_fields Break h = refl
own_fields Acknowledge h = refl
own_fields (Store a w) h = refl
own_fields (Check a w) h = refl
own_fields (Run a b) h =
    let e₁ : (a * 0x100000000 + b) / 0x100000000 ≡ a = omega (arith, h.1) in
    let e₂ : (a * 0x100000000 + b) % 0x100000000 ≡ b = omega (arith, h.1) in
    rw (e₁, e₂)

-- ---- Widths

pub decoded_fits : (k a v w : ℕ) → a < 0x100000000 → v < 0x100000000 → w < 0x10000000000000000 → Fits (decoded k a v w)
unfolding decoded
decoded_fits zero a v w ha hv hw = tt
decoded_fits (suc zero) a v w ha hv hw = (ha, hv)
decoded_fits (suc (suc zero)) a v w ha hv hw = (ha, hv)
decoded_fits (suc (suc (suc zero))) a v w ha hv hw = ha
decoded_fits (suc (suc (suc (suc zero)))) a v w ha hv hw = ha
decoded_fits (suc (suc (suc (suc (suc zero))))) a v w ha hv hw = ha
decoded_fits (suc (suc (suc (suc (suc (suc zero)))))) a v w ha hv hw = tt
decoded_fits (suc (suc (suc (suc (suc (suc (suc zero))))))) a v w ha hv hw = tt
decoded_fits (suc (suc (suc (suc (suc (suc (suc (suc zero)))))))) a v w ha hv hw = (ha, hw)
decoded_fits (suc (suc (suc (suc (suc (suc (suc (suc (suc zero))))))))) a v w ha hv hw = (ha, hw)
decoded_fits (suc (suc (suc (suc (suc (suc (suc (suc (suc (suc zero)))))))))) a v w ha hv hw = (ha, hv)
decoded_fits (suc (suc (suc (suc (suc (suc (suc (suc (suc (suc (suc k))))))))))) a v w ha hv hw = tt

-- The record of some fields
either_fits : (b : Bool) (x y : ℕ) → x < 0x100000000 → y < 0x100000000 → cond b x y < 0x100000000
either_fits true x y p q = p
either_fits false x y p q = q

pub record_fits : (f : Fields) → FieldsFit f → Fits (record_by f)
unfolding record_by
record_fits f h =
    decoded_fits f.kind (first_field f) (low f) f.value
    (either_fits (runs_or_ticks f.kind) (low f) (cond (runs_both f.kind) (high f) f.address) (omega arith)
    (either_fits (runs_both f.kind) (high f) f.address (omega (arith, h.value)) h.address))
    (omega arith)
    h.value

-- The fields of a record
pub fits_fields : (r : Record) → Fits r → FieldsFit (fields_of r)
fits_fields None h = record { address = omega arith; value = omega arith }
fits_fields (Write a v) h = record { address = h.0; value = omega arith }
fits_fields (Read a v) h = record { address = h.0; value = omega arith }
fits_fields (SpRun b) h = record { address = omega arith; value = omega arith }
fits_fields (DpRun b) h = record { address = omega arith; value = omega arith }
fits_fields (Tick n) h = record { address = omega arith; value = omega arith }
fits_fields Break h = record { address = omega arith; value = omega arith }
fits_fields Acknowledge h = record { address = omega arith; value = omega arith }
fits_fields (Store a w) h = record { address = h.0; value = h.1 }
fits_fields (Check a w) h = record { address = h.0; value = h.1 }
fits_fields (Run a b) h = record { address = omega arith; value = omega (arith, h.0, h.1) }
