-- The bytes of a record: they read back as the record, and those of a record that was read are those that it was read from.
use Prim.Native.Nat.{ℕ, zero, suc, ◌+◌, ◌*◌, ◌/◌, ◌%◌, ◌<◌, ◌≤◌}
use mathlib.Core.Path.{◌≡◌, refl, ap, ◌∙◌}
use mathlib.Core.Bool.{true}
use mathlib.Core.List.{List, [], ◌∷◌, ◌++◌}
use native.Mathlib.Omega.{arith}
use native.Mathlib.Nat.{div-add-mod'}
use lib.ListN.{length, take, drop}
use lib.Seq.{drop-cons}
use borrow.Author.Tests.{lt-ltb, le-leb}
use Rattle.words.specs.Memory.{low_byte, word_bytes}
use Rattle.recording.specs.declared.Record.{Record}
use Rattle.recording.specs.declared.Record.TheVariants.{None, Write, Read, SpRun, DpRun, Tick, Break, Acknowledge, Store, Check, Run}
use Rattle.recording.specs.Kinds.{Bytes, byte, joined, four, is_kind, size, decoded, kind_of, record_of}
use Rattle.recording.specs.Fields.{fields_of, Fits}
use Rattle.recording.specs.Reader.{address_number, record_number}
use Rattle.recording.specs.Writer.{four_bytes, record_bytes}
use Rattle.recording.proofs.Accepted.{body_at_most, accepted_kind, accepted_whole}
use Rattle.recording.proofs.Named.{never, each_kind}

-- ---- Four bytes and eight bytes

pub most_significant_first : four_bytes 0x01020304 ≡ 1 ∷ 2 ∷ 3 ∷ 4 ∷ []
most_significant_first = refl

-- One byte more: q stands for the bytes before it
pub next_byte : (a q n : ℕ) → a ≡ q → n ≡ q * 256 + n % 256 → a * 256 + low_byte n ≡ n
next_byte a q n e h = omega arith

-- The four bytes of a number are joined to it
join_four : (n : ℕ) → n < 0x100000000 → joined (low_byte (n / 0x1000000)) (low_byte (n / 0x10000)) (low_byte (n / 0x100)) (low_byte n) ≡ n
join_four n h =
    next_byte _ (n / 0x100) n
    (next_byte _ (n / 0x10000) (n / 0x100)
    (next_byte _ (n / 0x1000000) (n / 0x10000) (omega arith) (omega arith))
    (omega arith))
    (omega arith)

-- The four bytes that were joined
four_joined : (a b c d : ℕ) → a < 256 → b < 256 → c < 256 → d < 256 → four_bytes (joined a b c d) ≡ a ∷ b ∷ c ∷ d ∷ []
four_joined a b c d ha hb hc hd =
    let n = joined a b c d in
    let e₁ : low_byte (n / 0x1000000) ≡ a = omega arith in
    let e₂ : low_byte (n / 0x10000) ≡ b = omega arith in
    let e₃ : low_byte (n / 0x100) ≡ c = omega arith in
    let e₄ : low_byte n ≡ d = omega arith in
    rw (e₁, e₂, e₃, e₄)

-- What bytes are joined to fits four of them
joined_fits : (a b c d : ℕ) → a < 256 → b < 256 → c < 256 → d < 256 → joined a b c d < 0x100000000
joined_fits a b c d ha hb hc hd = omega arith

pub four_fits : (s : List ℕ) (i : ℕ) → Bytes s → four s i < 0x100000000
four_fits s i h = joined_fits (byte s i) (byte s (i + 1)) (byte s (i + 2)) (byte s (i + 3)) (h i) (h (i + 1)) (h (i + 2)) (h (i + 3))

-- The eight bytes of a number are those of its halves
pub word_halves : (w : ℕ) → word_bytes w ≡ four_bytes (w / 0x100000000) ++ four_bytes (w % 0x100000000)
unfolding word_bytes
word_halves w =
    let e₁ : low_byte (w / 0x100000000 / 0x1000000) ≡ low_byte (w / 0x100000000000000) = omega arith in
    let e₂ : low_byte (w / 0x100000000 / 0x10000) ≡ low_byte (w / 0x1000000000000) = omega arith in
    let e₃ : low_byte (w / 0x100000000 / 0x100) ≡ low_byte (w / 0x10000000000) = omega arith in
    let e₄ : low_byte (w % 0x100000000 / 0x1000000) ≡ low_byte (w / 0x1000000) = omega arith in
    let e₅ : low_byte (w % 0x100000000 / 0x10000) ≡ low_byte (w / 0x10000) = omega arith in
    let e₆ : low_byte (w % 0x100000000 / 0x100) ≡ low_byte (w / 0x100) = omega arith in
    let e₇ : low_byte (w % 0x100000000) ≡ low_byte w = omega arith in
    rw (e₁, e₂, e₃, e₄, e₅, e₆, e₇)

-- ... of two halves that are put together
halves_bytes : (v l : ℕ) → l < 0x100000000 → word_bytes (v * 0x100000000 + l) ≡ four_bytes v ++ four_bytes l
halves_bytes v l h =
    let e₁ : (v * 0x100000000 + l) / 0x100000000 ≡ v = omega arith in
    let e₂ : (v * 0x100000000 + l) % 0x100000000 ≡ l = omega arith in
    word_halves (v * 0x100000000 + l) ∙ rw (e₁, e₂)

-- ---- The bytes of a record read back

abbrev pub kind_number : Record → ℕ
kind_number r = (fields_of r).kind

-- The eight bytes of a number are joined to it as two halves
join_eight : (w : ℕ) → w < 0x10000000000000000
    → joined (low_byte (w / 0x100000000 / 0x1000000)) (low_byte (w / 0x100000000 / 0x10000)) (low_byte (w / 0x100000000 / 0x100)) (low_byte (w / 0x100000000))
    * 0x100000000
    + joined (low_byte (w % 0x100000000 / 0x1000000)) (low_byte (w % 0x100000000 / 0x10000)) (low_byte (w % 0x100000000 / 0x100)) (low_byte (w % 0x100000000))
    ≡ w
join_eight w h =
    rw (join_four (w / 0x100000000) (omega arith), join_four (w % 0x100000000) (omega arith)) (div-add-mod' w 0x100000000)

pub bytes_record : (r : Record) → Fits r → record_of (record_bytes r) ≡ r
unfolding record_of decoded
bytes_record None h = refl
bytes_record (Write a v) h = rw (join_four a h.0, join_four v h.1)
bytes_record (Read a v) h = rw (join_four a h.0, join_four v h.1)
bytes_record (SpRun b) h = rw (join_four b h)
bytes_record (DpRun b) h = rw (join_four b h)
bytes_record (Tick n) h = rw (join_four n h)
bytes_record Break h = refl
bytes_record Acknowledge h = refl
bytes_record (Store a w) h = rw (join_four a h.0, word_halves w, join_eight w h.1)
bytes_record (Check a w) h = rw (join_four a h.0, word_halves w, join_eight w h.1)
bytes_record (Run a b) h = rw (join_four a h.0, join_four b h.1)

-- They begin with the kind, and are as many as the kind fixes
pub bytes_kind : (r : Record) → is_kind (kind_number r) ≡ true → kind_of (record_bytes r) ≡ kind_number r
bytes_kind None e = never e
bytes_kind (Write a v) e = refl
bytes_kind (Read a v) e = refl
bytes_kind (SpRun b) e = refl
bytes_kind (DpRun b) e = refl
bytes_kind (Tick n) e = refl
bytes_kind Break e = refl
bytes_kind Acknowledge e = refl
bytes_kind (Store a w) e = refl
bytes_kind (Check a w) e = refl
bytes_kind (Run a b) e = refl

pub bytes_length : (r : Record) → is_kind (kind_number r) ≡ true → length (record_bytes r) ≡ size (kind_number r)
unfolding word_bytes
bytes_length None e = never e
bytes_length (Write a v) e = refl
bytes_length (Read a v) e = refl
bytes_length (SpRun b) e = refl
bytes_length (DpRun b) e = refl
bytes_length (Tick n) e = refl
bytes_length Break e = refl
bytes_length Acknowledge e = refl
bytes_length (Store a w) e = refl
bytes_length (Check a w) e = refl
bytes_length (Run a b) e = refl

pub bytes_number : (r : Record) → is_kind (kind_number r) ≡ true → address_number r ≡ 0 → Fits r → record_number (record_bytes r) ≡ 0
unfolding record_number
bytes_number r e a h =
    let n = bytes_length r e in
    rw (bytes_record r h, bytes_kind r e, lt-ltb 0 (length (record_bytes r)) (omega arith), e, le-leb (size (kind_number r)) (length (record_bytes r)) (omega arith))
    a

-- ---- The bytes of a record that was read

-- The bytes of the longest record, of which shorter ones are the first
abbrev pub longest_bytes : ℕ → ℕ → ℕ → ℕ → List ℕ
longest_bytes k a v l = k ∷ four_bytes a ++ four_bytes v ++ four_bytes l

pub decoded_bytes : (k a v l : ℕ) → is_kind k ≡ true → l < 0x100000000
    → record_bytes (decoded k a v (v * 0x100000000 + l)) ≡ take (size k) (longest_bytes k a v l)
unfolding decoded
decoded_bytes k a v l e h =
    each_kind (λ (n : ℕ). record_bytes (decoded n a v (v * 0x100000000 + l)) ≡ take (size n) (longest_bytes n a v l))
    refl refl refl refl refl refl refl (rw (halves_bytes v l h)) (rw (halves_bytes v l h)) refl k e

-- The m bytes from a place on
abbrev bytes_from : ℕ → List ℕ → ℕ → List ℕ
bytes_from zero s i = []
bytes_from (suc m) s i = byte s i ∷ bytes_from m s (suc i)

take_from : (n m i : ℕ) (s : List ℕ) → n ≤ m → i + n ≤ length s → take n (bytes_from m s i) ≡ take n (drop i s)
take_from zero m i s h b = refl
take_from (suc n) zero i s h b = absurd (omega arith)
take_from (suc n) (suc m) i s h b =
    rw (drop-cons s i 0 (omega arith)) (ap (λ (l : List ℕ). byte s i ∷ l) (take_from n m (suc i) s (omega arith) (omega arith)))

thirteen : (s : List ℕ) → Bytes s → longest_bytes (kind_of s) (four s 1) (four s 5) (four s 9) ≡ bytes_from 13 s 0
thirteen s b =
    let p = four_joined (byte s 1) (byte s 2) (byte s 3) (byte s 4) (b 1) (b 2) (b 3) (b 4) in
    let q = four_joined (byte s 5) (byte s 6) (byte s 7) (byte s 8) (b 5) (b 6) (b 7) (b 8) in
    let r = four_joined (byte s 9) (byte s 10) (byte s 11) (byte s 12) (b 9) (b 10) (b 11) (b 12) in
    λ i. kind_of s ∷ p i ++ q i ++ r i

pub read_bytes : (s : List ℕ) → Bytes s → record_number s ≡ 0 → record_bytes (record_of s) ≡ take (size (kind_of s)) s
unfolding record_of
read_bytes s b e =
    decoded_bytes (kind_of s) (four s 1) (four s 5) (four s 9) (accepted_kind s e) (four_fits s 9 b)
    ∙ rw (thirteen s b)
    (take_from (size (kind_of s)) 13 0 s (omega (arith, body_at_most (kind_of s))) (omega (arith, accepted_whole s e)))
