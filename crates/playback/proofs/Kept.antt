-- Stores and checks of memory: the word stored is found, every other word is as before, and past the lent length nothing is stored.
use Prim.Native.Nat.{ℕ, ◌+◌, ◌/◌, ◌%◌, ◌≤◌, ◌<◌}
use mathlib.Core.Path.{◌≡◌, refl, sym, ap, ◌∙◌}
use mathlib.Core.Bool.{Bool, true, false, ◌&&◌, ◌||◌}
use mathlib.Core.List.{List}
use native.Mathlib.Omega.{arith}
use native.Mathlib.Nat.{zero-add}
use lib.Dec.{ltb, leb, eqb}
use lib.ListN.{length}
use lib.Seq.{ext_get_or}
use borrow.Author.Tests.{ltb-true, ltb-false, leb-true, leb-false, le-leb, eqb-true}
use Rattle.words.specs.Memory.{Memory, Place, RDRAM, DMEM, IMEM, bytes_of, with_bytes, fitted, bytes_at, load_word, store_word, word_value, word_bytes}
use Rattle.words.proofs.Tests.{by, and_true}
use Rattle.words.proofs.Bytes.{bytes_length, bytes_at_lem, load_past, store_past, store_length, store_inside, store_outside, with_same, with_place}
use Rattle.recording.specs.Reader.{memory_allowed}
use Rattle.recording.proofs.Bytes.{next_byte}
use Rattle.playback.specs.Effects.{place_at, offset_at, load_at, store_at}
use Rattle.playback.specs.Stores.{fitted_at, Stores, Edges}

-- ---- The bytes of a number

-- The bytes of a word have its value
pub value_of_bytes : (v : ℕ) → v < 0x10000000000000000 → word_value (word_bytes v) ≡ v
unfolding word_value word_bytes
value_of_bytes v h =
    next_byte _ (v / 0x100) v
    (next_byte _ (v / 0x10000) (v / 0x100)
    (next_byte _ (v / 0x1000000) (v / 0x10000)
    (next_byte _ (v / 0x100000000) (v / 0x1000000)
    (next_byte _ (v / 0x10000000000) (v / 0x100000000)
    (next_byte _ (v / 0x1000000000000) (v / 0x10000000000)
    (next_byte _ (v / 0x100000000000000) (v / 0x1000000000000)
    (next_byte 0 0 (v / 0x100000000000000) refl (omega arith))
    (omega arith))
    (omega arith))
    (omega arith))
    (omega arith))
    (omega arith))
    (omega arith))
    (omega arith)

bytes_of_length : (v : ℕ) → length (word_bytes v) ≡ 8
unfolding word_bytes
bytes_of_length v = refl

-- ---- A word after a store in the same bytes

-- The word that was stored
load_stored : (l : List ℕ) (a : ℕ) (w : List ℕ) → length w ≡ 8 → a + 8 ≤ length l → load_word (store_word l a w) a ≡ w
unfolding load_word
load_stored l a w e h =
    let k = store_word l a w in
    let f : fitted k a ≡ true = le-leb (a + 8) (length k) (omega (arith, store_length l a w)) in
    rw f
    (ext_get_or 0 (bytes_at k a) w (bytes_length k a ∙ sym e)
    (λ i b.
    let n : i < 8 = omega (arith, bytes_length k a) in
    bytes_at_lem k a i n ∙ store_inside l a w i e n h))

-- No byte of the word at b is one of the word at a
abbrev Apart : ℕ → ℕ → Type 0
Apart a b = (i : ℕ) → i < 8 → a ≤ b + i → b + i < a + 8 → ⊥

-- The word at an address apart from it
load_apart : (l : List ℕ) (a b : ℕ) (w : List ℕ) → length w ≡ 8 → Apart a b → load_word (store_word l a w) b ≡ load_word l b
unfolding load_word
load_apart l a b w e h =
    let k = store_word l a w in
    let same : bytes_at k b ≡ bytes_at l b =
    ext_get_or 0 (bytes_at k b) (bytes_at l b) (bytes_length k b ∙ sym (bytes_length l b))
    (λ i j.
    let n : i < 8 = omega (arith, bytes_length k b) in
    bytes_at_lem k b i n ∙ store_outside l a w (b + i) e (λ p q _. h i n p q) ∙ sym (bytes_at_lem l b i n)) in
    rw (store_length l a w, same)

-- The word at an address of a place, after a store in that place or in another one
load_other : (p : Place) (a b : ℕ) (w : List ℕ) (m : Memory) → length w ≡ 8 → (q : Place) → (p ≡ q → Apart a b)
    → load_word (bytes_of q (with_bytes p (store_word (bytes_of p m) a w) m)) b ≡ load_word (bytes_of q m) b
load_other p a b w m e q =
    with_place (λ (r : Place) (l : List ℕ). (p ≡ r → Apart a b) → load_word l b ≡ load_word (bytes_of r m) b) p (store_word (bytes_of p m) a w) m
    (λ h. load_apart (bytes_of p m) a b w e (h refl)) (λ r h. refl) q

-- A place with the bytes it has
with_own : (p : Place) (m : Memory) → with_bytes p (bytes_of p m) m ≡ m
with_own RDRAM m = refl
with_own DMEM m = refl
with_own IMEM m = refl

-- ---- Allowed addresses

-- Where a memory begins
abbrev first : Place → ℕ
first RDRAM = 0
first DMEM = 0x04000000
first IMEM = 0x04001000

or_below : (x y : Bool) (a n : ℕ) → x || y ≡ true → (x ≡ true → a < n) → (y ≡ true → a < n) → a < n
or_below true y a n e f g = f refl
or_below false y a n e f g = g e

allowed_facts : (a : ℕ) → memory_allowed a ≡ true → (a % 8 ≡ 0) × (a < 0x04002000)
allowed_facts a e =
    let p = and_true (eqb (a % 8) 0) (ltb a 0x03F00000 || (leb 0x04000000 a && ltb a 0x04002000)) e in (
      eqb-true (a % 8) 0 p.0,
      or_below (ltb a 0x03F00000) (leb 0x04000000 a && ltb a 0x04002000) a 0x04002000 p.1
          (λ h. omega (arith, ltb-true a 0x03F00000 h))
          (λ h. ltb-true a 0x04002000 (and_true (leb 0x04000000 a) (ltb a 0x04002000) h).1),
    )

-- An allowed address is where its memory begins and the place in it, a multiple of 8
abbrev Placed : ℕ → Place → ℕ → Type 0
Placed a p o = (a ≡ first p + o) × (o % 8 ≡ 0)

placed : (a : ℕ) → memory_allowed a ≡ true → Placed a (place_at a) (offset_at a)
placed a e =
    let f = allowed_facts a e in
    let z : a % 8 ≡ 0 = f.0 in
    let h : a < 0x04002000 = f.1 in
    by (ltb a 0x04000000) (λ r. rw r (sym (zero-add a), z))
    (λ r.
    by (ltb a 0x04001000)
    (λ d. rw (r, d) (in-dmem a z (ltb-false a 0x04000000 r) (ltb-true a 0x04001000 d)))
    (λ d. rw (r, d) (in-imem a z (ltb-false a 0x04001000 d) h)))
  where
    in-dmem : (a : ℕ) → a % 8 ≡ 0 → 0x04000000 ≤ a → a < 0x04001000 → Placed a DMEM (a % 0x1000)
    in-dmem a z l h = (omega arith, omega arith)

    in-imem : (a : ℕ) → a % 8 ≡ 0 → 0x04001000 ≤ a → a < 0x04002000 → Placed a IMEM (a % 0x1000)
    in-imem a z l h = (omega arith, omega arith)

-- Two of them that differ are different words: they are in different memories, or eight bytes or more apart
different_words : (a b : ℕ) (p q : Place) (o u : ℕ) → Placed a p o → Placed b q u → (a ≡ b → ⊥) → p ≡ q → Apart o u
different_words a b p q o u f g n e i h l r =
    let same : o ≡ u = meet o u i f.1 g.1 h l r in
    n (f.0 ∙ rw (e, same) (sym g.0))
  where
    -- Multiples of 8 less than eight bytes apart are the same
    meet : (o u i : ℕ) → o % 8 ≡ 0 → u % 8 ≡ 0 → i < 8 → o ≤ u + i → u + i < o + 8 → o ≡ u
    meet o u i x y h l r = omega arith

-- ---- Stores

finds : (m : Memory) (a word : ℕ) → word < 0x10000000000000000 → fitted_at a m ≡ true → load_at a (store_at a word m) ≡ word
unfolding load_at store_at
finds m a word h f =
    let p = place_at a in
    let o = offset_at a in
    let l = bytes_of p m in
    ap (λ (k : List ℕ). word_value (load_word k o)) (with_same p (store_word l o (word_bytes word)) m)
    ∙ ap word_value (load_stored l o (word_bytes word) (bytes_of_length word) (leb-true (o + 8) (length l) f))
    ∙ value_of_bytes word h

others : (m : Memory) (a b word : ℕ) → memory_allowed a ≡ true → memory_allowed b ≡ true → (a ≡ b → ⊥)
    → load_at b (store_at a word m) ≡ load_at b m
unfolding load_at store_at
others m a b word f g n =
    ap word_value
    (load_other (place_at a) (offset_at a) (offset_at b) (word_bytes word) m (bytes_of_length word) (place_at b)
    (different_words a b (place_at a) (place_at b) (offset_at a) (offset_at b) (placed a f) (placed b g) n))

dropped : (m : Memory) (a word : ℕ) → fitted_at a m ≡ false → store_at a word m ≡ m
unfolding store_at
dropped m a word f =
    let p = place_at a in
    let o = offset_at a in
    let l = bytes_of p m in
    ap (λ (k : List ℕ). with_bytes p k m) (store_past l o (word_bytes word) (leb-false (o + 8) (length l) f)) ∙ with_own p m

zeros : (m : Memory) (a : ℕ) → fitted_at a m ≡ false → load_at a m ≡ 0
unfolding load_at word_value
zeros m a f =
    let o = offset_at a in
    let l = bytes_of (place_at a) m in
    ap word_value (load_past l o (leb-false (o + 8) (length l) f))

pub stores : (m : Memory) → Stores m
stores m = record { finds = finds m; others = others m; dropped = dropped m; zeros = zeros m }

pub edges : Edges
edges =
    record {
      last_of_rdram = (refl, refl);
      not_cut = refl;
      first_of_dmem = (refl, refl);
      last_of_dmem = (refl, refl);
      first_of_imem = (refl, refl);
      last_of_imem = (refl, refl);
    }

-- ---- What records leave alone
