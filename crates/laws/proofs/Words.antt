-- 64-bit numbers in the queue and bytes in the memory: a 64-bit number is read back out of its eight bytes, and every turn keeps both.
use Prim.Native.Nat.{ℕ, zero, suc, ◌+◌, ◌*◌, ◌/◌, ◌%◌, ◌<◌}
use mathlib.Core.Path.{◌≡◌}
use mathlib.Core.List.{List, [], ◌∷◌}
use native.Mathlib.Omega.{arith}
use lib.ListN.{length, get_or, set, replicate}
use lib.Seq.{sets}
use Rattle.words.specs.Memory.{Memory, Place, RDRAM, DMEM, bytes_of, with_bytes, fitted, bytes_at, load_word, store_word, word_value, word_bytes}
use Rattle.words.proofs.Tests.{either}
use Rattle.words.proofs.Bytes.{load_length, with_place, value_bytes}
use Rattle.sp.specs.declared.SpState.{SpState}
use Rattle.sp.specs.Turn.{target_place, target_address, source_place, source_address, source_word, sp_move}
use Rattle.dp.specs.declared.DpState.{DpState}
use Rattle.dp.specs.Queue.{slot}
use Rattle.dp.specs.Turn.{fetches, list_bytes, list_address, list_word, next_list_word, fetch_ring}
use Rattle.laws.specs.World.{World}
use Rattle.laws.specs.Order.{Turn, sp, dp, consumer, sp_wrong, dp_wrong, leaves, leaves_all}
use Rattle.laws.specs.Runs.{Words64}
use Rattle.laws.proofs.Answers.{sp_number, dp_number, consumer_number, by_number, sp_done, dp_done, consumer_done, sp_leaves, dp_leaves, consumer_leaves, sp_stays, dp_stays, consumer_stays, sp_wrong_stays, dp_wrong_stays}

-- ---- A number and its bytes

pub value_back : (v : ℕ) → v < 0x10000000000000000 → word_value (word_bytes v) ≡ v
unfolding word_value word_bytes
value_back v h =
    let a : 0 * 256 + v / 0x100000000000000 % 256 ≡ v / 0x100000000000000 = omega arith in
    let b : v / 0x100000000000000 * 256 + v / 0x1000000000000 % 256 ≡ v / 0x1000000000000 = omega arith in
    let c : v / 0x1000000000000 * 256 + v / 0x10000000000 % 256 ≡ v / 0x10000000000 = omega arith in
    let d : v / 0x10000000000 * 256 + v / 0x100000000 % 256 ≡ v / 0x100000000 = omega arith in
    let e : v / 0x100000000 * 256 + v / 0x1000000 % 256 ≡ v / 0x1000000 = omega arith in
    let f : v / 0x1000000 * 256 + v / 0x10000 % 256 ≡ v / 0x10000 = omega arith in
    let g : v / 0x10000 * 256 + v / 0x100 % 256 ≡ v / 0x100 = omega arith in
    let i : v / 0x100 * 256 + v % 256 ≡ v = omega arith in
    rw (a, b, c, d, e, f, g, i)

-- Bytes, and what a word of them is
abbrev Bytes : List ℕ → Type 0
Bytes l = (x : ℕ) → get_or l x 0 < 256

value_bound : (w : List ℕ) → length w ≡ 8 → Bytes w → word_value w < 0x10000000000000000
value_bound w e h =
    rw (← value_bytes w e)
    (grow _ (get_or w 7 0) 0x100000000000000
    (grow _ (get_or w 6 0) 0x1000000000000
    (grow _ (get_or w 5 0) 0x10000000000
    (grow _ (get_or w 4 0) 0x100000000
    (grow _ (get_or w 3 0) 0x1000000 (grow _ (get_or w 2 0) 0x10000 (grow (get_or w 0 0) (get_or w 1 0) 0x100 (h 0) (h 1)) (h 2)) (h 3))
    (h 4))
    (h 5))
    (h 6))
    (h 7))
  where
    grow : (n b k : ℕ) → n < k → b < 256 → n * 256 + b < k * 256
    grow n b k p q = omega arith

-- ---- Loads and stores

set_below : (n : ℕ) (l : List ℕ) (i v x : ℕ) → get_or l x 0 < n → v < n → get_or (set l i v) x 0 < n
set_below n [] i v x h k = h
set_below n (a ∷ l) zero v zero h k = k
set_below n (a ∷ l) zero v (suc x) h k = h
set_below n (a ∷ l) (suc i) v zero h k = h
set_below n (a ∷ l) (suc i) v (suc x) h k = set_below n l i v x h k

sets_bytes : (w l : List ℕ) (a : ℕ) → Bytes l → Bytes w → Bytes (sets l a w)
sets_bytes [] l a h k = h
sets_bytes (b ∷ w) l a h k = sets_bytes w (set l a b) (suc a) (λ x. set_below 256 l a b x (h x) (k 0)) (λ x. k (suc x))

store_bytes : (l : List ℕ) (a : ℕ) (w : List ℕ) → Bytes l → Bytes w → Bytes (store_word l a w)
unfolding store_word
store_bytes l a w h k = either Bytes (fitted l a) (sets l a w) l (λ _. sets_bytes w l a h k) (λ _. h)

-- Byte i of eight
eight_bytes : (l : List ℕ) (a i : ℕ) → Bytes l → get_or (bytes_at l a) i 0 < 256
unfolding bytes_at
eight_bytes l a zero h = h a
eight_bytes l a (suc zero) h = h (a + 1)
eight_bytes l a (suc (suc zero)) h = h (a + 2)
eight_bytes l a (suc (suc (suc zero))) h = h (a + 3)
eight_bytes l a (suc (suc (suc (suc zero)))) h = h (a + 4)
eight_bytes l a (suc (suc (suc (suc (suc zero))))) h = h (a + 5)
eight_bytes l a (suc (suc (suc (suc (suc (suc zero)))))) h = h (a + 6)
eight_bytes l a (suc (suc (suc (suc (suc (suc (suc zero))))))) h = h (a + 7)
eight_bytes l a (suc (suc (suc (suc (suc (suc (suc (suc i)))))))) h = omega arith

-- Zeros are below any bound
pub zeros_below : (n : ℕ) → 0 < n → (k i : ℕ) → get_or (replicate k 0) i 0 < n
zeros_below n h zero i = h
zeros_below n h (suc k) zero = h
zeros_below n h (suc k) (suc i) = zeros_below n h k i

load_bytes : (l : List ℕ) (a : ℕ) → Bytes l → Bytes (load_word l a)
unfolding load_word
load_bytes l a h = either Bytes (fitted l a) (bytes_at l a) (replicate 8 0) (λ _ i. eight_bytes l a i h) (λ _ i. zeros_below 256 (omega arith) 8 i)

-- ---- Turns

move_bytes : (s : SpState) (m : Memory) → ((p : Place) → Bytes (bytes_of p m)) → (p : Place) → Bytes (bytes_of p (sp_move s m))
unfolding sp_move
move_bytes s m h p =
    let q = target_place s in
    let l = bytes_of q m in
    let w = source_word s m in
    let source = load_bytes (bytes_of (source_place s) m) (source_address s) (h (source_place s)) in
    either (λ (n : Memory). Bytes (bytes_of p n)) s.busy (with_bytes q (store_word l (target_address s) w) m) m
    (λ _.
    with_place (λ _ k. Bytes k) q (store_word l (target_address s) w) m (store_bytes l (target_address s) w (h q) source) h p)
    (λ _. h p)

-- The word that a DP turn fetches
next_below : (s : DpState) (m : Memory) → ((p : Place) → Bytes (bytes_of p m)) → word_value (next_list_word s m.rdram m.dmem) < 0x10000000000000000
unfolding list_word
next_below s m h =
    let l = list_bytes s m.rdram m.dmem in
    let a = list_address s s.current in
    let bytes = either Bytes s.xbus m.dmem m.rdram (λ _. h DMEM) (λ _. h RDRAM) in
    value_bound (load_word l a) (load_length l a) (load_bytes l a bytes)

ring_below : (s : DpState) (m : Memory) (ring : List ℕ) → ((p : Place) → Bytes (bytes_of p m)) → ((i : ℕ) → get_or ring i 0 < 0x10000000000000000)
    → (i : ℕ) → get_or (fetch_ring s m.rdram m.dmem ring) i 0 < 0x10000000000000000
unfolding fetch_ring
ring_below s m ring h k i =
    let v = word_value (next_list_word s m.rdram m.dmem) in
    either (λ (l : List ℕ). get_or l i 0 < 0x10000000000000000) (fetches s) (set ring (slot s) v) ring
    (λ _. set_below 0x10000000000000000 ring (slot s) v i (k i) (next_below s m h))
    (λ _. k i)

-- Every turn keeps both
pub turn_words64 : (t : Turn) (w : World) → Words64 w → Words64 (leaves t w)
turn_words64 sp w h =
    by_number (sp_number w)
    (λ z. rw (sp_leaves w z) (done w h))
    (λ n z. rw (sp_stays w n z) h)
  where
    done : (w : World) → Words64 w → Words64 (sp_done w)
    done w h = record { slots = h.slots; bytes = move_bytes w.state.sp w.memory h.bytes }
turn_words64 dp w h =
    by_number (dp_number w)
    (λ z. rw (dp_leaves w z) (done w h))
    (λ n z. rw (dp_stays w n z) h)
  where
    done : (w : World) → Words64 w → Words64 (dp_done w)
    done w h = record { slots = ring_below w.state.dp w.memory w.state.queue h.bytes h.slots; bytes = h.bytes }
turn_words64 consumer w h =
    by_number (consumer_number w)
    (λ z. rw (consumer_leaves w z) (done w h))
    (λ n z. rw (consumer_stays w n z) h)
  where
    done : (w : World) → Words64 w → Words64 (consumer_done w)
    done w h = record { slots = h.slots; bytes = h.bytes }
turn_words64 (sp_wrong m e) w h = rw (sp_wrong_stays w m e) h
turn_words64 (dp_wrong rdram dmem e) w h = rw (dp_wrong_stays w rdram dmem e) h

pub turns_words64 : (ts : List Turn) (w : World) → Words64 w → Words64 (leaves_all ts w)
unfolding leaves_all
turns_words64 [] w h = h
turns_words64 (t ∷ ts) w h = turns_words64 ts (leaves t w) (turn_words64 t w h)
