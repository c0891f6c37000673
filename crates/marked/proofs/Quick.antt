-- A second way to run an example, in few steps: it computes neither SP turns one by one nor lists of lent bytes. What it accepts, holds.
use Prim.Native.Nat.{ℕ, ◌+◌, ◌%◌, ◌<◌, ◌≤◌}
use mathlib.Core.Path.{◌≡◌, refl, ap, ◌∙◌}
use mathlib.Core.Bool.{Bool, true, false, not, cond, ◌&&◌, beq}
use mathlib.Core.List.{List, [], ◌∷◌}
use native.Mathlib.Omega.{arith}
use lib.Dec.{eqb, ltb, leb}
use lib.ListN.{length, get_or, set, length-set, replicate, length-replicate, get_or-replicate, get_or-eq_default}
use lib.Seq.{get_or-set_same, get_or-set_other}
use borrow.Author.Tests.{ltb-true, ltb-false, leb-true, le-leb, eqb-true, eqb-false, not-true}
use Rattle.words.specs.Bits.{as_bit}
use Rattle.words.specs.Memory.{Memory, memory, bytes_at, load_word, word_value}
use Rattle.words.proofs.Tests.{by, either, contradiction, and_true, true_and, three}
use Rattle.sp.specs.Turn.{sp_after, memory_after}
use Rattle.sp.specs.Left.{words_left}
use Rattle.dp.specs.Queue.{oldest, put_last}
use Rattle.dp.specs.Turn.{fetches, list_word, next_list_word, fetch_next, fetch_ring, consume_step}
use Rattle.dp.specs.Turn as DpTurn
use Rattle.machine.specs.declared.State.{State}
use Rattle.machine.specs.declared.Outcome.{Outcome}
use Rattle.machine.specs.Sound.{power_up, with_sp, with_dp, with_ring, sound}
use Rattle.machine.specs.Refusals.{rdram_allowed, bank_allowed, state_refusal, dp_refusal, accepted}
use Rattle.machine.specs.Calls.{read_register, write_register}
use Rattle.machine.specs.Turns.{dp_turn, consumer_turn}
use Rattle.laws.specs.World.{sp_lengths}
use Rattle.laws.proofs.Turns.{sp_sound_lem, lengths_after}
use Rattle.marked.specs.Marked.{Line, write, reads, sp_moves, dp_fetches, consumes, dp_line, puts, gives, holds, zeros, holds_all}
use Rattle.marked.proofs.After.{moving_is, after, after_is}

-- ---- What is known of RDRAM

-- Each of its bytes by the address, or nothing
pub data Known : Type 0 where
  bytes : (ℕ → ℕ) → Known
  unknown : Known

-- The length that is lent
abbrev rdram_length_lem : ℕ
rdram_length_lem = 32768

-- It is so of a memory
abbrev Stands : Known → Memory → Type 0
Stands (bytes f) m = (length m.rdram ≡ rdram_length_lem) × ((x : ℕ) → get_or m.rdram x 0 ≡ f x)
Stands unknown m = Unit

-- ---- DP turns

-- The word at an address
unfoldable pub word_at : (ℕ → ℕ) → ℕ → List ℕ
word_at f a = f a ∷ f (a + 1) ∷ f (a + 2) ∷ f (a + 3) ∷ f (a + 4) ∷ f (a + 5) ∷ f (a + 6) ∷ f (a + 7) ∷ []

load_is : (f : ℕ → ℕ) (m : Memory) (a : ℕ) → Stands (bytes f) m → a + 8 ≤ rdram_length_lem → load_word m.rdram a ≡ word_at f a
unfolding load_word bytes_at word_at
load_is f m a k h =
    let b = k.1 in
    rw (le-leb (a + 8) (length m.rdram) (omega (arith, k.0)))
    (λ i. b a i ∷ b (a + 1) i ∷ b (a + 2) i ∷ b (a + 3) i ∷ b (a + 4) i ∷ b (a + 5) i ∷ b (a + 6) i ∷ b (a + 7) i ∷ [])

word_is : (f : ℕ → ℕ) (s : State) (m : Memory) → Stands (bytes f) m → s.dp.xbus ≡ false → s.dp.current + 8 ≤ rdram_length_lem
    → next_list_word s.dp m.rdram m.dmem ≡ word_at f s.dp.current
unfolding list_word
word_is f s m k x c =
    ap (λ (b : Bool). load_word (cond b m.dmem m.rdram) (cond b (s.dp.current % 0x1000) s.dp.current)) x
    ∙ load_is f m s.dp.current k c

-- What a turn gives over a word
abbrev pub turned : State → List ℕ → Outcome
turned s w =
    accepted (with_ring s (fetch_next s.dp) (cond (fetches s.dp) (put_last s.dp s.queue (word_value w)) s.queue)) 0
    (as_bit (fetches s.dp))

-- The tests under which that word is known
abbrev pub fetch_known : State → Bool
fetch_known s = sound s && not s.dp.xbus && leb (s.dp.current + 8) rdram_length_lem

-- The turn of the call
turn_is : (f : ℕ → ℕ) (s : State) (m : Memory) → sp_lengths m ≡ true → Stands (bytes f) m → fetch_known s ≡ true
    → dp_turn s m.rdram m.dmem ≡ turned s (word_at f s.dp.current)
unfolding dp_turn dp_refusal fetch_ring
turn_is f s m l k e =
    let lent = three (rdram_allowed (length m.rdram)) (bank_allowed (length m.dmem)) (bank_allowed (length m.imem)) l in
    let tests = three (sound s) (not s.dp.xbus) (leb (s.dp.current + 8) rdram_length_lem) e in
    let word = word_is f s m k (not-true s.dp.xbus tests.1) (leb-true (s.dp.current + 8) rdram_length_lem tests.2) in
    rw (lent.0, lent.1, tests.0, word)

-- ---- Consumer turns

-- What one gives on a sound state
abbrev pub taken : State → Outcome
taken s =
    accepted (with_dp s (consume_step s.dp s.queue)) (cond (DpTurn.consumes s.dp) (oldest s.dp s.queue) 0)
    (as_bit (DpTurn.consumes s.dp))

consumer_is : (s : State) → sound s ≡ true → consumer_turn s ≡ taken s
unfolding consumer_turn state_refusal
consumer_is s h = rw h

-- ---- Bytes that the owner puts

abbrev with_byte : ℕ → ℕ → Memory → Memory
with_byte a b m = memory (set m.rdram a b) m.dmem m.imem

abbrev pub known_byte : ℕ → ℕ → (ℕ → ℕ) → ℕ → ℕ
known_byte a b f x = cond (eqb x a) b (f x)

put_stands : (f : ℕ → ℕ) (a b : ℕ) (m : Memory) → a < rdram_length_lem → Stands (bytes f) m → Stands (bytes (known_byte a b f)) (with_byte a b m)
put_stands f a b m h k = (
  length-set m.rdram a b ∙ k.0,
  λ x. either (λ (y : ℕ). get_or (set m.rdram a b) x 0 ≡ y) (eqb x a) b (f x)
      (λ e. rw (eqb-true x a e) (get_or-set_same m.rdram a b 0 (omega (arith, k.0))))
      (λ e. get_or-set_other m.rdram a x b 0 (eqb-false x a e) ∙ k.1 x),
)

put_lengths : (a b : ℕ) (m : Memory) → sp_lengths m ≡ true → sp_lengths (with_byte a b m) ≡ true
put_lengths a b m h = rw (length-set m.rdram a b) h

-- ---- The lines

-- After SP turns nothing is known of RDRAM
unfoldable pub quick : List Line → State → Known → Bool
quick [] s k = true
quick (write a v ∷ ls) s k =
    let x = write_register s a v in
    gives x.answer 0 0 && quick ls x.state k
quick (reads a v ∷ ls) s k =
    let x = read_register s a in
    gives x.answer v 0 && quick ls x.state k
quick (sp_moves n ∷ ls) s k = sound s && leb n (words_left s.sp) && quick ls (with_sp s (after n s.sp)) unknown
quick (dp_fetches ∷ ls) s (bytes f) =
    let x = turned s (word_at f s.dp.current) in
    fetch_known s && (gives x.answer 0 1 && quick ls x.state (bytes f))
quick (dp_fetches ∷ ls) s unknown = false
quick (consumes v ∷ ls) s k =
    let x = taken s in
    sound s && (gives x.answer v 1 && quick ls x.state k)
quick (dp_line up ∷ ls) s k = beq s.dp.line up && quick ls s k
quick (puts a b ∷ ls) s (bytes f) = ltb a rdram_length_lem && quick ls s (bytes (known_byte a b f))
quick (puts a b ∷ ls) s unknown = false

-- A call that answers as the table says, and the lines behind it
then : (a b c : Bool) → (b ≡ true → c ≡ true) → a && b ≡ true → a && c ≡ true
then true b c f e = f e
then false b c f e = e

accepts : (ls : List Line) (s : State) (k : Known) (m : Memory) → sp_lengths m ≡ true → Stands k m → quick ls s k ≡ true
    → holds ls s m ≡ true
unfolding quick holds
accepts [] s k m l st e = refl
accepts (write a v ∷ ls) s k m l st e =
    let x = write_register s a v in
    then (gives x.answer 0 0) (quick ls x.state k) (holds ls x.state m) (accepts ls x.state k m l st) e
accepts (reads a v ∷ ls) s k m l st e =
    let x = read_register s a in
    then (gives x.answer v 0) (quick ls x.state k) (holds ls x.state m) (accepts ls x.state k m l st) e
accepts (sp_moves n ∷ ls) s k m l st e =
    let p = three (sound s) (leb n (words_left s.sp)) (quick ls (with_sp s (after n s.sp)) unknown) e in
    let rest : quick ls (with_sp s (sp_after n s.sp)) unknown ≡ true = rw (after_is n s.sp (sp_sound_lem s p.0)) at p.2 in
    moving_is n (holds ls) s m p.0 l (leb-true n (words_left s.sp) p.1)
    ∙ accepts ls (with_sp s (sp_after n s.sp)) unknown (memory_after n s.sp m) (lengths_after n s.sp m l) tt rest
accepts (dp_fetches ∷ ls) s (bytes f) m l st e =
    let x = turned s (word_at f s.dp.current) in
    let p = and_true (fetch_known s) (gives x.answer 0 1 && quick ls x.state (bytes f)) e in
    rw (turn_is f s m l st p.0)
    (then (gives x.answer 0 1) (quick ls x.state (bytes f)) (holds ls x.state m) (accepts ls x.state (bytes f) m l st)
    p.1)
accepts (dp_fetches ∷ ls) s unknown m l st e = contradiction e refl
accepts (consumes v ∷ ls) s k m l st e =
    let x = taken s in
    let p = and_true (sound s) (gives x.answer v 1 && quick ls x.state k) e in
    rw (consumer_is s p.0) (then (gives x.answer v 1) (quick ls x.state k) (holds ls x.state m) (accepts ls x.state k m l st) p.1)
accepts (dp_line up ∷ ls) s k m l st e =
    then (beq s.dp.line up) (quick ls s k) (holds ls s m) (accepts ls s k m l st) e
accepts (puts a b ∷ ls) s (bytes f) m l st e =
    let p = and_true (ltb a rdram_length_lem) (quick ls s (bytes (known_byte a b f))) e in
    accepts ls s (bytes (known_byte a b f)) (with_byte a b m) (put_lengths a b m l)
    (put_stands f a b m (ltb-true a rdram_length_lem p.0) st) p.1
accepts (puts a b ∷ ls) s unknown m l st e = contradiction e refl

-- ---- The whole table

-- The lent zeros
zero_bytes : Stands (bytes (λ _. 0)) zeros
zero_bytes = (refl, zero-byte rdram_length_lem)
  where
    zero-byte : (n x : ℕ) → get_or {A = ℕ} (replicate n 0) x 0 ≡ 0
    zero-byte n x =
        by (ltb x n) (λ e. get_or-replicate n x 0 0 (ltb-true x n e))
        (λ e. get_or-eq_default (replicate n 0) 0 (omega (arith, length-replicate {A = ℕ} n 0, ltb-false x n e)))

zero_lengths : sp_lengths zeros ≡ true
zero_lengths = refl

unfoldable pub quick_all : List (List Line) → Bool
quick_all [] = true
quick_all (ls ∷ es) = quick ls power_up (bytes (λ _. 0)) && quick_all es

pub accepts_all : (es : List (List Line)) → quick_all es ≡ true → holds_all es ≡ true
unfolding quick_all holds_all
accepts_all [] e = refl
accepts_all (ls ∷ es) e =
    let p = and_true (quick ls power_up (bytes (λ _. 0))) (quick_all es) e in
    true_and (holds ls power_up zeros) (holds_all es)
    (accepts ls power_up (bytes (λ _. 0)) zeros zero_lengths zero_bytes p.0) (accepts_all es p.1)
