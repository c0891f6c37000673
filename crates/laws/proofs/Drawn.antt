-- The DP's registers and its queue by themselves: what the DP's and the consumer's turns of a series make of them over a memory that stays.
use Prim.Native.Nat.{ℕ, zero, suc, ◌+◌, ◌-◌, ◌<◌}
use mathlib.Core.Path.{◌≡◌, refl, sym, ap, ◌∙◌}
use mathlib.Core.Bool.{true, false, cond, ◌&&◌}
use mathlib.Core.List.{List, [], ◌∷◌, ◌++◌, append_assoc}
use native.Mathlib.Omega.{arith}
use lib.Dec.{ltb}
use lib.ListN.{length, length-set}
use borrow.Author.Tests.{ltb-true, ltb-false, lt-ltb}
use Rattle.words.specs.Memory.{Memory, word_value}
use Rattle.words.proofs.Tests.{by, contradiction}
use Rattle.dp.specs.declared.DpState.{DpState}
use Rattle.dp.specs.Sound.{DpSound}
use Rattle.dp.specs.Lists.{runs}
use Rattle.dp.specs.Queue.{queued_words, oldest, put_last}
use Rattle.dp.specs.Turn.{fetches, next_list_word, fetched, fetch_next, fetch_ring, consumes, dequeued, framed, consumed, consume_step}
use Rattle.dp.specs.Listed.{to_fetch, listed_words}
use Rattle.dp.proofs.Cases.{fetch_off, fetching, flush_off, consuming, consume_on}
use Rattle.dp.proofs.Kept.{fetched_kept, consumed_kept}
use Rattle.dp.proofs.Queue.{words_first, words_last}
use Rattle.dp.proofs.Listed.{next_fetched, next_still, ring_fetched, ring_still, next_consumed, none_consumed, fetched_keeps, same_lists, same_listed, fetch_next_lem, fetch_none, words_next}
use Rattle.machine.specs.declared.State.{State}
use Rattle.laws.specs.Order.{Turn, sp, dp, consumer, sp_wrong, dp_wrong, drawing, gives, fetch_of, dp_gives, consumer_gives, consumer_rest}
use Rattle.laws.proofs.Answers.{dp_answer, consumer_answer}

-- ---- One turn, and a series

-- The registers and the ring of the queue
pub record Side : Type 0 where
  pub dp : DpState
  pub queue : List ℕ

abbrev pub side_of : State → Side
side_of s = record { dp = s.dp; queue = s.queue }

-- After a DP turn over the memory m, and after a consumer turn
abbrev pub fetch_side : Memory → Side → Side
fetch_side m x = record { dp = fetch_next x.dp; queue = fetch_ring x.dp m.rdram m.dmem x.queue }

abbrev pub consume_side : Side → Side
consume_side x = record { dp = consume_step x.dp x.queue; queue = x.queue }

-- DP turns are refused by r
abbrev pub fetch_by : ℕ → Memory → Side → Side
fetch_by zero m x = fetch_side m x
fetch_by (suc r) m x = x

abbrev pub drawn_by : ℕ → Memory → Turn → Side → Side
drawn_by r m sp x = x
drawn_by r m dp x = fetch_by r m x
drawn_by r m consumer x = consume_side x
drawn_by r m (sp_wrong n h) x = x
drawn_by r m (dp_wrong rdram dmem h) x = x

unfoldable pub drawn : ℕ → Memory → List Turn → Side → Side
drawn r m [] x = x
drawn r m (t ∷ ts) x = drawn r m ts (drawn_by r m t x)

-- The words that consumer turns take
abbrev pub taken_by : Turn → Side → List ℕ
taken_by sp x = []
taken_by dp x = []
taken_by consumer x = cond (consumes x.dp) (oldest x.dp x.queue ∷ []) []
taken_by (sp_wrong n h) x = []
taken_by (dp_wrong rdram dmem h) x = []

unfoldable pub taken : ℕ → Memory → List Turn → Side → List ℕ
taken r m [] x = []
taken r m (t ∷ ts) x = taken_by t x ++ taken r m ts (drawn_by r m t x)

-- SP turns do not count
pub drawn_drawing : (r : ℕ) (m : Memory) (ts : List Turn) (x : Side) → drawn r m ts x ≡ drawn r m (drawing ts) x
unfolding drawn drawing
drawn_drawing r m [] x = refl
drawn_drawing r m (sp ∷ ts) x = drawn_drawing r m ts x
drawn_drawing r m (dp ∷ ts) x = drawn_drawing r m ts (fetch_by r m x)
drawn_drawing r m (consumer ∷ ts) x = drawn_drawing r m ts (consume_side x)
drawn_drawing r m (sp_wrong n h ∷ ts) x = drawn_drawing r m ts x
drawn_drawing r m (dp_wrong rdram dmem h ∷ ts) x = drawn_drawing r m ts x

-- ---- The words yet to fetch and yet to consume, as they stand in m

abbrev pub listed_in : Memory → Side → List ℕ
listed_in m x = listed_words x.dp m.rdram m.dmem

abbrev pub words_in : Memory → Side → List ℕ
words_in m x = queued_words x.dp x.queue ++ listed_in m x

-- Sound registers with FREEZE off, and 32 slots
pub record Fit (x : Side) : Type 0 where
  pub dp : DpSound x.dp
  pub slots : length x.queue ≡ 32
  pub freeze_off : x.dp.freeze ≡ false

-- ---- A DP turn

-- A fetch takes the first of the words yet to fetch
pub fetch_first : (s : DpState) → DpSound s → fetches s ≡ true → to_fetch s ≡ s.current ∷ to_fetch (fetched s)
fetch_first s h e =
    let below = ltb-true s.current s.limit (fetching s e).is_running in
    fetch_next_lem s h (flush_off s h below) below

-- The word that a turn fetches
abbrev pub word_in : Memory → Side → ℕ
word_in m x = word_value (next_list_word x.dp m.rdram m.dmem)

-- After a turn that fetched it
abbrev pub put : Memory → Side → Side
put m x = record { dp = fetched x.dp; queue = put_last x.dp x.queue (word_in m x) }

module _ (m : Memory) (x : Side) (g : Fit x) (e : fetches x.dp ≡ true) where
  pub side_fetched : fetch_side m x ≡ put m x
  side_fetched = rw (next_fetched x.dp e, ring_fetched x.dp m.rdram m.dmem x.queue e)

  pub listed_next : listed_in m x ≡ word_in m x ∷ listed_in m (put m x)
  listed_next =
      let below = ltb-true x.dp.current x.dp.limit (fetching x.dp e).is_running in
      words_next x.dp m.rdram m.dmem g.dp (flush_off x.dp g.dp below) below

  -- It puts it behind the queue's words
  queued_more : queued_words (fetched x.dp) (put_last x.dp x.queue (word_in m x)) ≡ queued_words x.dp x.queue ++ (word_in m x ∷ [])
  queued_more =
      let k = fetched_keeps x.dp in
      rw (k.head, k.queued) (words_last x.queue x.dp.head x.dp.queued (word_in m x) (fetching x.dp e).room g.slots)

  pub words_fetched : words_in m (put m x) ≡ words_in m x
  words_fetched =
      let v = word_in m x in
      let later = listed_in m (put m x) in
      ap (λ (l : List ℕ). l ++ later) queued_more
      ∙ append_assoc (queued_words x.dp x.queue) (v ∷ []) later
      ∙ ap (λ (l : List ℕ). queued_words x.dp x.queue ++ l) (sym listed_next)

  pub fit_fetched : Fit (put m x)
  fit_fetched =
      let f = fetching x.dp e in
      record {
        dp = fetched_kept x.dp g.dp f.is_running f.room;
        slots = simp length-set g.slots;
        freeze_off = (fetched_keeps x.dp).freeze ∙ g.freeze_off;
      }

pub side_still : (m : Memory) (x : Side) → fetches x.dp ≡ false → fetch_side m x ≡ x
side_still m x e = rw (next_still x.dp e, ring_still x.dp m.rdram m.dmem x.queue e)

-- When it fetches, by the numbers of words yet to fetch and queued
fetch_when : (x : Side) → Fit x → fetches x.dp ≡ ltb 0 (length (to_fetch x.dp)) && ltb x.dp.queued 32
fetch_when x g =
    let s = x.dp in
    let z = g.freeze_off in
    by (runs s)
    (λ r.
    let b = ltb-true s.current s.limit r in
    let more = fetch_next_lem s g.dp (flush_off s g.dp b) b in
    let n : 0 < length (to_fetch s) = rw more (omega arith) in
    rw (lt-ltb 0 (length (to_fetch s)) n, r, z))
    (λ r. rw (fetch_off s r, fetch_none s g.dp z (ltb-false s.current s.limit r)))

-- What it answers, and the numbers and words after it
pub record Fetches (m : Memory) (x : Side) : Type 0 where
  pub answer : dp_answer x.dp ≡ dp_gives 0 x.dp.queued (length (to_fetch x.dp))
  pub queued : (fetch_next x.dp).queued ≡ x.dp.queued + fetch_of 0 x.dp.queued (length (to_fetch x.dp))
  pub left : length (to_fetch (fetch_next x.dp)) ≡ length (to_fetch x.dp) - fetch_of 0 x.dp.queued (length (to_fetch x.dp))
  pub words : words_in m (fetch_side m x) ≡ words_in m x

pub dp_gives_lem : (m : Memory) (x : Side) → Fit x → Fetches m x
dp_gives_lem m x g =
    let s = x.dp in
    let w = fetch_when x g in
    by (fetches s)
    (λ e.
    let r = fetch_first s g.dp e in
    record {
      answer = rw w;
      queued = rw (← w, e, next_fetched s e) (fetched_keeps s).queued;
      left = rw (← w, e, next_fetched s e, r) (omega arith);
      words = ap (words_in m) (side_fetched m x g e) ∙ words_fetched m x g e;
    })
    (λ e. record {
      answer = rw w;
      queued = rw (← w, e, next_still s e) (omega arith);
      left = rw (← w, e, next_still s e) (omega arith);
      words = ap (words_in m) (side_still m x e);
    })

-- ---- A consumer turn

-- After a turn that took the oldest word
abbrev pub took : Side → Side
took x = record { dp = consumed x.dp (oldest x.dp x.queue); queue = x.queue }

module _ (m : Memory) (x : Side) (e : consumes x.dp ≡ true) where
  pub side_consumed : consume_side x ≡ took x
  side_consumed = rw (next_consumed x.dp (oldest x.dp x.queue) e)

  queued_first : queued_words x.dp x.queue ≡ oldest x.dp x.queue ∷ queued_words (took x).dp x.queue
  unfolding dequeued framed
  queued_first = words_first x.queue x.dp.head x.dp.queued (consuming x.dp e)

  pub words_consumed : words_in m x ≡ oldest x.dp x.queue ∷ words_in m (took x)
  words_consumed = rw (same_listed x.dp (oldest x.dp x.queue) m.rdram m.dmem, queued_first)

  pub fit_consumed : Fit x → Fit (took x)
  unfolding dequeued framed
  fit_consumed g = record { dp = consumed_kept x.dp (oldest x.dp x.queue) g.dp; slots = g.slots; freeze_off = g.freeze_off }

pub side_kept : (x : Side) → consumes x.dp ≡ false → consume_side x ≡ x
side_kept x e = rw (none_consumed x.dp (oldest x.dp x.queue) e)

-- Where none is taken, none is queued
none_queued : (x : Side) → Fit x → consumes x.dp ≡ false → x.dp.queued ≡ 0
none_queued x g e =
    by (ltb 0 x.dp.queued) (λ b. contradiction (consume_on x.dp g.freeze_off (ltb-true 0 x.dp.queued b)) e)
    (λ b. omega (arith, ltb-false 0 x.dp.queued b))

gives_first : (q v : ℕ) (vs : List ℕ) → 0 < q → consumer_gives q (v ∷ vs) ≡ gives v 1
gives_first zero v vs h = absurd (omega arith)
gives_first (suc q) v vs h = refl

rest_first : (q v : ℕ) (vs : List ℕ) → 0 < q → consumer_rest q (v ∷ vs) ≡ vs
rest_first zero v vs h = absurd (omega arith)
rest_first (suc q) v vs h = refl

-- What a turn answers, and the numbers and words after it
pub record Consumes (m : Memory) (x : Side) : Type 0 where
  pub answer : consumer_answer x.dp x.queue ≡ consumer_gives x.dp.queued (words_in m x)
  pub queued : (consume_step x.dp x.queue).queued ≡ x.dp.queued - 1
  pub lists : to_fetch (consume_step x.dp x.queue) ≡ to_fetch x.dp
  pub words : words_in m (consume_side x) ≡ consumer_rest x.dp.queued (words_in m x)

gives_some : (m : Memory) (x : Side) → consumes x.dp ≡ true → Consumes m x
unfolding dequeued framed
gives_some m x e =
    let s = x.dp in
    let v = oldest s x.queue in
    let q = consuming s e in
    let first = words_consumed m x e in
    let now = next_consumed s v e in
    record {
      answer = rw e (sym (ap (consumer_gives s.queued) first ∙ gives_first s.queued v (words_in m (took x)) q));
      queued = rw now;
      lists = rw now (same_lists s v);
      words = ap (words_in m) (side_consumed m x e)
          ∙ sym (ap (consumer_rest s.queued) first ∙ rest_first s.queued v (words_in m (took x)) q);
    }

gives_none : (m : Memory) (x : Side) → Fit x → consumes x.dp ≡ false → Consumes m x
gives_none m x g e =
    let s = x.dp in
    let q = none_queued x g e in
    let now = none_consumed s (oldest s x.queue) e in
    record {
      answer = rw e (sym (ap (λ (n : ℕ). consumer_gives n (words_in m x)) q));
      queued = rw now (omega (arith, q));
      lists = rw now;
      words = ap (words_in m) (side_kept x e) ∙ sym (ap (λ (n : ℕ). consumer_rest n (words_in m x)) q);
    }

pub consumer_gives_lem : (m : Memory) (x : Side) → Fit x → Consumes m x
consumer_gives_lem m x g = by (consumes x.dp) (gives_some m x) (gives_none m x g)
