-- Sound states with the same registers but for the slot of the oldest queued word, and the same words queued, are the same to every call.
use Prim.Native.Nat.{ℕ, zero, suc, ◌+◌, ◌-◌, ◌*◌, ◌<◌}
use mathlib.Core.Path.{◌≡◌, refl, sym, ap, ◌∙◌}
use mathlib.Core.Bool.{Bool, true, false, not, cond, ◌&&◌, ◌||◌}
use mathlib.Core.List.{List, [], ◌∷◌, ◌++◌, head-eq_of_cons-eq, tail-eq_of_cons-eq}
use native.Mathlib.Omega.{arith}
use lib.Dec.{eqb, ltb}
use Rattle.std.specs.Prelude.{Result, Ok, Err}
use Rattle.words.specs.Bits.{as_bit}
use Rattle.words.specs.Memory.{Memory, word_value, store_word, word_bytes}
use Rattle.words.proofs.Tests.{by, contradiction}
use Rattle.sp.specs.Registers.{sp_read, sp_read_next, sp_write, sp_break}
use Rattle.sp.specs.Turn.{sp_next, sp_move, sp_after, memory_after}
use Rattle.sp.specs.Rows.{row_turns}
use Rattle.dp.specs.declared.DpState.{DpState}
use Rattle.dp.specs.declared.DpRegister.{DpRegister}
use Rattle.dp.specs.declared.DpRegister.TheVariants.{Start, End, Current, Status, Clock, CmdBusy, PipeBusy, TmemBusy}
use Rattle.dp.specs.Lists.{runs, list_started, limit_moved, with_end, start_written, end_written, waiting_started}
use Rattle.dp.specs.Registers.{dp_read, dp_write, dp_tick, dp_acknowledge, modes_written, flushed, sets_flush, dp_status_written}
use Rattle.dp.specs.Queue.{words_from, queued_words, oldest}
use Rattle.dp.specs.Turn.{list_word, next_list_word, fetches, enqueued, advanced, followed, fetched, fetch_next, fetch_ring, consumes, framed, dequeued, consumed, consume_step}
use Rattle.dp.proofs.Queue.{words_first, puts_last}
use Rattle.dp.proofs.Cases.{ready, fetching, consuming}
use Rattle.dp.proofs.Listed.{next_fetched, next_still, ring_fetched, ring_still, next_consumed, none_consumed}
use Rattle.dp.proofs.Registers.{flush_written}
use Rattle.dp.proofs.Unchanged.{end_keeps, status_keeps_queue}
use Rattle.machine.specs.declared.State.{State}
use Rattle.machine.specs.declared.Outcome.{Outcome}
use Rattle.machine.specs.declared.Register.{Register}
use Rattle.machine.specs.declared.Register.TheVariants.{Sp, Dp}
use Rattle.machine.specs.declared.refusal.AddressError.{AddressError}
use Rattle.machine.specs.Sound.{with_dp, with_ring, sound}
use Rattle.machine.specs.Address.{register_at}
use Rattle.machine.specs.Refusals.{state_refusal, access_refusal, sp_refusal, dp_refusal, declined, ending, if_refused}
use Rattle.machine.specs.Calls.{read_at, write_at, read_register, write_register, tick, break, acknowledge}
use Rattle.machine.specs.Turns.{sp_turn, sp_turn_memory, dp_turn, consumer_turn}
use Rattle.machine.specs.Rows.{sp_row, sp_row_memory}
use Rattle.machine.specs.Runs.{Kind, sp, dp, consumer, Budgets, budgets, Run, begin, acts, took, tried, round, live, rounds, left, merged, end_of_run, run}
use Rattle.machine.specs.Look.{next_word_of, empty_of, shown, look}
use Rattle.machine.specs.Kept.{Kept}
use Rattle.bursts.specs.Bursts.{burst_refusal, writes_from, write_registers}
use Rattle.bursts.specs.Single.{Words32}
use Rattle.alike.specs.Alike.{without_slot, Alike, SameOutcome, SameRun, CallsAlike}
use Rattle.machine.proofs.Sound.{facts}
use Rattle.machine.proofs.Merged.{consumer_acts}
use Rattle.machine.proofs.Kept.{calls_keep_sound, turn_keeps}

-- Two choices by the same test are related where their arms are
choices : {A : Type 0} (R : A → A → Type 0) (b c : Bool) (x y u v : A) → b ≡ c → (b ≡ true → c ≡ true → R x u)
    → (b ≡ false → c ≡ false → R y v)
    → R (cond b x y) (cond c u v)
choices R true true x y u v e f g = f refl refl
choices R false false x y u v e f g = g refl refl
choices R true false x y u v e f g = contradiction refl e
choices R false true x y u v e f g = contradiction e refl

-- So are two by the same number of a call's checks
numbered : {A : Type 0} (R : A → A → Type 0) (n k : ℕ) (x y u v : A) → n ≡ k → R x u → R y v → R (if_refused n x y) (if_refused k u v)
numbered R zero zero x y u v e f g = g
numbered R (suc n) (suc k) x y u v e f g = f
numbered R zero (suc k) x y u v e f g = absurd (omega arith)
numbered R (suc n) zero x y u v e f g = absurd (omega arith)

-- ---- No operation on the registers looks at the slot

abbrev SameDp : DpState → DpState → Type 0
SameDp d e = without_slot d ≡ without_slot e

end_same : (d e : DpState) (v : ℕ) → SameDp d e → SameDp (end_written d v) (end_written e v)
unfolding end_written list_started limit_moved
end_same d e v p =
    choices SameDp d.startpending e.startpending _ _ _ _ (ap (λ (x : DpState). x.startpending) p)
    (λ _ _.
    choices SameDp (runs d || d.freeze) (runs e || e.freeze) _ _ _ _ (ap (λ (x : DpState). runs x || x.freeze) p)
    (λ _ _. ap (λ (x : DpState). without_slot (with_end x v true)) p)
    (λ _ _. ap (λ (x : DpState). without_slot (list_started (with_end x v x.endpending))) p))
    (λ _ _. ap (λ (x : DpState). without_slot (limit_moved (with_end x v x.endpending))) p)

waiting_same : (d e : DpState) → SameDp d e → SameDp (waiting_started d) (waiting_started e)
unfolding waiting_started list_started
waiting_same d e p =
    choices SameDp (ready d) (ready e) _ _ _ _ (ap ready p) (λ _ _. ap (λ (x : DpState). without_slot (list_started x)) p) (λ _ _. p)

status_same : (d e : DpState) (v : ℕ) → SameDp d e → SameDp (dp_status_written d v) (dp_status_written e v)
unfolding dp_status_written modes_written flushed
status_same d e v p =
    let f = sets_flush v in
    waiting_same (cond f (flushed (modes_written d v)) (modes_written d v)) (cond f (flushed (modes_written e v)) (modes_written e v))
    (choices SameDp f f _ _ _ _ refl (λ _ _. ap (λ (x : DpState). without_slot (flushed (modes_written x v))) p)
    (λ _ _. ap (λ (x : DpState). without_slot (modes_written x v)) p))

write_same : (r : DpRegister) (d e : DpState) (v : ℕ) → SameDp d e → SameDp (dp_write r d v) (dp_write r e v)
unfolding start_written
write_same Start d e v p = ap (λ (x : DpState). without_slot (start_written x v)) p
write_same End d e v p = end_same d e v p
write_same Current d e v p = p
write_same Status d e v p = status_same d e v p
write_same Clock d e v p = p
write_same CmdBusy d e v p = p
write_same PipeBusy d e v p = p
write_same TmemBusy d e v p = p

read_same : (r : DpRegister) (d e : DpState) → SameDp d e → dp_read r d ≡ dp_read r e
read_same Start d e p = ap (dp_read Start) p
read_same End d e p = ap (dp_read End) p
read_same Current d e p = ap (dp_read Current) p
read_same Status d e p = ap (dp_read Status) p
read_same Clock d e p = ap (dp_read Clock) p
read_same CmdBusy d e p = ap (dp_read CmdBusy) p
read_same PipeBusy d e p = ap (dp_read PipeBusy) p
read_same TmemBusy d e p = ap (dp_read TmemBusy) p

fetched_same : (d e : DpState) → SameDp d e → SameDp (fetched d) (fetched e)
unfolding followed advanced enqueued list_started
fetched_same d e p =
    let more : DpState → DpState = λ x. advanced (enqueued x) in
    let ends : DpState → Bool = λ x. not (runs (more x)) && x.endpending in
    choices SameDp (ends d) (ends e) _ _ _ _ (ap ends p) (λ _ _. ap (λ (x : DpState). without_slot (list_started (more x))) p)
    (λ _ _. ap (λ (x : DpState). without_slot (more x)) p)

consumed_same : (d e : DpState) (v : ℕ) → SameDp d e → SameDp (consumed d v) (consumed e v)
unfolding dequeued framed
consumed_same d e v p = ap (λ (x : DpState). without_slot (consumed x v)) p

-- The word at CURRENT
word_same : (d e : DpState) (rdram dmem : List ℕ) → SameDp d e → next_list_word d rdram dmem ≡ next_list_word e rdram dmem
unfolding list_word
word_same d e rdram dmem p = ap (λ (x : DpState). next_list_word x rdram dmem) p

-- ---- The words

-- A write that sets FLUSH
abbrev empties : DpRegister → ℕ → Bool
empties Status v = sets_flush v
empties Start v = false
empties End v = false
empties Current v = false
empties Clock v = false
empties CmdBusy v = false
empties PipeBusy v = false
empties TmemBusy v = false

-- It leaves none, and every other write leaves all
write_words : (r : DpRegister) (d : DpState) (v : ℕ) (ring : List ℕ)
    → queued_words (dp_write r d v) ring ≡ cond (empties r v) [] (queued_words d ring)
unfolding start_written words_from
write_words Start d v ring = refl
write_words End d v ring = let k = (end_keeps d v).1.queue in rw (k.queued, k.head)
write_words Current d v ring = refl
write_words Status d v ring =
    by (sets_flush v) (λ e. rw ((flush_written d v e).queued, e)) (λ e. let k = status_keeps_queue d v e in rw (k.queued, k.head, e))
write_words Clock d v ring = refl
write_words CmdBusy d v ring = refl
write_words PipeBusy d v ring = refl
write_words TmemBusy d v ring = refl

-- ---- Turns

-- Alike, but for soundness
record Same (s t : State) : Type 0 where
  sp : s.sp ≡ t.sp
  dp : SameDp s.dp t.dp
  words : queued_words s.dp s.queue ≡ queued_words t.dp t.queue

alike : {s t : State} → sound s ≡ true → sound t ≡ true → Same s t → Alike s t
alike g h k = record { first_sound = g; second_sound = h; sp = k.sp; dp = k.dp; words = k.words }

-- What a DP turn and a consumer turn leave
abbrev fetched_over : State → List ℕ → List ℕ → State
fetched_over s rdram dmem = with_ring s (fetch_next s.dp) (fetch_ring s.dp rdram dmem s.queue)

abbrev without_oldest : State → State
without_oldest s = with_dp s (consume_step s.dp s.queue)

module _ (s t : State) (a : Alike s t) where
  same : Same s t
  same = record { sp = a.sp; dp = a.dp; words = a.words }

  fetches_same : fetches s.dp ≡ fetches t.dp
  fetches_same = ap fetches a.dp

  consumes_same : consumes s.dp ≡ consumes t.dp
  consumes_same = ap consumes a.dp

  -- A fetch puts the same word last
  fetch_same : (rdram dmem : List ℕ) → Same (fetched_over s rdram dmem) (fetched_over t rdram dmem)
  fetch_same rdram dmem =
      let v = word_value (next_list_word s.dp rdram dmem) in
      let w = word_value (next_list_word t.dp rdram dmem) in
      let last : queued_words s.dp s.queue ++ (v ∷ []) ≡ queued_words t.dp t.queue ++ (w ∷ []) =
      rw (a.words, word_same s.dp t.dp rdram dmem a.dp) in
      by (fetches s.dp)
      (λ e.
      let f = sym fetches_same ∙ e in
      let d = next_fetched s.dp e in
      let d' = next_fetched t.dp f in
      record {
        sp = a.sp;
        dp = rw (d, d') (fetched_same s.dp t.dp a.dp);
        words = rw (d, d', ring_fetched s.dp rdram dmem s.queue e, ring_fetched t.dp rdram dmem t.queue f)
            (puts_last s.dp s.queue v (fetching s.dp e).room (facts s a.first_sound).slots
            ∙ last
            ∙ sym (puts_last t.dp t.queue w (fetching t.dp f).room (facts t a.second_sound).slots));
      })
      (λ e.
      let f = sym fetches_same ∙ e in
      let d = next_still s.dp e in
      let d' = next_still t.dp f in
      record {
        sp = a.sp;
        dp = rw (d, d') a.dp;
        words = rw (d, d', ring_still s.dp rdram dmem s.queue e, ring_still t.dp rdram dmem t.queue f) a.words;
      })

  -- The oldest words are the same, and so are the words behind them
  cut : consumes s.dp ≡ true
      → oldest s.dp s.queue ∷ queued_words (dequeued s.dp) s.queue
      ≡ oldest t.dp t.queue ∷ queued_words (dequeued t.dp) t.queue
  unfolding dequeued
  cut e =
      sym (words_first s.queue s.dp.head s.dp.queued (consuming s.dp e))
      ∙ a.words
      ∙ words_first t.queue t.dp.head t.dp.queued (consuming t.dp (sym consumes_same ∙ e))

  oldest_same : consumes s.dp ≡ true → oldest s.dp s.queue ≡ oldest t.dp t.queue
  oldest_same e = head-eq_of_cons-eq (cut e)

  consume_same : Same (without_oldest s) (without_oldest t)
  unfolding framed
  consume_same =
      let v = oldest s.dp s.queue in
      let w = oldest t.dp t.queue in
      by (consumes s.dp)
      (λ e.
      let f = sym consumes_same ∙ e in
      record {
        sp = a.sp;
        dp = rw (next_consumed s.dp v e, next_consumed t.dp w f)
            (consumed_same s.dp t.dp v a.dp ∙ ap (λ (x : ℕ). without_slot (consumed t.dp x)) (oldest_same e));
        words = rw (next_consumed s.dp v e, next_consumed t.dp w f) (tail-eq_of_cons-eq (cut e));
      })
      (λ e.
      let f = sym consumes_same ∙ e in
      record {
        sp = a.sp;
        dp = rw (none_consumed s.dp v e, none_consumed t.dp w f) a.dp;
        words = rw (none_consumed s.dp v e, none_consumed t.dp w f) a.words;
      })

-- ---- Calls

-- The same answer, and states that are the same
abbrev Agree : Outcome → Outcome → Type 0
Agree o p = (o.answer ≡ p.answer) × Same o.state p.state

same_call : (s t : State) (n k : ℕ) (o p : Outcome) → n ≡ k → Same s t → Agree o p
    → Agree (if_refused n (declined s n) o) (if_refused k (declined t k) p)
same_call s t n k o p e h g =
    numbered Agree n k (declined s n) o (declined t k) p e (ap (λ (x : ℕ). (declined s x).answer) e, h) g

same_outcome : {o p : Outcome} → sound o.state ≡ true → sound p.state ≡ true → Agree o p → SameOutcome o p
same_outcome g h k = record { answer = k.0; states = alike g h k.1 }

read_at_same : (r : Result Register AddressError) (s t : State) → Same s t
    → Agree (read_at r s) (read_at r t)
read_at_same (Ok (Sp r)) s t h =
    (λ i. record { number = 0; value = sp_read r (h.sp i); count = 0 }, record { sp = ap (sp_read_next r) h.sp; dp = h.dp; words = h.words })
read_at_same (Ok (Dp r)) s t h =
    (λ i. record { number = 0; value = read_same r s.dp t.dp h.dp i; count = 0 }, h)
read_at_same (Err why) s t h = (refl, h)

write_at_same : (r : Result Register AddressError) (s t : State) (v : ℕ) → Same s t
    → Agree (write_at r s v) (write_at r t v)
write_at_same (Ok (Sp r)) s t v h =
    (refl, record { sp = ap (λ x. sp_write r x v) h.sp; dp = h.dp; words = h.words })
write_at_same (Ok (Dp r)) s t v h = (
  refl,
  record {
    sp = h.sp;
    dp = write_same r s.dp t.dp v h.dp;
    words = write_words r s.dp v s.queue
        ∙ ap (λ (l : List ℕ). cond (empties r v) [] l) h.words
        ∙ sym (write_words r t.dp v t.queue);
  },
)
write_at_same (Err why) s t v h = (refl, h)

module _ (s t : State) (a : Alike s t) where
  kept_first : Kept s
  kept_first = calls_keep_sound s a.first_sound

  kept_second : Kept t
  kept_second = calls_keep_sound t a.second_sound

  both_sound : sound s ≡ sound t
  both_sound = a.first_sound ∙ sym a.second_sound

  -- The same number
  state_number : state_refusal s ≡ state_refusal t
  unfolding state_refusal
  state_number = rw both_sound

  access_number : (x : ℕ) → access_refusal s x ≡ access_refusal t x
  unfolding access_refusal
  access_number x = rw both_sound

  sp_number_lem : (m : Memory) → sp_refusal s m ≡ sp_refusal t m
  unfolding sp_refusal
  sp_number_lem m = rw both_sound

  dp_number_lem : (rdram dmem : List ℕ) → dp_refusal s rdram dmem ≡ dp_refusal t rdram dmem
  unfolding dp_refusal
  dp_number_lem rdram dmem = rw both_sound

  read_alike : (x : ℕ) → SameOutcome (read_register s x) (read_register t x)
  unfolding read_register
  read_alike x =
      same_outcome (kept_first.read x) (kept_second.read x)
      (same_call s t (access_refusal s x) (access_refusal t x) _ _ (access_number x) (same s t a) (read_at_same (register_at x) s t (same s t a)))

  write_alike : (x v : ℕ) → v < 0x100000000 → SameOutcome (write_register s x v) (write_register t x v)
  unfolding write_register
  write_alike x v fits =
      same_outcome (kept_first.write x v fits) (kept_second.write x v fits)
      (same_call s t (access_refusal s x) (access_refusal t x) _ _ (access_number x) (same s t a)
      (write_at_same (register_at x) s t v (same s t a)))

  tick_alike : (n : ℕ) → SameOutcome (tick s n) (tick t n)
  unfolding tick
  tick_alike n =
      same_outcome (kept_first.tick n) (kept_second.tick n)
      (same_call s t (state_refusal s) (state_refusal t) _ _ state_number (same s t a)
      (refl, record { sp = a.sp; dp = ap (λ (x : DpState). without_slot (dp_tick x n)) a.dp; words = a.words }))

  break_alike : SameOutcome (break s) (break t)
  unfolding break
  break_alike =
      same_outcome kept_first.break kept_second.break
      (same_call s t (state_refusal s) (state_refusal t) _ _ state_number (same s t a)
      (refl, record { sp = ap sp_break a.sp; dp = a.dp; words = a.words }))

  acknowledge_alike : SameOutcome (acknowledge s) (acknowledge t)
  unfolding acknowledge
  acknowledge_alike =
      same_outcome kept_first.acknowledge kept_second.acknowledge
      (same_call s t (state_refusal s) (state_refusal t) _ _ state_number (same s t a)
      (refl, record { sp = a.sp; dp = ap (λ (x : DpState). without_slot (dp_acknowledge x)) a.dp; words = a.words }))

  sp_turn_alike : (m : Memory) → SameOutcome (sp_turn s m) (sp_turn t m)
  unfolding sp_turn
  sp_turn_alike m =
      same_outcome (kept_first.sp_turn m) (kept_second.sp_turn m)
      (same_call s t (sp_refusal s m) (sp_refusal t m) _ _ (sp_number_lem m) (same s t a)
      (λ i. record { number = 0; value = 0; count = as_bit (a.sp i).busy }, record { sp = ap sp_next a.sp; dp = a.dp; words = a.words }))

  sp_turn_bytes : (m : Memory) → sp_turn_memory s m ≡ sp_turn_memory t m
  unfolding sp_turn_memory
  sp_turn_bytes m = λ i. if_refused (sp_number_lem m i) m (sp_move (a.sp i) m)

  sp_row_alike : (m : Memory) → SameOutcome (sp_row s m) (sp_row t m)
  unfolding sp_row
  sp_row_alike m =
      same_outcome (kept_first.sp_row m) (kept_second.sp_row m)
      (same_call s t (sp_refusal s m) (sp_refusal t m) _ _ (sp_number_lem m) (same s t a) (
        λ i. record { number = 0; value = 0; count = row_turns (a.sp i) },
        record { sp = λ i. sp_after (row_turns (a.sp i)) (a.sp i); dp = a.dp; words = a.words },
      ))

  sp_row_bytes : (m : Memory) → sp_row_memory s m ≡ sp_row_memory t m
  unfolding sp_row_memory
  sp_row_bytes m = λ i. if_refused (sp_number_lem m i) m (memory_after (row_turns (a.sp i)) (a.sp i) m)

  dp_turn_alike : (rdram dmem : List ℕ) → SameOutcome (dp_turn s rdram dmem) (dp_turn t rdram dmem)
  unfolding dp_turn
  dp_turn_alike rdram dmem =
      same_outcome (kept_first.dp_turn rdram dmem) (kept_second.dp_turn rdram dmem)
      (same_call s t (dp_refusal s rdram dmem) (dp_refusal t rdram dmem) _ _ (dp_number_lem rdram dmem) (same s t a)
      (λ i. record { number = 0; value = 0; count = as_bit (fetches_same s t a i) }, fetch_same s t a rdram dmem))

  handed_same : cond (consumes s.dp) (oldest s.dp s.queue) 0 ≡ cond (consumes t.dp) (oldest t.dp t.queue) 0
  handed_same =
      choices (λ (x y : ℕ). x ≡ y) (consumes s.dp) (consumes t.dp) _ _ _ _ (consumes_same s t a)
      (λ e _. oldest_same s t a e)
      (λ _ _. refl)

  consumer_turn_alike : SameOutcome (consumer_turn s) (consumer_turn t)
  unfolding consumer_turn
  consumer_turn_alike =
      same_outcome kept_first.consumer_turn kept_second.consumer_turn
      (same_call s t (state_refusal s) (state_refusal t) _ _ state_number (same s t a)
      (λ i. record { number = 0; value = handed_same i; count = as_bit (consumes_same s t a i) }, consume_same s t a))

  look_same : (rdram dmem : List ℕ) → look s rdram dmem ≡ look t rdram dmem
  unfolding look
  look_same rdram dmem =
      λ i. let d = a.dp i in cond (eqb (dp_number_lem rdram dmem i) 0 && shown d rdram dmem) (next_word_of d) (empty_of d)

-- ---- Runs

-- Two runs that stand alike: the same memory, output and counts
record Together (r q : Run) : Type 0 where
  states : Alike r.state q.state
  memory : r.memory ≡ q.memory
  out : r.out ≡ q.out
  moved : r.moved ≡ q.moved
  fetched : r.fetched ≡ q.fetched
  words : r.words ≡ q.words

acts_same : (b : Budgets) (k : Kind) (r q : Run) → Together r q → acts b k r ≡ acts b k q
acts_same b sp r q h = λ i. ltb (h.moved i) b.sp && (h.states.sp i).busy
acts_same b dp r q h = λ i. ltb (h.fetched i) b.dp && fetches_same r.state q.state h.states i
acts_same b consumer r q h = λ i. ltb (h.words i) b.consumer && consumes_same r.state q.state h.states i

-- What the turn leaves is alike
took_alike : (b : Budgets) (k : Kind) (r q : Run) → Together r q → acts b k r ≡ true → acts b k q ≡ true
    → Same (took k r).state (took k q).state
    → Alike (took k r).state (took k q).state
took_alike b k r q h e f g =
    alike (turn_keeps b k r e h.states.first_sound) (turn_keeps b k q f h.states.second_sound) g

took_same : (b : Budgets) (k : Kind) (r q : Run) → Together r q → acts b k r ≡ true → acts b k q ≡ true → Together (took k r) (took k q)
took_same b sp r q h e f = record {
  states = took_alike b sp r q h e f (record { sp = ap sp_next h.states.sp; dp = h.states.dp; words = h.states.words });
  memory = λ i. sp_move (h.states.sp i) (h.memory i);
  out = h.out;
  moved = ap (λ (n : ℕ). n + 1) h.moved;
  fetched = h.fetched;
  words = h.words;
}
took_same b dp r q h e f = record {
  states = took_alike b dp r q h e f
      (rw h.memory (fetch_same r.state q.state h.states q.memory.rdram q.memory.dmem));
  memory = h.memory;
  out = h.out;
  moved = h.moved;
  fetched = ap (λ (n : ℕ). n + 1) h.fetched;
  words = h.words;
}
took_same b consumer r q h e f =
    let v = oldest_same r.state q.state h.states (consumer_acts b r e).1 in
    record {
      states = took_alike b consumer r q h e f (consume_same r.state q.state h.states);
      memory = h.memory;
      out = λ i. store_word (h.out i) (h.words i * 8) (word_bytes (v i));
      moved = h.moved;
      fetched = h.fetched;
      words = ap (λ (n : ℕ). n + 1) h.words;
    }

tried_same : (b : Budgets) (k : Kind) (r q : Run) → Together r q → Together (tried b k r) (tried b k q)
unfolding tried
tried_same b k r q h = choices Together (acts b k r) (acts b k q) _ _ _ _ (acts_same b k r q h) (took_same b k r q h) (λ _ _. h)

round_same : (b : Budgets) (r q : Run) → Together r q → Together (round b r) (round b q)
unfolding round
round_same b r q h =
    let x = tried_same b sp r q h in
    let y = tried_same b dp (tried b sp r) (tried b sp q) x in
    tried_same b consumer (tried b dp (tried b sp r)) (tried b dp (tried b sp q)) y

live_same : (b : Budgets) (r q : Run) → Together r q → live b r ≡ live b q
live_same b r q h = λ i. acts_same b sp r q h i || acts_same b dp r q h i || acts_same b consumer r q h i

rounds_same : (n : ℕ) (b : Budgets) (r q : Run) → Together r q → Together (rounds n b r) (rounds n b q)
unfolding rounds
rounds_same zero b r q h = h
rounds_same (suc n) b r q h =
    choices Together (live b r) (live b q) _ _ _ _ (live_same b r q h)
    (λ _ _. rounds_same n b (round b r) (round b q) (round_same b r q h))
    (λ _ _. h)

merged_same : (b : Budgets) (r q : Run) → Together r q → Together (merged b r) (merged b q)
unfolding merged
merged_same b r q h =
    let e : left b r ≡ left b q = λ i. (b.sp - h.moved i) + (b.dp - h.fetched i) + (b.consumer - h.words i) in
    rw e (rounds_same (left b q) b r q h)

module _ (s t : State) (h : Alike s t) (a b c : ℕ) (m : Memory) (out : List ℕ) where
  begins : Together (begin s m out) (begin t m out)
  begins = record { states = h; memory = refl; out = refl; moved = refl; fetched = refl; words = refl }

  -- A declined run ends where it began
  end_together : Together (end_of_run s a b c m out) (end_of_run t a b c m out)
  unfolding end_of_run
  end_together =
      numbered Together (sp_refusal s m) (sp_refusal t m) _ _ _ _ (sp_number_lem s t h m) begins
      (merged_same (budgets a b c out) (begin s m out) (begin t m out) begins)

  run_alike : SameRun s t a b c m out
  unfolding run
  run_alike =
      let e = end_together in
      record {
        outcome = record { answer = λ i. record { number = sp_number_lem s t h m i; value = 0; count = e.moved i }; states = e.states };
        words = e.words;
        bytes = e.memory;
        output = e.out;
      }

-- ---- A burst

same_ending : (s t : State) (n k c : ℕ) → n ≡ k → Alike s t → SameOutcome (ending s n c) (ending t k c)
same_ending s t n k c e h = record { answer = λ i. record { number = e i; value = 0; count = c }; states = h }

writes_alike : (k : ℕ) (xs vs : List ℕ) (s t : State) → Alike s t → Words32 vs → SameOutcome (writes_from k xs vs s) (writes_from k xs vs t)
unfolding writes_from
writes_alike k [] vs s t h f = same_ending s t 0 0 k refl h
writes_alike k (a ∷ xs) [] s t h f = same_ending s t 0 0 k refl h
writes_alike k (a ∷ xs) (v ∷ vs) s t h f =
    let o = write_register s a v in
    let p = write_register t a v in
    let w = write_alike s t h a v (f 0) in
    let e : o.answer.number ≡ p.answer.number = λ i. (w.answer i).number in
    numbered SameOutcome o.answer.number p.answer.number _ _ _ _ e
    (same_ending s t o.answer.number p.answer.number k e h)
    (writes_alike (suc k) xs vs o.state p.state w.states (λ i. f (suc i)))

burst_alike : (s t : State) → Alike s t → (xs vs : List ℕ) → Words32 vs → SameOutcome (write_registers s xs vs) (write_registers t xs vs)
unfolding write_registers burst_refusal
burst_alike s t h xs vs f =
    let e : burst_refusal s xs vs ≡ burst_refusal t xs vs = rw (state_number s t h) in
    numbered SameOutcome (burst_refusal s xs vs) (burst_refusal t xs vs) _ _ _ _ e
    (same_ending s t (burst_refusal s xs vs) (burst_refusal t xs vs) 0 e h)
    (writes_alike 0 xs vs s t h f)

-- ---- All of them

pub calls_alike : (s t : State) → Alike s t → CallsAlike s t
calls_alike s t a = record {
  read = read_alike s t a;
  write = write_alike s t a;
  burst = burst_alike s t a;
  tick = tick_alike s t a;
  break = break_alike s t a;
  acknowledge = acknowledge_alike s t a;
  sp_turn = sp_turn_alike s t a;
  sp_turn_bytes = sp_turn_bytes s t a;
  sp_row = sp_row_alike s t a;
  sp_row_bytes = sp_row_bytes s t a;
  dp_turn = dp_turn_alike s t a;
  consumer_turn = consumer_turn_alike s t a;
  run = run_alike s t a;
  look = look_same s t a;
}
