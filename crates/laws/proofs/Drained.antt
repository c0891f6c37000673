-- Demand 3 over two series that leave nothing. Four quantities of the DP's registers and its queue, taken over the memory of the outset, are
-- left alone by every turn: the words consumed so far with those yet to consume, the registers once all is fetched and consumed, the queue's
-- slots then, and PIPE_BUSY then. Where nothing is left they are the registers and the slots themselves. The SP and the memory depend on the
-- SP's turns alone.
use Prim.Native.Nat.{ℕ, zero, suc, ◌+◌, ◌-◌, ◌%◌, ◌<◌}
use mathlib.Core.Path.{◌≡◌, refl, sym, ap, ◌∙◌}
use mathlib.Core.Bool.{Bool, true, false, not, ◌&&◌}
use mathlib.Core.List.{List, [], ◌∷◌, ◌++◌, append_assoc, append-nil}
use native.Mathlib.Omega.{arith}
use lib.ListN.{length}
use Rattle.words.specs.Memory.{Memory}
use Rattle.words.proofs.Tests.{by}
use Rattle.dp.specs.declared.DpState.{DpState}
use Rattle.dp.specs.Queue.{words_from, queued_words, oldest}
use Rattle.dp.specs.Turn.{fetches, fetched, consumes, dequeued, framed, left_after, sync_full}
use Rattle.dp.specs.Listed.{to_fetch, listed_words}
use Rattle.dp.proofs.Cases.{consuming}
use Rattle.dp.proofs.Queue.{filled, filled_none, filled_one, filled_round}
use Rattle.dp.proofs.Listed.{fetched_keeps, same_lists, same_listed}
use Rattle.machine.specs.declared.State.{State}
use Rattle.machine.proofs.Sound.{facts}
use Rattle.laws.specs.World.{World, world}
use Rattle.laws.specs.Order.{CONSUMER, Turn, sp, dp, consumer, sp_wrong, dp_wrong, leaves_all, answers_of, words_of, Outset, Drained, Drains, LateSync, without_pipe, Demand3Drained}
use Rattle.laws.proofs.Answers.{sp_number, dp_number}
use Rattle.laws.proofs.Drawn.{Side, side_of, fetch_side, consume_side, drawn_by, drawn, taken_by, taken, listed_in, words_in, Fit, word_in, put, fetch_first, side_fetched, listed_next, words_fetched, fit_fetched, side_still, took, side_consumed, words_consumed, fit_consumed, side_kept}
use Rattle.laws.proofs.Final.{calm, final, final_fetched, final_consumed, final_none}
use Rattle.laws.proofs.Order.{sp_own, every, same_own, same_sp_answers}

-- ---- The four quantities

abbrev final_dp : Memory → Side → DpState
final_dp m x = final (length (to_fetch x.dp)) (words_in m x) x.dp

abbrev final_ring : Memory → Side → List ℕ
final_ring m x = filled x.queue (x.dp.head + x.dp.queued) (listed_in m x)

-- The last of the words is a SYNC_FULL
abbrev last_sync : ℕ → List ℕ → Bool
last_sync left [] = false
last_sync left (v ∷ []) = sync_full left v
last_sync left (v ∷ u ∷ us) = last_sync (left_after left v) (u ∷ us)

-- PIPE_BUSY after the fetches of the words xs, where p was before
abbrev or_any : List ℕ → Bool → Bool
or_any [] p = p
or_any (x ∷ xs) p = true

abbrev final_pipe : Memory → Side → Bool
final_pipe m x = not (last_sync x.dp.wordsleft (words_in m x)) && or_any (listed_in m x) x.dp.pipebusy

abbrev Late : Memory → Side → Type 0
Late m x = LateSync x.dp.wordsleft (words_in m x)

-- From x to y, where the words out were consumed
record Kept (m : Memory) (x y : Side) (out : List ℕ) : Type 0 where
  words : out ++ words_in m y ≡ words_in m x
  dp : final_dp m y ≡ final_dp m x
  ring : final_ring m y ≡ final_ring m x
  pipe : Late m x → (final_pipe m y ≡ final_pipe m x) × Late m y

kept_still : (m : Memory) (x : Side) → Kept m x x []
kept_still m x = record { words = refl; dp = refl; ring = refl; pipe = λ l. (refl, l) }

then : (m : Memory) (x y z : Side) (o p : List ℕ) → Kept m x y o → Kept m y z p → Kept m x z (o ++ p)
then m x y z o p k l = record {
  words = append_assoc o p (words_in m z) ∙ ap (λ (vs : List ℕ). o ++ vs) l.words ∙ k.words;
  dp = l.dp ∙ k.dp;
  ring = l.ring ∙ k.ring;
  pipe = λ late. let a = k.pipe late in let b = l.pipe a.1 in (b.0 ∙ a.0, b.1);
}

-- ---- A fetch keeps them

any_true : (xs : List ℕ) → or_any xs true ≡ true
any_true [] = refl
any_true (x ∷ xs) = refl

-- PIPE_BUSY comes on, and the words yet to consume stay
pipe_fetched : (left left' : ℕ) (ws ws' xs xs' : List ℕ) (v : ℕ) (p p' : Bool) → left' ≡ left → ws' ≡ ws → p' ≡ true → xs ≡ v ∷ xs'
    → LateSync left ws
    → (not (last_sync left' ws') && or_any xs' p' ≡ not (last_sync left ws) && or_any xs p) × LateSync left' ws'
pipe_fetched left left' ws ws' xs xs' v p p' a b c e late = (rw (a, b, c, any_true xs', e), rw (a, b) late)

kept_fetched : (m : Memory) (x : Side) → Fit x → fetches x.dp ≡ true → Kept m x (put m x) []
kept_fetched m x g e =
    let y = put m x in
    let k = fetched_keeps x.dp in
    let i = x.dp.head + x.dp.queued in
    let same = words_fetched m x g e in
    let next : (fetched x.dp).head + (fetched x.dp).queued ≡ i + 1 = rw (k.head, k.queued) (omega arith) in
    record {
      words = same;
      dp = final_fetched (length (to_fetch y.dp)) (words_in m y) x.dp
          ∙ ap (λ (l : List ℕ). final (length l) (words_in m y) x.dp) (sym (fetch_first x.dp g.dp e))
          ∙ ap (λ (l : List ℕ). final (length (to_fetch x.dp)) l x.dp) same;
      ring = ap (λ (n : ℕ). filled y.queue n (listed_in m y)) next
          ∙ sym (filled_one x.queue i (word_in m x) (listed_in m y))
          ∙ ap (filled x.queue i) (sym (listed_next m x g e));
      pipe = pipe_fetched x.dp.wordsleft y.dp.wordsleft (words_in m x) (words_in m y) (listed_in m x) (listed_in m y) (word_in m x)
          x.dp.pipebusy y.dp.pipebusy k.wordsleft same k.pipebusy (listed_next m x g e);
    }

-- ---- A consumed word keeps them

swap : (p b : Bool) → p && not b ≡ not b && p
swap true true = refl
swap true false = refl
swap false true = refl
swap false false = refl

and_on : (p : Bool) → p && true ≡ p
and_on true = refl
and_on false = refl

-- v leaves, and `ws` is what follows it
pipe_rest : (left v : ℕ) (ws xs : List ℕ) (p : Bool) → (ws ≡ [] → xs ≡ []) → LateSync left (v ∷ ws)
    → (not (last_sync (left_after left v) ws) && or_any xs (p && not (sync_full left v)) ≡ not (last_sync left (v ∷ ws)) && or_any xs p)
    × LateSync (left_after left v) ws
pipe_rest left v [] xs p h l = (rw (h refl) (swap p (sync_full left v)), tt)
pipe_rest left v (u ∷ us) xs p h l = (rw (l.0, and_on p), l.1)

pipe_consumed : (left v : ℕ) (ws' ws xs xs' : List ℕ) (p : Bool) → v ∷ ws' ≡ ws → xs' ≡ xs → (ws' ≡ [] → xs' ≡ []) → LateSync left ws
    → (not (last_sync (left_after left v) ws') && or_any xs' (p && not (sync_full left v)) ≡ not (last_sync left ws) && or_any xs p)
    × LateSync (left_after left v) ws'
pipe_consumed left v ws' ws xs xs' p a b h late = rw (← a, ← b) (pipe_rest left v ws' xs' p h (rw (← a) at late))

end_nil : (vs xs : List ℕ) → vs ++ xs ≡ [] → xs ≡ []
end_nil [] xs e = e
end_nil (v ∷ vs) xs e = cc

kept_consumed : (m : Memory) (x : Side) → consumes x.dp ≡ true → Kept m x (took x) (oldest x.dp x.queue ∷ [])
unfolding dequeued framed
kept_consumed m x e =
    let v = oldest x.dp x.queue in
    let y = took x in
    let n = length (to_fetch x.dp) in
    let some = consuming x.dp e in
    let first = sym (words_consumed m x e) in
    let same = same_listed x.dp v m.rdram m.dmem in
    record {
      words = first;
      dp = ap (λ (l : List ℕ). final (length l) (words_in m y) y.dp) (same_lists x.dp v)
          ∙ final_consumed n v (words_in m y) x.dp some
          ∙ ap (λ (l : List ℕ). final n l x.dp) first;
      ring = ap (filled x.queue (y.dp.head + y.dp.queued)) same
          ∙ filled_round x.queue (y.dp.head + y.dp.queued) (x.dp.head + x.dp.queued) (listed_in m x)
          (index x.dp.head x.dp.queued some);
      pipe = pipe_consumed x.dp.wordsleft v (words_in m y) (words_in m x) (listed_in m x) (listed_in m y) x.dp.pipebusy first same
          (end_nil (queued_words y.dp x.queue) (listed_in m y));
    }
  where
    index : (h q : ℕ) → 0 < q → ((h + 1) % 32 + (q - 1)) % 32 ≡ (h + q) % 32
    index h q s = omega arith

-- ---- Every turn, and every series

record Step (m : Memory) (x y : Side) (out : List ℕ) : Type 0 where
  kept : Kept m x y out
  fit : Fit y

still : (m : Memory) (x : Side) → Fit x → Step m x x []
still m x g = record { kept = kept_still m x; fit = g }

fetch_step : (m : Memory) (x : Side) → Fit x → Step m x (fetch_side m x) []
fetch_step m x g =
    by (fetches x.dp)
    (λ e. rw (side_fetched m x g e) (record { kept = kept_fetched m x g e; fit = fit_fetched m x g e }))
    (λ e. rw (side_still m x e) (still m x g))

consume_step_lem : (m : Memory) (x : Side) → Fit x → Step m x (consume_side x) (taken_by consumer x)
consume_step_lem m x g =
    by (consumes x.dp)
    (λ e. rw (side_consumed m x e, e) (record { kept = kept_consumed m x e; fit = fit_consumed m x e g }))
    (λ e. rw (side_kept x e, e) (still m x g))

turn_step : (r : ℕ) (m : Memory) (t : Turn) (x : Side) → Fit x → Step m x (drawn_by r m t x) (taken_by t x)
turn_step r m sp x g = still m x g
turn_step zero m dp x g = fetch_step m x g
turn_step (suc r) m dp x g = still m x g
turn_step r m consumer x g = consume_step_lem m x g
turn_step r m (sp_wrong n h) x g = still m x g
turn_step r m (dp_wrong rdram dmem h) x g = still m x g

all_kept : (r : ℕ) (m : Memory) (ts : List Turn) (x : Side) → Fit x → Kept m x (drawn r m ts x) (taken r m ts x)
unfolding drawn taken
all_kept r m [] x g = kept_still m x
all_kept r m (t ∷ ts) x g =
    let s = turn_step r m t x g in
    let y = drawn_by r m t x in
    then m x y (drawn r m ts y) (taken_by t x) (taken r m ts y) s.kept (all_kept r m ts y s.fit)

-- ---- The end, where nothing is left

record End (m : Memory) (x y : Side) (out : List ℕ) : Type 0 where
  words : out ≡ words_in m x
  dp : calm y.dp ≡ final_dp m x
  ring : y.queue ≡ final_ring m x
  pipe : Late m x → y.dp.pipebusy ≡ final_pipe m x

none_listed : (m : Memory) (y : Side) → to_fetch y.dp ≡ [] → listed_in m y ≡ []
unfolding listed_words
none_listed m y e = rw e

none_queued : (s : DpState) (ring : List ℕ) → s.queued ≡ 0 → queued_words s ring ≡ []
unfolding words_from
none_queued s ring e = rw e

at_end : (m : Memory) (x y : Side) (out : List ℕ) → to_fetch y.dp ≡ [] → y.dp.queued ≡ 0 → Kept m x y out → End m x y out
at_end m x y out lists queue k =
    let none = none_listed m y lists in
    let nothing : words_in m y ≡ [] = rw (none_queued y.dp y.queue queue, none) in
    record {
      words = sym (append-nil out) ∙ ap (λ (l : List ℕ). out ++ l) (sym nothing) ∙ k.words;
      dp = sym (final_none y.dp)
          ∙ ap (λ (l : List ℕ). final 0 l y.dp) (sym nothing)
          ∙ ap (λ (l : List ℕ). final (length l) (words_in m y) y.dp) (sym lists)
          ∙ k.dp;
      ring = sym (filled_none y.queue (y.dp.head + y.dp.queued))
          ∙ ap (filled y.queue (y.dp.head + y.dp.queued)) (sym none)
          ∙ k.ring;
      pipe = λ late. pipe-end y.dp.wordsleft (words_in m y) (listed_in m y) y.dp.pipebusy nothing none ∙ (k.pipe late).0;
    }
  where
    pipe-end : (left : ℕ) (ws xs : List ℕ) (p : Bool) → ws ≡ [] → xs ≡ [] → p ≡ not (last_sync left ws) && or_any xs p
    pipe-end left ws xs p a b = rw (a, b)

-- ---- Demand 3

same_dp : (s t : DpState) → calm s ≡ calm t → s.pipebusy ≡ t.pipebusy → s ≡ t
same_dp s t e p = λ i. record {
  start = (e i).start;
  «end» = (e i).end;
  current = (e i).current;
  limit = (e i).limit;
  startpending = (e i).startpending;
  endpending = (e i).endpending;
  xbus = (e i).xbus;
  freeze = (e i).freeze;
  flush = (e i).flush;
  pipebusy = p i;
  wordsleft = (e i).wordsleft;
  queued = (e i).queued;
  head = (e i).head;
  line = (e i).line;
  clock = (e i).clock;
  cmdcount = (e i).cmdcount;
  pipecount = (e i).pipecount;
  tmemcount = (e i).tmemcount;
}

module _ (w : World) (o : Outset w) where
  -- What the series ts makes of the DP and its queue
  abbrev made : List Turn → Side
  made ts = drawn (dp_number w) w.memory ts (side_of w.state)

  side_is : (ts : List Turn) → side_of (leaves_all ts w).state ≡ made ts
  side_is ts = ap (λ (v : World). side_of v.state) (every w o ts).end

  fit : Fit (side_of w.state)
  fit = let h = facts w.state o.is_sound in record { dp = h.dp; slots = h.slots; freeze_off = o.freeze_off }

  end_of : (ts : List Turn) → Drained (leaves_all ts w)
      → End w.memory (side_of w.state) (side_of (leaves_all ts w).state) (words_of (answers_of CONSUMER ts w))
  end_of ts d =
      let x = side_of w.state in
      let k = all_kept (dp_number w) w.memory ts x fit in
      at_end w.memory x (side_of (leaves_all ts w).state) (words_of (answers_of CONSUMER ts w)) d.none_to_fetch d.none_queued
      (rw (side_is ts, (every w o ts).words) k)

  -- The SP and the memory are those of as many SP turns
  same_sp : (ts us : List Turn) → sp_own (sp_number w) ts ≡ sp_own (sp_number w) us → (leaves_all ts w).state.sp ≡ (leaves_all us w).state.sp
  same_sp ts us e =
      ap (λ (v : World). v.state.sp) (every w o ts).end ∙ rw e (sym (ap (λ (v : World). v.state.sp) (every w o us).end))

  same_memory : (ts us : List Turn) → sp_own (sp_number w) ts ≡ sp_own (sp_number w) us → (leaves_all ts w).memory ≡ (leaves_all us w).memory
  same_memory ts us e = ap (λ (v : World). v.memory) (every w o ts).end ∙ rw e (sym (ap (λ (v : World). v.memory) (every w o us).end))

same_state : (s t : State) → s.sp ≡ t.sp → s.dp ≡ t.dp → s.queue ≡ t.queue → s ≡ t
same_state s t p q r = λ i. record { sp = p i; dp = q i; queue = r i }

pub demand3_drained : (w : World) → Outset w → (ts us : List Turn) → Drains w ts us → Demand3Drained w ts us
demand3_drained w o ts us d =
    let a = end_of w o ts d.first in
    let b = end_of w o us d.second in
    let v = leaves_all ts w in
    let u = leaves_all us w in
    let n = same_own w o ts us d.same_sp_turns in
    let sameSp : v.state.sp ≡ u.state.sp = same_sp w o ts us n in
    let same_memory : v.memory ≡ u.memory = same_memory w o ts us n in
    let sameQueue : v.state.queue ≡ u.state.queue = a.ring ∙ sym b.ring in
    let sameDp : calm v.state.dp ≡ calm u.state.dp = a.dp ∙ sym b.dp in
    record {
      words = a.words;
      same_words = a.words ∙ sym b.words;
      same_answers = same_sp_answers w o ts us d.same_sp_turns;
      same_memory = same_memory;
      same_state = same_state (without_pipe v.state) (without_pipe u.state) sameSp sameDp sameQueue;
      same_end = λ late i.
          world (same_state v.state u.state sameSp
          (same_dp v.state.dp u.state.dp sameDp (a.pipe late ∙ sym (b.pipe late))) sameQueue i) (same_memory i);
    }
