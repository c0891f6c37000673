-- One round of a merged run by its turns, and the loops over rounds.
use Rattle.std.proofs.Common.{◌≡◌, ℕ, ◌<◌, Bool, true, false, ◌||◌, ltb, List, sym, refl, ap, ◌∙◌}
use Rattle.words.specs.declared.stepped.Stepped.{Stepped}
use Rattle.words.specs.Memory.{Memory}
use Rattle.words.proofs.Tests.{by, and_true}
use Rattle.sp.specs.declared.SpState.{SpState}
use Rattle.dp.specs.declared.DpState.{DpState}
use Rattle.sp.specs.Tried.{SpTried}
use Rattle.dp.specs.Turn.{fetches, consumes}
use Rattle.dp.specs.Tried.{FetchTried, ConsumeTried}
use Rattle.dp.specs.Queue.{oldest}
use Rattle.dp.proofs.Listed.{next_fetched, ring_fetched, next_consumed}
use Rattle.machine.specs.declared.Outcome.{Outcome}
use Rattle.machine.specs.Refusals.{accepted}
use Rattle.machine.specs.Runs.{sp, dp, consumer, Budgets, Run, acts, tried, round, live, left, merged}
use Rattle.machine.proofs.Merged.{none_of, tried_on, tried_off, round_less, merged_round, merged_done}
use Rattle.runs.specs.Standing.{both, standing, EndsAt}

-- ---- A round, by what the code has after each of its turns

module _ (b : Budgets) (r : Run) where
  sp_tried : {x : Stepped SpState} {m : Memory} → SpTried r.state.sp r.moved b.sp r.memory x m
      → standing x.state r.state.dp r.state.queue m r.out x.count r.fetched r.words ≡ tried b sp r
  sp_tried h =
      by (acts b sp r) (λ e. rw (h.registers, h.bytes, e, tried_on b sp r e)) (λ e. rw (h.registers, h.bytes, e, tried_off b sp r e))

  fetch_tried : {y : Stepped DpState} {queue : List ℕ}
      → FetchTried r.state.dp r.fetched b.dp r.memory.rdram r.memory.dmem r.state.queue y queue
      → standing r.state.sp y.state queue r.memory r.out r.moved y.count r.words ≡ tried b dp r
  fetch_tried h =
      let d = r.state.dp in
      let m = r.memory in
      by (acts b dp r)
      (λ e.
      let f = (and_true (ltb r.fetched b.dp) (fetches d) e).1 in
      rw (h.registers, h.slots, e, tried_on b dp r e, next_fetched d f, ring_fetched d m.rdram m.dmem r.state.queue f))
      (λ e. rw (h.registers, h.slots, e, tried_off b dp r e))

  consume_tried : {z : Stepped DpState} {out : List ℕ} → ConsumeTried r.state.dp r.words b.consumer r.state.queue r.out z out
      → standing r.state.sp z.state r.state.queue r.memory out r.moved r.fetched z.count ≡ tried b consumer r
  consume_tried h =
      let d = r.state.dp in
      by (acts b consumer r)
      (λ e.
      let f = (and_true (ltb r.words b.consumer) (consumes d) e).1 in
      rw (h.registers, h.output, e, tried_on b consumer r e, next_consumed d (oldest d r.state.queue) f))
      (λ e. rw (h.registers, h.output, e, tried_off b consumer r e))

drawn_of : (b : Budgets) (r : Run) {y z : Stepped DpState} {queue out : List ℕ}
    → FetchTried r.state.dp r.fetched b.dp r.memory.rdram r.memory.dmem r.state.queue y queue
    → ConsumeTried y.state r.words b.consumer queue r.out z out
    → standing r.state.sp z.state queue r.memory out r.moved y.count z.count ≡ tried b consumer (tried b dp r)
drawn_of b r {y} {z} {queue} g h =
    consume_tried b (standing r.state.sp y.state queue r.memory r.out r.moved y.count r.words) h
    ∙ ap (tried b consumer) (fetch_tried b r g)

pub round_of : (b : Budgets) (r : Run) {x : Stepped SpState} {y z : Stepped DpState} {m : Memory} {queue out : List ℕ}
    → SpTried r.state.sp r.moved b.sp r.memory x m
    → FetchTried r.state.dp r.fetched b.dp m.rdram m.dmem r.state.queue y queue
    → ConsumeTried y.state r.words b.consumer queue r.out z out
    → standing x.state z.state queue m out x.count y.count z.count ≡ round b r
unfolding round
round_of b r {x} {m = m} f g h =
    drawn_of b (standing x.state r.state.dp r.state.queue m r.out x.count r.fetched r.words) g h
    ∙ ap (λ (q : Run). tried b consumer (tried b dp q)) (sp_tried b r f)

-- Where the SP's turn is passed over, a round is the other two
pub list_round_of : (b : Budgets) (r : Run) {y z : Stepped DpState} {queue out : List ℕ} → acts b sp r ≡ false
    → FetchTried r.state.dp r.fetched b.dp r.memory.rdram r.memory.dmem r.state.queue y queue
    → ConsumeTried y.state r.words b.consumer queue r.out z out
    → standing r.state.sp z.state queue r.memory out r.moved y.count z.count ≡ round b r
unfolding round
list_round_of b r e g h = drawn_of b r g h ∙ ap (λ (q : Run). tried b consumer (tried b dp q)) (sym (tried_off b sp r e))

-- Where these two are passed over, it is the SP's
pub sp_round_of : (b : Budgets) (r : Run) {on : Bool} {x : Stepped SpState} {m : Memory} → on ≡ (acts b dp r || acts b consumer r) → on ≡ false
    → SpTried r.state.sp r.moved b.sp r.memory x m
    → standing x.state r.state.dp r.state.queue m r.out x.count r.fetched r.words ≡ round b r
unfolding round
sp_round_of b r {x = x} {m} p e f =
    let q = standing x.state r.state.dp r.state.queue m r.out x.count r.fetched r.words in
    let off = none_of false (acts b dp r) (acts b consumer r) (sym p ∙ e) in
    sym (tried_off b consumer q off.2)
    ∙ ap (tried b consumer) (sym (tried_off b dp q off.1))
    ∙ ap (λ (p : Run). tried b consumer (tried b dp p)) (sp_tried b r f)

-- ---- The loops

-- A run in which one of the turns acts goes on
pub sp_lives : (b : Budgets) (r : Run) → acts b sp r ≡ true → live b r ≡ true
sp_lives b r e = rw e

pub list_lives : (b : Budgets) (r : Run) {on : Bool} → on ≡ (acts b dp r || acts b consumer r) → on ≡ true → live b r ≡ true
list_lives b r p e = by (acts b sp r) (sp_lives b r) (λ q. rw q (sym p ∙ e))

pub less : (b : Budgets) (r next : Run) → next ≡ round b r → live b r ≡ true → left b next < left b r
less b r next e l = rw e (round_less b r l)

-- Whoever finishes from here finishes the whole run
pub again : (b : Budgets) (r : Run) {next end : Run} → next ≡ round b r → live b r ≡ true → merged b r ≡ end → merged b next ≡ end
again b r e l h = ap (merged b) e ∙ sym (merged_round b r l) ∙ h

-- None acts: the run ends here
pub over : (b : Budgets) (r : Run) {end : Run} {on : Bool} → acts b sp r ≡ false → on ≡ (acts b dp r || acts b consumer r) → on ≡ false → merged b r ≡ end
    → end ≡ standing r.state.sp r.state.dp r.state.queue r.memory r.out r.moved end.fetched r.words
over b r off p e h =
    let here = sym (merged_done b r (rw off (sym p ∙ e))) ∙ h in
    sym here
    ∙ ap (λ (q : Run). standing r.state.sp r.state.dp r.state.queue r.memory r.out r.moved q.fetched r.words) here

pub done : {e end : Run} {s : SpState} {m : Memory} {moved fetched : ℕ} {r : Stepped DpState} {queue out : List ℕ} {o : Outcome}
    → e ≡ standing s r.state queue m out moved fetched r.count → e ≡ end → o ≡ accepted (both s r.state queue) 0 moved
    → EndsAt end (record { outcome = o; words = r.count }) m out
done h p outcome = rw (sym p ∙ h, outcome) (record { given = refl; bytes = refl; output = refl })
