-- The SP's part of a run: words that it moves at once where only the SP acts, and how far the run goes by turns.
use Rattle.std.proofs.Common.{◌≡◌, ℕ, zero, suc, ◌+◌, ◌-◌, ◌*◌, ◌/◌, ◌%◌, ◌<◌, ◌≤◌, Bool, true, false, cond, ◌||◌, ltb, sym, refl, ap, ◌∙◌, subst, mul-le-mul, arith, ltb-true, lt-ltb}
use Rattle.words.specs.declared.stepped.Stepped.{Stepped}
use Rattle.words.specs.Memory.{Memory}
use Rattle.words.proofs.Tests.{by, and_true, contradiction}
use Rattle.sp.specs.declared.SpState.{SpState}
use Rattle.sp.specs.Turn.{sp_next, sp_move, sp_after, memory_after}
use Rattle.sp.specs.Tried.{may_move, SpTried}
use Rattle.sp.proofs.Rows.{inside, advanced_busy}
use Rattle.rows.specs.Pieces.{Pieced}
use Rattle.machine.specs.Runs.{sp, dp, consumer, Budgets, Run, acts, took, tried, round, live, left, merged}
use Rattle.machine.proofs.Merged.{none_of, tried_on, tried_off, round_less, merged_round}
use Rattle.runs.specs.Standing.{standing, Ahead}

-- ---- Words of the SP alone

-- Where only the SP acts, a round is its turn
alone : (b : Budgets) (r : Run) → acts b sp r ≡ true → (acts b dp r || acts b consumer r) ≡ false → round b r ≡ took sp r
unfolding round
alone b r e p =
    let q = took sp r in
    let off = none_of false (acts b dp r) (acts b consumer r) p in
    ap (λ (x : Run). tried b consumer (tried b dp x)) (tried_on b sp r e)
    ∙ ap (tried b consumer) (tried_off b dp q off.1)
    ∙ tried_off b consumer q off.2

-- Where a run stands n words of the SP later
abbrev moved : ℕ → Run → Run
moved n r =
    standing (sp_after n r.state.sp) r.state.dp r.state.queue (memory_after n r.state.sp r.memory) r.out (r.moved + n) r.fetched
    r.words

moved_none : (r : Run) → moved 0 r ≡ r
unfolding sp_after memory_after
moved_none r =
    let same : r.moved + 0 ≡ r.moved = omega arith in
    ap (λ (k : ℕ). standing r.state.sp r.state.dp r.state.queue r.memory r.out k r.fetched r.words) same

moved_more : (n : ℕ) (r : Run) → moved (suc n) r ≡ moved n (took sp r)
unfolding sp_after memory_after
moved_more n r =
    let same : r.moved + suc n ≡ r.moved + 1 + n = omega arith in
    let s = sp_next r.state.sp in
    ap
    (λ (k : ℕ). standing (sp_after n s) r.state.dp r.state.queue (memory_after n s (sp_move r.state.sp r.memory)) r.out k r.fetched r.words)
    same

-- n turns of the SP are n rounds, if none of them is idle
words_alone : (n : ℕ) (b : Budgets) (r : Run) → (acts b dp r || acts b consumer r) ≡ false → r.moved + n ≤ b.sp
    → ((k : ℕ) → k < n → (sp_after k r.state.sp).busy ≡ true)
    → merged b (moved n r) ≡ merged b r
unfolding sp_after
words_alone zero b r p h busy = ap (merged b) (moved_none r)
words_alone (suc n) b r p h busy =
    let e : acts b sp r ≡ true = rw (lt-ltb r.moved b.sp (omega arith), busy 0 (omega arith)) in
    ap (merged b) (moved_more n r)
    ∙ words_alone n b (took sp r) p (rest r.moved n b.sp h) (λ k l. busy (suc k) (later k n l))
    ∙ sym (merged_round b r (rw e) ∙ ap (merged b) (alone b r e p))
  where
    rest : (m n k : ℕ) → m + suc n ≤ k → m + 1 + n ≤ k
    rest m n k h = omega arith

    later : (k n : ℕ) → k < n → suc k < suc n
    later k n h = omega arith

-- ---- A piece of a row is such words

in_row : (n : ℕ) (s : SpState) → s.busy ≡ true → n ≤ s.len / 8 + 1 → (k : ℕ) → k < n → (sp_after k s).busy ≡ true
in_row n s b h k l = ap (λ (t : SpState). t.busy) (inside k s b (omega arith)) ∙ advanced_busy (8 * k) s ∙ b

pub has_turn : (s : SpState) (taken budget : ℕ) → may_move s taken budget ≡ true → (taken < budget) × (s.busy ≡ true)
has_turn s taken budget on = let p = and_true (ltb taken budget) s.busy on in (ltb-true taken budget p.0, p.1)

module _ {s : SpState} {taken budget : ℕ} {m : Memory} where
  pub ahead_some : {r : Stepped SpState} {m' : Memory} → may_move s taken budget ≡ true → Pieced s (budget - taken) m r m'
      → Ahead s taken budget m (record { state = r.state; count = taken + r.count }) m'
  ahead_some {r} on g =
      let t = has_turn s taken budget on in
      let any : 0 < budget - taken = omega (arith, t.0) in
      let p = g.piece in
      record {
        words = r.count;
        count = refl;
        some = λ _. (p.some any, fits r.count taken budget p.asked t.0);
        none = λ off. contradiction on off;
        busy = in_row r.count s t.1 p.in_row;
        state = g.state t.1 any;
        bytes = g.bytes t.1 any;
      }
    where
      fits : (n t b : ℕ) → n ≤ b - t → t < b → t + n ≤ b
      fits n t b h l = omega arith

  pub ahead_none : may_move s taken budget ≡ false → Ahead s taken budget m (record { state = s; count = taken }) m
  unfolding sp_after memory_after
  ahead_none off =
      record {
        words = 0;
        count = omega arith;
        some = λ on. contradiction on off;
        none = λ _. refl;
        busy = λ k l. absurd (omega arith);
        state = refl;
        bytes = refl;
      }

-- ---- How far the run goes by turns

pub short_product : (count row : ℕ) → count % 0x100 * (row % 128 / 8 + 1) ≤ 255 * 16
short_product count row = mul-le-mul (at_most count) (words row)
  where
    at_most : (n : ℕ) → n % 0x100 ≤ 255
    at_most n = omega arith

    words : (n : ℕ) → n % 128 / 8 + 1 ≤ 16
    words n = omega arith

pub either_off : (on other : Bool) → on ≡ true → (on || other) ≡ false → {P : Type 0} → P
either_off true other e f = contradiction refl f
either_off false other e f = contradiction e refl

-- A turn that acts below `stop` is one of the whole budget
pub within : {s : SpState} {taken stop budget : ℕ} {m m' : Memory} {x : Stepped SpState} → may_move s taken stop ≡ true → stop ≤ budget
    → SpTried s taken stop m x m' → SpTried s taken budget m x m'
within {s} {taken} {stop} {budget} on h f =
    let t = has_turn s taken stop on in
    let whole : may_move s taken budget ≡ true = rw (lt-ltb taken budget (omega (arith, t.0)), t.1) in
    record { registers = f.registers ∙ rw (on, whole); bytes = f.bytes ∙ rw (on, whole) }

pub within_count : {s : SpState} {taken stop budget : ℕ} {m m' : Memory} {x : Stepped SpState} → may_move s taken stop ≡ true → stop ≤ budget
    → SpTried s taken stop m x m' → x.count ≤ budget
within_count {s} {taken} {stop} {x = x} on h f =
    let t = has_turn s taken stop on in
    let one : x.count ≡ taken + 1 = ap (λ (x : Stepped SpState). x.count) f.registers ∙ rw on in
    omega (arith, t.0, one)

-- Between two turns of the inner loop, which began at e: whoever finishes the run from here has finished it from there. `on` says whether a DP turn or a
-- consumer turn acts, and as long as one does the turns go on to the end of the budget
pub record Between (b : Budgets) (e r : Run) (on : Bool) (stop : ℕ) : Type 0 where
  pub rest : merged b r ≡ merged b e
  pub others : on ≡ (acts b dp r || acts b consumer r)
  pub bound : stop ≤ b.sp
  pub whole : on ≡ true → stop ≡ b.sp
  pub not_more : left b r ≤ left b e
  -- Where the SP's turn acted at e and is passed over here, something was done
  pub progress : acts b sp r ≡ false → left b r < left b e

pub entered : (b : Budgets) (e : Run) {on : Bool} {stop : ℕ} → acts b sp e ≡ true → on ≡ (acts b dp e || acts b consumer e)
    → (stop ≤ b.sp) × (on ≡ true → stop ≡ b.sp)
    → Between b e e on stop
entered b e acting p (h, k) =
    record {
      rest = refl;
      others = p;
      bound = h;
      whole = k;
      not_more = omega arith;
      progress = λ off. contradiction acting off;
    }

below : (a b c : ℕ) → a < b → b ≤ c → a < c
below a b c h k = omega arith

-- One more round
one_more : (b : Budgets) {e r next : Run} {on on' : Bool} {stop stop' : ℕ} → Between b e r on stop → acts b sp r ≡ true → next ≡ round b r
    → on' ≡ (acts b dp next || acts b consumer next)
    → stop' ≤ b.sp
    → (on' ≡ true → stop' ≡ b.sp)
    → Between b e next on' stop'
one_more b {e} {r} {next} g acting one p h k =
    let live : live b r ≡ true = rw acting in
    let less : left b next < left b r = rw one (round_less b r live) in
    record {
      rest = ap (merged b) one ∙ sym (merged_round b r live) ∙ g.rest;
      others = p;
      bound = h;
      whole = k;
      not_more = le (left b next) (left b r) (left b e) less g.not_more;
      progress = λ _. below (left b next) (left b r) (left b e) less g.not_more;
    }
  where
    le : (a b c : ℕ) → a < b → b ≤ c → a ≤ c
    le a b c h k = omega arith

pub moves_one : (b : Budgets) (r : Run) {stop : ℕ} → stop ≤ b.sp → may_move r.state.sp r.moved stop ≡ true → acts b sp r ≡ true
moves_one b r {stop} h may =
    let t = has_turn r.state.sp r.moved stop may in
    rw (lt-ltb r.moved b.sp (omega (arith, t.0)), t.1)

-- Of the SP alone: `stop` stays
pub sp_again : (b : Budgets) {e r next : Run} {on : Bool} {stop : ℕ} → Between b e r on stop → may_move r.state.sp r.moved stop ≡ true → on ≡ false
    → next ≡ round b r
    → on ≡ (acts b dp next || acts b consumer next)
    → Between b e next on stop
sp_again b {r = r} g may off one p =
    one_more b g (moves_one b r g.bound may) one p g.bound (λ on. contradiction on off)

-- Of all three: where the other two would be passed over, the turns stop
pub all_again : (b : Budgets) {e r next : Run} {on on' : Bool} {stop stop' : ℕ} → Between b e r on stop → may_move r.state.sp r.moved stop ≡ true
    → on ≡ true
    → next ≡ round b r
    → on' ≡ (acts b dp next || acts b consumer next)
    → next.moved ≤ b.sp
    → stop' ≡ cond on' stop next.moved
    → Between b e next on' stop'
all_again b {r = r} {next} {on' = on'} {stop} {stop'} g may on one p h cut =
    one_more b g (moves_one b r g.bound may) one p
    (rw cut (by on' (λ e. rw e g.bound) (λ e. rw e h)))
    (λ e. cut ∙ rw e (g.whole on))

-- What the outer loop needs of the SP's words at once
module _ (b : Budgets) {e r : Run} {on : Bool} {stop : ℕ} (g : Between b e r on stop) (stopped : may_move r.state.sp r.moved stop ≡ false)
    {x : Stepped SpState} {m : Memory} (h : Ahead r.state.sp r.moved b.sp r.memory x m) where
  abbrev next : Run
  next = standing x.state r.state.dp r.state.queue m r.out x.count r.fetched r.words

  next_is : next ≡ moved h.words r
  next_is = λ i. standing (h.state i) r.state.dp r.state.queue (h.bytes i) r.out (h.count i) r.fetched r.words

  -- The turns stopped with the SP's turn acting: neither of the other two acts
  others_off : acts b sp r ≡ true → (acts b dp r || acts b consumer r) ≡ false
  others_off acting =
      by (acts b dp r || acts b consumer r) (λ o. contradiction acting (rw (g.whole (g.others ∙ o)) at stopped)) (λ o. o)

  pub ahead_rest : merged b next ≡ merged b e
  ahead_rest =
      ap (merged b) next_is
      ∙ by (acts b sp r)
      (λ on. words_alone h.words b r (others_off on) (h.some on).1 h.busy)
      (λ off. ap (λ (n : ℕ). merged b (moved n r)) (h.none off) ∙ ap (merged b) (moved_none r))
      ∙ g.rest

  pub ahead_less : left b next < left b e
  ahead_less =
      by (acts b sp r)
      (λ on. at next_is (below (left b (moved h.words r)) (left b r) (left b e) (fewer h.words (h.some on).0 (h.some on).1) g.not_more))
      (λ off. at (next_is ∙ ap (λ (n : ℕ). moved n r) (h.none off) ∙ moved_none r) (g.progress off))
    where
      at : {p q : Run} → p ≡ q → left b q < left b e → left b p < left b e
      at same less = subst (λ (x : Run). left b x < left b e) (sym same) less

      fewer : (n : ℕ) → 0 < n → r.moved + n ≤ b.sp → left b (moved n r) < left b r
      fewer n p q = omega arith
