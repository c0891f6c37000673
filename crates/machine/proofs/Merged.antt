-- A merged run, round by round: one more round of a live run, its end, and what every turn keeps.
use Prim.Native.Nat.{ℕ, zero, suc, ◌+◌, ◌*◌, ◌<◌, ◌≤◌}
use mathlib.Core.Path.{◌≡◌, refl, sym, ap, ◌∙◌}
use mathlib.Core.Bool.{Bool, true, false, cond, ◌&&◌, ◌||◌}
use native.Mathlib.Omega.{arith}
use native.Mathlib.Nat.{le_refl, le_of_suc-le-suc}
use mathlib.Core.List.{List}
use lib.Dec.{ltb}
use lib.ListN.{length, get_or}
use borrow.Author.Tests.{ltb-true, ltb-false}
use Rattle.words.specs.Memory.{word_bytes}
use Rattle.words.proofs.Tests.{by, either, and_true, contradiction}
use Rattle.words.proofs.Bytes.{store_inside, store_outside}
use Rattle.dp.specs.Queue.{oldest}
use Rattle.dp.specs.Turn.{fetches, consumes}
use Rattle.machine.specs.Runs.{Kind, sp, dp, consumer, Budgets, Run, acts, took, tried, round, live, rounds, left, merged}

-- ---- A turn that is taken, and one that is passed over

pub tried_on : (b : Budgets) (t : Kind) (r : Run) → acts b t r ≡ true → tried b t r ≡ took t r
unfolding tried
tried_on b t r e = ap (λ (c : Bool). cond c (took t r) r) e

pub tried_off : (b : Budgets) (t : Kind) (r : Run) → acts b t r ≡ false → tried b t r ≡ r
unfolding tried
tried_off b t r e = ap (λ (c : Bool). cond c (took t r) r) e

-- A turn that acts has budget, and would do something
pub sp_acts : (b : Budgets) (r : Run) → acts b sp r ≡ true → (r.moved < b.sp) × (r.state.sp.busy ≡ true)
sp_acts b r e =
    let p = and_true (ltb r.moved b.sp) r.state.sp.busy e in
    (ltb-true r.moved b.sp p.0, p.1)

pub dp_acts : (b : Budgets) (r : Run) → acts b dp r ≡ true → (r.fetched < b.dp) × (fetches r.state.dp ≡ true)
dp_acts b r e =
    let p = and_true (ltb r.fetched b.dp) (fetches r.state.dp) e in
    (ltb-true r.fetched b.dp p.0, p.1)

pub consumer_acts : (b : Budgets) (r : Run) → acts b consumer r ≡ true → (r.words < b.consumer) × (consumes r.state.dp ≡ true)
consumer_acts b r e =
    let p = and_true (ltb r.words b.consumer) (consumes r.state.dp) e in
    (ltb-true r.words b.consumer p.0, p.1)

-- A consumer turn puts its word into the output after those before it, and changes no other byte
module _ (r : Run) where
  abbrev word : List ℕ
  word = word_bytes (oldest r.state.dp r.state.queue)

  word_length : length word ≡ 8
  unfolding word_bytes
  word_length = refl

  pub puts_word : (i : ℕ) → i < 8 → 8 * r.words + 8 ≤ length r.out
      → get_or (took consumer r).out (8 * r.words + i) 0 ≡ get_or (word_bytes (oldest r.state.dp r.state.queue)) i 0
  puts_word i h room =
      let at : 8 * r.words ≡ r.words * 8 = omega arith in
      rw at (store_inside r.out (r.words * 8) word i word_length h (omega arith))

  pub keeps_others : (x : ℕ) → (8 * r.words ≤ x → x < 8 * r.words + 8 → ⊥) → get_or (took consumer r).out x 0 ≡ get_or r.out x 0
  keeps_others x h = store_outside r.out (r.words * 8) word x word_length (λ p q _. h (omega arith) (omega arith))

-- None of three
pub none_of : (a b c : Bool) → a || b || c ≡ false → (a ≡ false) × (b ≡ false) × (c ≡ false)
none_of true b c e = contradiction refl e
none_of false true c e = contradiction refl e
none_of false false c e = (refl, refl, e)

-- A turn that is passed over is without budget, or would do nothing
pub passed : (n b : ℕ) (on : Bool) → ltb n b && on ≡ false → {P : Type 0} → (b ≤ n → P) → (on ≡ false → P) → P
passed n b on e f g = by (ltb n b) (λ l. g (rw l at e)) (λ l. f (ltb-false n b l))

-- A turn taken uses one of what is left
used : (b : Budgets) (t : Kind) (r : Run) → acts b t r ≡ true → left b (took t r) < left b r
used b sp r e = let h = (sp_acts b r e).0 in omega arith
used b dp r e = let h = (dp_acts b r e).0 in omega arith
used b consumer r e = let h = (consumer_acts b r e).0 in omega arith

not_more : (b : Budgets) (t : Kind) (r : Run) → left b (tried b t r) ≤ left b r
unfolding tried
not_more b t r =
    either (λ (q : Run). left b q ≤ left b r) (acts b t r) (took t r) r (λ e. let h = used b t r e in omega arith) (λ _. omega arith)

fewer : (b : Budgets) (t : Kind) (r : Run) → acts b t r ≡ true → left b (tried b t r) < left b r
fewer b t r e = rw (tried_on b t r e) (used b t r e)

-- A round of a live run takes a turn
pub round_less : (b : Budgets) (r : Run) → live b r ≡ true → left b (round b r) < left b r
unfolding round
round_less b r e =
    let x = tried b sp r in
    let y = tried b dp x in
    let f = not_more b dp x in
    let g = not_more b consumer y in
    by (acts b sp r) (λ p. lower (left b (tried b consumer y)) (left b y) (left b x) (left b r) g f (fewer b sp r p))
    (λ p.
    rw (tried_off b sp r p)
    (by (acts b dp r) (λ q. below (left b (tried b consumer (tried b dp r))) (left b (tried b dp r)) (left b r) (not_more b consumer (tried b dp r)) (fewer b dp r q))
    (λ q. rw (tried_off b dp r q) (by (acts b consumer r) (fewer b consumer r) (λ k. contradiction e (rw (p, q, k)))))))
  where
    below : (a b c : ℕ) → a ≤ b → b < c → a < c
    below a b c f g = omega arith

    lower : (a b c d : ℕ) → a ≤ b → b ≤ c → c < d → a < d
    lower a b c d f g h = omega arith

-- ---- Rounds

next_round : (n : ℕ) (b : Budgets) (r : Run) → live b r ≡ true → rounds (suc n) b r ≡ rounds n b (round b r)
unfolding rounds
next_round n b r e = ap (λ (c : Bool). cond c (rounds n b (round b r)) r) e

no_round : (n : ℕ) (b : Budgets) (r : Run) → live b r ≡ false → rounds n b r ≡ r
unfolding rounds
no_round zero b r e = refl
no_round (suc n) b r e = ap (λ (c : Bool). cond c (rounds n b (round b r)) r) e

-- Nothing left: the run is over
over : (b : Budgets) (r : Run) → left b r ≤ 0 → live b r ≡ false
over b r h = by (live b r) (λ e. let l = round_less b r e in absurd (omega arith)) (λ e. e)

-- Enough rounds are as good as any
enough : (n k : ℕ) (b : Budgets) (r : Run) → left b r ≤ n → left b r ≤ k → rounds n b r ≡ rounds k b r
enough zero k b r h l = let e = over b r h in no_round 0 b r e ∙ sym (no_round k b r e)
enough (suc n) zero b r h l = let e = over b r l in no_round (suc n) b r e ∙ sym (no_round 0 b r e)
enough (suc n) (suc k) b r h l =
    by (live b r)
    (λ e.
    let d = round_less b r e in
    next_round n b r e ∙ enough n k b (round b r) (omega arith) (omega arith) ∙ sym (next_round k b r e))
    (λ e. no_round (suc n) b r e ∙ sym (no_round (suc k) b r e))

-- One more round of a live run, and the end: what a loop over rounds needs
pub merged_round : (b : Budgets) (r : Run) → live b r ≡ true → merged b r ≡ merged b (round b r)
unfolding merged
merged_round b r e = go (left b r) (round_less b r e)
  where
    go : (n : ℕ) → left b (round b r) < n → rounds n b r ≡ rounds (left b (round b r)) b (round b r)
    go zero l = absurd (omega (arith, l))
    go (suc n) l = next_round n b r e ∙ enough n (left b (round b r)) b (round b r) (le_of_suc-le-suc l) (le_refl (left b (round b r)))

pub merged_done : (b : Budgets) (r : Run) → live b r ≡ false → merged b r ≡ r
unfolding merged
merged_done b r e = no_round (left b r) b r e

ends_from : (n : ℕ) (b : Budgets) (r : Run) → left b r ≤ n → live b (rounds n b r) ≡ false
ends_from zero b r h = let e = over b r h in rw (no_round 0 b r e) e
ends_from (suc n) b r h =
    by (live b r) (λ e. let d = round_less b r e in rw (next_round n b r e) (ends_from n b (round b r) (omega arith)))
    (λ e. rw (no_round (suc n) b r e) e)

pub merged_ends : (b : Budgets) (r : Run) → live b (merged b r) ≡ false
unfolding merged
merged_ends b r = ends_from (left b r) b r (omega arith)

-- ---- What every turn keeps holds at the end

abbrev pub Keeps : Budgets → (Run → Type 0) → Type 0
Keeps b P = (t : Kind) (r : Run) → acts b t r ≡ true → P r → P (took t r)

tried_keeps : (b : Budgets) (P : Run → Type 0) → Keeps b P → (t : Kind) (r : Run) → P r → P (tried b t r)
unfolding tried
tried_keeps b P k t r h = either P (acts b t r) (took t r) r (λ e. k t r e h) (λ _. h)

rounds_keep : (n : ℕ) (b : Budgets) (P : Run → Type 0) → Keeps b P → (r : Run) → P r → P (rounds n b r)
unfolding rounds round
rounds_keep zero b P k r h = h
rounds_keep (suc n) b P k r h =
    either P (live b r) (rounds n b (round b r)) r
    (λ _. rounds_keep n b P k (round b r) (tried_keeps b P k consumer (tried b dp (tried b sp r)) (tried_keeps b P k dp (tried b sp r) (tried_keeps b P k sp r h))))
    (λ _. h)

pub merged_keeps : (b : Budgets) (P : Run → Type 0) → Keeps b P → (r : Run) → P r → P (merged b r)
unfolding merged
merged_keeps b P k r h = rounds_keep (left b r) b P k r h
