-- The DP's registers once all is fetched and all is consumed. Fetching and consuming commute on the registers, PIPE_BUSY left out.
use Prim.Native.Nat.{ℕ, zero, suc, ◌+◌, ◌-◌, ◌<◌}
use mathlib.Core.Path.{◌≡◌, refl, sym, ap, ◌∙◌}
use mathlib.Core.Bool.{Bool, true, false, cond}
use mathlib.Core.List.{List, [], ◌∷◌}
use native.Mathlib.Omega.{arith}
use Rattle.dp.specs.declared.DpState.{DpState}
use Rattle.dp.specs.State.{with_command}
use Rattle.dp.specs.Lists.{list_started}
use Rattle.dp.specs.Turn.{enqueued, advanced, followed, fetched, framed, dequeued, consumed}
use Rattle.dp.proofs.Cases.{follows}
use Rattle.dp.proofs.Listed.{fetched_keeps}

-- Registers without PIPE_BUSY
abbrev pub calm : DpState → DpState
calm s = with_command s s.wordsleft false s.line

-- n fetches, and the consumption of words, of registers without it
fetched_all : ℕ → DpState → DpState
fetched_all zero s = s
fetched_all (suc n) s = fetched_all n (calm (fetched s))

consumed_all : List ℕ → DpState → DpState
consumed_all [] s = s
consumed_all (v ∷ vs) s = consumed_all vs (calm (consumed s v))

-- Neither looks at it
fetched_calm : (s : DpState) → fetched (calm s) ≡ fetched s
unfolding followed advanced enqueued
fetched_calm s = refl

consumed_calm : (s : DpState) (v : ℕ) → calm (consumed (calm s) v) ≡ calm (consumed s v)
unfolding dequeued framed
consumed_calm s v = refl

-- They commute
commute : (s : DpState) (v : ℕ) → 0 < s.queued → calm (fetched (consumed s v)) ≡ calm (consumed (fetched s) v)
unfolding followed advanced enqueued list_started dequeued framed
commute s v h =
    let a : s.queued - 1 + 1 ≡ s.queued = omega arith in
    let b : s.queued + 1 - 1 ≡ s.queued = omega arith in
    go (follows s) a b
  where
    go : (c : Bool) → s.queued - 1 + 1 ≡ s.queued → s.queued + 1 - 1 ≡ s.queued
        → calm (cond c (list_started (advanced (enqueued (consumed s v)))) (advanced (enqueued (consumed s v))))
        ≡ calm (consumed (cond c (list_started (advanced (enqueued s))) (advanced (enqueued s))) v)
    go true a b = rw (a, b)
    go false a b = rw (a, b)

commute_all : (n : ℕ) (s : DpState) (v : ℕ) → 0 < s.queued → fetched_all n (calm (consumed s v)) ≡ calm (consumed (fetched_all n s) v)
unfolding fetched_all
commute_all zero s v h = refl
commute_all (suc n) s v h =
    let t = calm (fetched s) in
    let one : calm (fetched (calm (consumed s v))) ≡ calm (consumed t v)
    = ap calm (fetched_calm (consumed s v)) ∙ commute s v h ∙ sym (consumed_calm (fetched s) v) in
    ap (fetched_all n) one ∙ commute_all n t v (omega (arith, (fetched_keeps s).queued))

-- The registers at the end: n words are still to be fetched, and all of ws to be consumed
pub final : ℕ → List ℕ → DpState → DpState
final n ws s = consumed_all ws (fetched_all n (calm s))

pub final_fetched : (n : ℕ) (ws : List ℕ) (s : DpState) → final n ws (fetched s) ≡ final (suc n) ws s
unfolding final fetched_all
final_fetched n ws s = ap (λ (t : DpState). consumed_all ws (fetched_all n (calm t))) (sym (fetched_calm s))

pub final_consumed : (n : ℕ) (v : ℕ) (ws : List ℕ) (s : DpState) → 0 < s.queued → final n ws (consumed s v) ≡ final n (v ∷ ws) s
unfolding final consumed_all
final_consumed n v ws s h =
    ap (λ (t : DpState). consumed_all ws (fetched_all n t)) (sym (consumed_calm s v)) ∙ ap (consumed_all ws) (commute_all n (calm s) v h)

pub final_none : (s : DpState) → final 0 [] s ≡ calm s
unfolding final fetched_all consumed_all
final_none s = refl
