-- Between two rounds, or before the SP's words at once: whoever finishes the run from here has
-- finished the whole run, and `on` says whether a DP turn or a consumer turn acts. Lent memory is
-- still behind the same references, and the output keeps its length.
use Rattle.std.proofs.Common.{◌∙◌}
use Rattle.words.specs.Lent.{lent}
use Rattle.words.proofs.Lent.{same_trans}
use Rattle.runs.specs.Standing.{standing, cut_to}
use Rattle.runs.proofs.Rounds.{round_of, sp_round_of, less, sp_lives}
use Rattle.runs.proofs.Alone.{within, within_count, sp_again, all_again, moves_one, ahead_rest}
use Rattle.runs.proofs.merged.sp_rounds.Goals as goal

pub loop-moved-2-smaller-then-on : goal.loop-moved-2-smaller-then-on
loop-moved-2-smaller-then-on c =
    let o = c.loop-moved-2 in
    let a = c.args in
    let b = cut_to a.spbudget a.dpbudget a.room in
    let r = standing o.sp o.dp o.queue (lent o.m) o.out o.moved o.got o.words in
    let g = o.invariant.0 in
    let f = within c.loop-moved-2-test.true g.bound c.step-one.ensures.tried in
    let one = round_of b r f c.fetch-two.ensures c.consume-three.ensures in
    less b r _ one (sp_lives b r (moves_one b r g.bound c.loop-moved-2-test.true))

pub loop-moved-2-preserved-then-on : goal.loop-moved-2-preserved-then-on
loop-moved-2-preserved-then-on c =
    let o = c.loop-moved-2 in
    let a = c.args in
    let b = cut_to a.spbudget a.dpbudget a.room in
    let r = standing o.sp o.dp o.queue (lent o.m) o.out o.moved o.got o.words in
    let g = o.invariant.0 in
    let f = within c.loop-moved-2-test.true g.bound c.step-one.ensures.tried in
    let one = round_of b r f c.fetch-two.ensures c.consume-three.ensures in (
      all_again b g c.loop-moved-2-test.true c.if-on.true one c.draws-on-then-on.ensures
          (within_count c.loop-moved-2-test.true g.bound c.step-one.ensures.tried)
          c.pick-stop.ensures,
      same_trans o.invariant.1 c.step-one.ensures.same,
      c.consume-three.auto.out ∙ o.invariant.2,
    )

pub loop-moved-2-preserved : goal.loop-moved-2-preserved
loop-moved-2-preserved c =
    let o = c.loop-moved-2 in
    let a = c.args in
    let b = cut_to a.spbudget a.dpbudget a.room in
    let r = standing o.sp o.dp o.queue (lent o.m) o.out o.moved o.got o.words in
    let g = o.invariant.0 in
    let f = within c.loop-moved-2-test.true g.bound c.step-one.ensures.tried in
    let one = sp_round_of b r g.others c.if-on.false f in (
      sp_again b g c.loop-moved-2-test.true c.if-on.false one g.others,
      same_trans o.invariant.1 c.step-one.ensures.same,
      o.invariant.2,
    )

pub loop-moved-preserved : goal.loop-moved-preserved
loop-moved-preserved c =
    let o = c.loop-moved-2 in
    let a = c.args in
    let b = cut_to a.spbudget a.dpbudget a.room in
    let i = c.loop-moved.invariant in (
      ahead_rest b o.invariant.0 c.loop-moved-2-test.false c.ahead-alone.ensures.ahead ∙ i.0,
      o.invariant.0.others,
      same_trans (same_trans i.2 o.invariant.1) c.ahead-alone.ensures.same,
      o.invariant.2 ∙ i.3,
    )
