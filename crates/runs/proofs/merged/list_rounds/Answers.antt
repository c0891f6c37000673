-- Between two rounds: whoever finishes the run from here has finished the whole run, whatever the SP is, as long as its turn is passed over.
use Rattle.std.proofs.Common.{◌∙◌}
use Rattle.words.specs.Memory.{memory}
use Rattle.runs.specs.Standing.{standing, cut_to}
use Rattle.runs.proofs.Rounds.{list_round_of, list_lives, again, over}
use Rattle.runs.proofs.merged.list_rounds.Goals as goal

pub loop-queue-preserved : goal.loop-queue-preserved
loop-queue-preserved c =
    let o = c.loop-queue in
    let a = c.args in
    let m = memory a.rdram.now a.dmem.now in (
      λ s moved spbudget imem e.
          let b = cut_to spbudget a.dpbudget a.room in
          let q = standing s o.dp o.queue (m imem) o.out moved o.got o.words in
          again b q (list_round_of b q e c.fetch-two.ensures c.consume-three.ensures) (list_lives b q c.draws.ensures c.loop-queue-test.true)
          (o.invariant.0 s moved spbudget imem e),
      c.consume-three.auto.out ∙ o.invariant.1,
    )

pub returns : goal.returns
returns c =
    let o = c.loop-queue in
    let a = c.args in
    λ s moved spbudget imem e.
    over (cut_to spbudget a.dpbudget a.room)
    (standing s o.dp o.queue (memory a.rdram.now a.dmem.now imem) o.out moved o.got o.words) e
    c.draws.ensures c.loop-queue-test.false (o.invariant.0 s moved spbudget imem e)
