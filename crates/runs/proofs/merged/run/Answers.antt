use mathlib.Core.Path.{refl}
use borrow.Author.Rules.{rules}
use Rattle.words.specs.Memory.{memory}
use Rattle.words.proofs.Lent.{given_back}
use Rattle.machine.specs.Promised.{RunGives}
use Rattle.machine.proofs.Refusals.{passed, declines}
use Rattle.runs.proofs.Promised.{run_done, run_declined}
use Rattle.runs.proofs.merged.run.Goals as goal

pub returns-in-Err : goal.returns-in-Err
returns-in-Err c =
    let d = declines c.sp_refusal.ensures c.in-Err.is c.into.ensures in
    run_declined d.number _ _ _ d.refused c.declined-outcome.ensures

pub returns : goal.returns
returns c =
    let a = c.args in
    let m = memory a.rdram.now a.dmem.now a.imem.now in
    let r = c.rounds in
    given_back
    (λ k. RunGives a.s a.spbudget a.dpbudget a.consumerbudget m a.out.now r.result k r.new.out)
    r.new.m
    (run_done (passed c.sp_refusal.ensures c.in_default.is) _ _ _ refl c.room_for-room.ensures
    r.ensures.ends)
    (search rules) (search rules) (search rules)
