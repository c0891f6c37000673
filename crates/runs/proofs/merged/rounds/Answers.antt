use Rattle.runs.proofs.Rounds.{done}
use Rattle.runs.proofs.merged.rounds.Goals as goal

pub returns-clause-ends : goal.returns-clause-ends
returns-clause-ends c =
    let s = c.sp_rounds-at in
    let r = s.result in
    let at = s.ensures.stands in
    done (c.list_rounds-last.ensures r.sp r.moved c.args.spbudget s.new.m.imem.now at.passed)
    at.rest c.accepted-outcome.ensures
