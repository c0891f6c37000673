use Rattle.runs.proofs.Alone.{ahead_some, ahead_none}
use Rattle.runs.proofs.merged.ahead.Goals as goal

pub returns-then-moved-spbudget-clause-ahead : goal.returns-then-moved-spbudget-clause-ahead
returns-then-moved-spbudget-clause-ahead c =
    ahead_some c.if-moved-spbudget.true c.piece-done.ensures

pub returns-clause-ahead : goal.returns-clause-ahead
returns-clause-ahead c = ahead_none c.if-moved-spbudget.false
