use mathlib.Core.Path.{refl}
use Rattle.machine.proofs.Refusals.{passed, declines}
use Rattle.engines.proofs.Promised.{consumer_turn_taken, consumer_turn_idle}
use Rattle.engines.proofs.Promised.{consumer_turn_declined}
use Rattle.engines.proofs.turns.consumer_turn.Goals as goal

pub returns-in-Err : goal.returns-in-Err
returns-in-Err c =
    let d = declines c.state_refusal.ensures c.in-Err.is c.into.ensures in
    consumer_turn_declined d.number d.refused c.declined.ensures

pub returns-then-not-consumes : goal.returns-then-not-consumes
returns-then-not-consumes c =
    consumer_turn_idle (passed c.state_refusal.ensures c.in_default.is) refl c.consumes.ensures
    c.if-not-consumes.true c.accepted.ensures

pub returns : goal.returns
returns c =
    consumer_turn_taken (passed c.state_refusal.ensures c.in_default.is) refl c.consumes.ensures
    c.if-not-consumes.false c.oldest-v.ensures
    c.consume_next-next.ensures c.with_dp.ensures
    c.accepted-2.ensures
