use mathlib.Core.Path.{refl}
use Rattle.machine.proofs.Refusals.{passed, declines}
use Rattle.engines.proofs.Promised.{dp_turn_done, dp_turn_declined}
use Rattle.engines.proofs.turns.dp_turn.Goals as goal

pub returns-in-Err : goal.returns-in-Err
returns-in-Err c =
    let d = declines c.dp_refusal.ensures c.in-Err.is c.into.ensures in
    dp_turn_declined d.number d.refused c.declined.ensures

pub returns-in-Ok : goal.returns-in-Ok
returns-in-Ok c =
    dp_turn_done (passed c.dp_refusal.ensures c.in-Ok.is) refl c.fetch-ran.ensures
    c.with_ring.ensures c.accepted.ensures
