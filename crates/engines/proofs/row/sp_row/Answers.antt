use mathlib.Core.Path.{refl}
use Rattle.machine.proofs.Refusals.{passed, declines}
use Rattle.engines.proofs.Promised.{row_done, row_declined}
use Rattle.engines.proofs.row.sp_row.Goals as goal

pub returns-in-Err : goal.returns-in-Err
returns-in-Err c =
    let d = declines c.sp_refusal.ensures c.in-Err.is c.into.ensures in
    row_declined d.number d.refused c.declined.ensures

pub returns : goal.returns
returns c =
    row_done (passed c.sp_refusal.ensures c.in_default.is) refl c.row-done.ensures.registers
    c.row-done.ensures.bytes c.with_sp.ensures c.accepted.ensures
