use mathlib.Core.Path.{sym, ap, ◌∙◌}
use borrow.Author.Rules.{rules}
use Rattle.machine.specs.Refusals.{number}
use Rattle.machine.proofs.Refusals.{numbers_apart}
use Rattle.recording.specs.Writer.{answered}
use Rattle.writer.proofs.Filled.{room_for_lem, written, declined}
use Rattle.writer.proofs.records.write_record.Goals as goal

-- The record has room, so the part ends within the buffer
pub slice_bounds-fill-end : goal.slice_bounds-fill-end
slice_bounds-fill-end c =
    let a = c.args in
    let e = c.in-Ok.ensures in
    let r = room_for_lem a.f a.place a.buffer.now (sym e.number) e.end in
    search rules

pub returns-in-Ok : goal.returns-in-Ok
returns-in-Ok c =
    let a = c.args in
    let e = c.in-Ok.ensures in
    written a.f a.place a.buffer.now c.fill.new.part c.in-Ok.end c.answered.result (sym e.number)
    e.end c.fill.ensures c.answered.ensures

pub returns-in-Err : goal.returns-in-Err
returns-in-Err c =
    let a = c.args in
    let why = c.in-Err.why in
    declined a.f a.place a.buffer.now (number why) c.answered-in-Err.result c.in-Err.ensures.number
    (numbers_apart.never_zero why)
    (c.answered-in-Err.ensures ∙ ap (λ n. answered n 0) c.into.ensures)
