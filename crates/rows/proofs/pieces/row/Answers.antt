-- At each test of the loop: the row's turns but those left were taken, and while some are left the engine is inside the row.
use Prim.Native.Nat.{◌+◌, ◌/◌}
use mathlib.Core.Path.{refl, sym, ◌∙◌}
use native.Mathlib.Omega.{arith}
use borrow.Author.Rules.{rules}
use Rattle.words.specs.Memory.{memory}
use Rattle.sp.proofs.Rows.{row_busy}
use Rattle.rows.proofs.Inside.{row_start, row_start_bytes, row_state, row_bytes, row_inside, row_end, row_none}
use Rattle.rows.proofs.pieces.row.Goals as goal

pub loop-left-init : goal.loop-left-init
loop-left-init c =
    let a = c.args in
    (search rules, λ _. (search rules, refl), row_start a.s _, row_start_bytes a.s _ _, refl, refl, refl)

pub loop-left-preserved : goal.loop-left-preserved
loop-left-preserved c =
    let a = c.args in
    let inv = c.loop-left.invariant in
    let some = c.loop-left-test.true in
    let inside = inv.1 some in
    let n = c.piece-done.result.count in
    let e = c.piece-done.ensures in
    let m = memory a.rdram.now a.dmem.now a.imem.now in
    let words = a.s.len / 8 + 1 in
    let state = e.state inside.0 some in (
      omega (arith, inv.0),
      λ more. row_inside c.loop-left.left n c.loop-left.s inside.0 inside.1 more state,
      row_state a.s m words c.loop-left.left n inv.0 e.piece.asked inv.2 state,
      row_bytes a.s m words c.loop-left.left n inv.0 e.piece.asked inv.2 inv.3 (e.bytes inside.0 some),
      c.piece-done.auto.rdram ∙ inv.4,
      c.piece-done.auto.dmem ∙ inv.5,
      c.piece-done.auto.imem ∙ inv.6,
    )

pub returns : goal.returns
returns c =
    let a = c.args in
    let e =
    row_end a.s (memory a.rdram.now a.dmem.now a.imem.now) c.loop-left.left (omega (arith, c.loop-left-test.false))
    (sym (row_busy a.s (search rules))) c.loop-left.invariant.2 c.loop-left.invariant.3
    in
    record { registers = e.0; bytes = e.1 }

pub returns-then-not-s : goal.returns-then-not-s
returns-then-not-s c =
    let a = c.args in
    let e = row_none a.s (memory a.rdram.now a.dmem.now a.imem.now) (search rules) in
    record { registers = e.0; bytes = e.1 }
