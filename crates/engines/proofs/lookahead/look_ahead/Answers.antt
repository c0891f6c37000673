use mathlib.Core.Path.{refl, sym, ◌∙◌}
use Rattle.engines.proofs.Promised.{asked_by, look_rdram, look_dmem}
use Rattle.engines.proofs.lookahead.look_ahead.Goals.{then-dp, else-dp}
use Rattle.engines.proofs.lookahead.look_ahead.Goals as goal

pub returns-then-asked : goal.returns-then-asked
returns-then-asked c =
    let by = asked_by _ c.dp_refusal.ensures c.is_ok.ensures.value c.list_ready.ensures in
    let asked = sym c.if-asked.true ∙ by in
    elim c.if-dp.branch [
      | then-dp w ↦ look_dmem asked w.if-dp.true (rw w.at-is at c.word_part.ensures)
      | else-dp w ↦ look_rdram asked w.if-dp.false (rw w.at-is at c.word_part.ensures)
    ]

pub returns : goal.returns
returns c =
    let by = asked_by _ c.dp_refusal.ensures c.is_ok.ensures.value c.list_ready.ensures in
    let asked = sym c.if-asked.false ∙ by in
    elim c.if-dp.branch [
      | then-dp w ↦ look_dmem asked w.if-dp.true
          (rw w.at-is (record { block = refl; offset = refl; bytes = refl }))
      | else-dp w ↦ look_rdram asked w.if-dp.false
          (rw w.at-is (record { block = refl; offset = refl; bytes = refl }))
    ]
