use Rattle.listing.specs.Text.{hex}
use Rattle.lines.proofs.Writing.{◌then◌}
use Rattle.lines.proofs.text.Lines.put_hex.Goals as goal
use Rattle.lines.proofs.text.Lines.put_hex.Goals.{then-word, else-word}

pub returns : goal.returns
unfolding hex
returns c =
    let low = c.put_hex8-2.ensures in
    elim c.if-word.branch [
      | then-word w ↦ simp w.if-word.true (w.put_hex8.ensures then (rw w.self-is at low))
      | else-word w ↦ simp w.if-word.false (rw w.self-is at low)
    ]
