use Rattle.words.specs.Memory.{memory}
use Rattle.rows.proofs.Inside.{piece_state, piece_bytes}
use Rattle.rows.proofs.pieces.piece.Goals as goal

pub returns : goal.returns
returns c =
    let a = c.args in
    let n = c.piece_words-count.result in
    let piece = c.piece_words-count.ensures in
    record {
      piece = piece;
      state = λ b some.
          piece_state n a.s b (piece.some some) piece.in_row c.saturating_sub.ensures c.advance.ensures c.next-state.ensures;
      bytes = λ b some. piece_bytes n a.most a.s (memory a.rdram.now a.dmem.now a.imem.now) piece b c.move_piece.ensures;
    }
