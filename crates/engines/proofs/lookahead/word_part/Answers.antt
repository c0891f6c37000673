-- The part that is given back starts in the lent block itself, and its bytes are those of the word (`part_word`).
use Prim.Native.Nat.{◌+◌}
use mathlib.Core.Path.{refl}
use native.Mathlib.Omega.{arith}
use native.Mathlib.Nat.{add-sub_cancel_left}
use lib.ListN.{length}
use borrow.Author.Tests.{le-leb}
use Rattle.words.proofs.Bytes.{part_word}
use Rattle.engines.proofs.lookahead.word_part.Goals as goal

pub returns : goal.returns
returns c =
    let a = c.args in
    simp (le-leb (a.at + 8) (length a.m.now) (omega (arith, c.if-m-lt8.false, c.if-m-at.false)))
    (record { block = refl; offset = refl; bytes = simp add-sub_cancel_left (part_word a.m.now a.at (omega arith)) })
