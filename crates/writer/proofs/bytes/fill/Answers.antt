use Rattle.writer.proofs.Filled.{filled}
use Rattle.writer.proofs.bytes.fill.Goals as goal

pub returns : goal.returns
returns c =
    let a = c.args in
    filled a.f a.part.now c.put_first.ensures c.first_field.ensures c.put_four.ensures
    c.second_field.ensures c.put_four-2.ensures c.low_half.ensures
    c.put_four-3.ensures
