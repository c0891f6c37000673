use Rattle.dp.proofs.Tried.{consume_taken}
use Rattle.dp.proofs.DpState.consume.Goals as goal

pub returns-then-consumes : goal.returns-then-consumes
returns-then-consumes c =
    consume_taken c.consumes.ensures c.if-taken-room.true c.if-consumes.true c.oldest-v.ensures c.word_bytes.ensures
    c.store_word.ensures c.consume_next.ensures
