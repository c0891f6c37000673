use Rattle.dp.proofs.Tried.{fetch_taken}
use Rattle.dp.proofs.DpState.fetch.Goals as goal

pub returns-then-fetches : goal.returns-then-fetches
returns-then-fetches c =
    fetch_taken c.fetches.ensures c.if-taken-budget.true c.if-fetches.true c.slot.ensures.0 c.list_word.ensures
    c.word_value.ensures c.fetch_next.ensures
