use Rattle.engines.proofs.Promised.{sp_turn_given}
use Rattle.engines.proofs.turns.sp_turn.Goals as goal

pub returns : goal.returns
returns c = sp_turn_given c.run.ensures
