use native.Mathlib.Omega.{arith}
use Rattle.dp.proofs.Lengths.{entry_at}
use Rattle.dp.proofs.turns.command_length.Goals as goal

pub returns : goal.returns
returns c = entry_at c.table.ensures _ c.args.first (omega arith) (omega arith)
