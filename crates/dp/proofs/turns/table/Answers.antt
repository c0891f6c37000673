use mathlib.Core.Path.{refl}
use Rattle.dp.specs.Turn.{command_length}
use Rattle.dp.proofs.Lengths.{length_table}
use Rattle.dp.proofs.turns.table.Goals as goal

pub returns : goal.returns
unfolding command_length
returns c = length_table _ refl
