use Rattle.player.proofs.Performing.{sp_run_performed}
use Rattle.player.proofs.effects.sp_run_listed.Goals as goal

pub returns-clause-performed : goal.returns-clause-performed
returns-clause-performed c = sp_run_performed _ c.run-ran.ensures c.put_run.ensures.put
