use Rattle.player.proofs.Performing.{run_performed}
use Rattle.player.proofs.effects.run_listed.Goals as goal

pub returns-clause-performed : goal.returns-clause-performed
returns-clause-performed c =
    let r = c.replay_run-ran.ensures in
    run_performed _ _ r.given r.bytes c.put_run.ensures.put c.put_run-2.ensures.put
