use mathlib.Core.Path.{refl, sym, ◌∙◌}
use Rattle.bursts.specs.Bursts.{write_registers}
use Rattle.bursts.proofs.Bursts.{burst_begins}
use Rattle.machine.proofs.Refusals.{passed, declines, refused_outcome}
use Rattle.access.proofs.burst.write_registers.Goals as goal

pub returns-in-Ok : goal.returns-in-Ok
returns-in-Ok c = record {
  outcome =
      c.write_all.ensures
      ∙ sym (burst_begins _ _ _ (sym (passed c.burst_refusal.ensures c.in-Ok.is)));
  addresses_kept = refl;
  values_kept = refl;
}

pub returns-in-Err : goal.returns-in-Err
unfolding write_registers
returns-in-Err c =
    let d = declines c.burst_refusal.ensures c.in-Err.is c.into.ensures in
    record {
      outcome = refused_outcome _ c.declined.ensures d.number d.refused;
      addresses_kept = refl;
      values_kept = refl;
    }
