-- The register that the checks gave is the one at the address.
use mathlib.Core.Path.{refl, sym, ◌∙◌}
use Rattle.machine.specs.Calls.{read_register}
use Rattle.machine.proofs.Refusals.{declines, refused_outcome}
use Rattle.access.proofs.addressed.read_register.Goals as goal

pub returns-in-Ok : goal.returns-in-Ok
unfolding read_register
returns-in-Ok c =
    let there = c.in-Ok.ensures in
    record { outcome = c.read_at.ensures ∙ rw (sym there.number, there.register) refl }

pub returns-in-Err : goal.returns-in-Err
unfolding read_register
returns-in-Err c =
    let d = declines c.access_refusal.ensures.number c.in-Err.is c.into.ensures in
    record { outcome = refused_outcome _ c.declined.ensures d.number d.refused }
