-- The register that the checks gave is the one at the address.
use mathlib.Core.Path.{sym, ◌∙◌}
use Rattle.machine.specs.Calls.{write_register}
use Rattle.machine.proofs.Refusals.{declines, refused_outcome}
use Rattle.access.proofs.Access.{write_accepted}
use Rattle.access.proofs.addressed.write_register.Goals as goal

pub returns-in-Ok : goal.returns-in-Ok
unfolding write_register
returns-in-Ok c =
    let there = c.in-Ok.ensures in
    let done = write_accepted c.in-Ok.register c.args.s c.args.v in
    record {
      outcome = c.accepted.ensures ∙ rw (c.write.ensures, sym there.number, there.register) done;
    }

pub returns-in-Err : goal.returns-in-Err
unfolding write_register
returns-in-Err c =
    let d = declines c.access_refusal.ensures.number c.in-Err.is c.into.ensures in
    record { outcome = refused_outcome _ c.declined.ensures d.number d.refused }
