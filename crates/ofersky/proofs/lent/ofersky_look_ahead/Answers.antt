use Prim.Native.Nat.{ℕ, ◌%◌}
use mathlib.Core.Path.{◌≡◌, ap, ◌∙◌}
use mathlib.Core.Bool.{Bool, true, false, cond, ◌&&◌}
use mathlib.Core.List.{List}
use lib.Dec.{eqb}
use lib.ListN.{length}
use denote.Ref.{Bor}
use Rattle.words.proofs.Bytes.{bytes_length}
use Rattle.machine.specs.declared.State.{State}
use Rattle.machine.specs.Refusals.{dp_refusal}
use Rattle.machine.specs.Look.{Part, rdram_word, dmem_word, rdram_empty, dmem_empty, shown, look}
use Rattle.machine.specs.Promised.{part_of, LookGives}
use Rattle.host.specs.declared.HostState.{HostState}
use Rattle.host.specs.declared.HostPart.{HostPart}
use Rattle.host.specs.States.{decoded}
use Rattle.host.specs.Parts.{placed, part_handed}
use Rattle.ofersky.proofs.lent.ofersky_look_ahead.Goals as goal

-- A part of n bytes as the code hands it over, by what XBUS selects
abbrev part_at : Bool → ℕ → ℕ → HostPart
part_at xbus current n =
    cond xbus (placed 1 (cond (eqb n 0) 0 (current % 0x1000)) (cond (eqb n 0) 0 8))
    (placed 0 (cond (eqb n 0) 0 current) (cond (eqb n 0) 0 8))

module _ (rdram dmem r : Bor (List ℕ)) (a : ℕ) where
  abbrev part : Bool → Bool → Part
  part shown xbus =
      cond shown (cond xbus (dmem_word (a % 0x1000)) (rdram_word a))
      (cond xbus dmem_empty rdram_empty)

  by_part : (shown xbus : Bool) → part_of (part shown xbus) rdram dmem r
      → part_at xbus a (length r.now) ≡ part_handed (part shown xbus)
  by_part true true g = rw (g.bytes, bytes_length dmem.now (a % 0x1000))
  by_part true false g = rw (g.bytes, bytes_length rdram.now a)
  by_part false true g = rw g.bytes
  by_part false false g = rw g.bytes

look_given : (h : HostState) {s : State} {rdram dmem r : Bor (List ℕ)} {x y : List ℕ} {p : HostPart}
    → s ≡ decoded h → LookGives s rdram dmem r x y
    → p ≡ part_at s.dp.xbus s.dp.current (length r.now)
    → p ≡ part_handed (look (decoded h) rdram.now dmem.now)
unfolding look
look_given h {s} {rdram} {dmem} {r} d g e =
    let seen = eqb (dp_refusal s rdram.now dmem.now) 0 && shown s.dp rdram.now dmem.now in
    e ∙ by_part rdram dmem r s.dp.current seen s.dp.xbus g.part
    ∙ ap (λ t. part_handed (look t rdram.now dmem.now)) d

pub returns-clause-part : goal.returns-clause-part
returns-clause-part c =
    look_given c.args.s c.from-state.ensures c.look_ahead-n.ensures c.part_at.ensures
