-- The three lent memories as one value: their bytes, and that they are the same three references.
use Rattle.std.specs.Prelude.{◌≡◌}
use Rattle.words.specs.declared.memory.Lent.{Lent}
use Rattle.words.specs.Memory.{Memory, memory}

-- The bytes behind the three references
abbrev pub lent : Lent → Memory
lent m = memory m.rdram.now m.dmem.now m.imem.now

-- Each field holds the reference that it held: only what is behind it may have changed
pub record SameLent (m n : Lent) : Type 0 where
  pub rdram : n.rdram.ghost_name ≡ m.rdram.ghost_name
  pub dmem : n.dmem.ghost_name ≡ m.dmem.ghost_name
  pub imem : n.imem.ghost_name ≡ m.imem.ghost_name
