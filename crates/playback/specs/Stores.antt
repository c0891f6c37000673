-- What records do to memory: only runs with an SP budget and stores change it, a store changes one word, and a check finds what was stored.
use Rattle.std.specs.Prelude.{ℕ, ◌<◌, ◌≡◌, Bool, true, false}
use Rattle.words.specs.Memory.{Memory, RDRAM, DMEM, IMEM, bytes_of, fitted}
use Rattle.laws.specs.World.{World}
use Rattle.recording.specs.declared.Record.{Record}
use Rattle.recording.specs.declared.Record.TheVariants.{None, Write, Read, SpRun, DpRun, Tick, Break, Acknowledge, Store, Check, Run}
use Rattle.recording.specs.Reader.{memory_allowed}
use Rattle.playback.specs.Effects.{place_at, offset_at, load_at, store_at, after}

-- The eight bytes at an address are lent
abbrev pub fitted_at : ℕ → Memory → Bool
fitted_at a m = fitted (bytes_of (place_at a) m) (offset_at a)

pub record Stores (m : Memory) : Type 0 where
  -- A word that was stored is found there
  pub finds : (a word : ℕ) → word < 0x10000000000000000 → fitted_at a m ≡ true → load_at a (store_at a word m) ≡ word
  -- At every other address that kinds 8 and 9 may name the word is as before
  pub others : (a b word : ℕ) → memory_allowed a ≡ true → memory_allowed b ≡ true → (a ≡ b → ⊥) → load_at b (store_at a word m) ≡ load_at b m
  -- Past the lent length a store is dropped and a check finds zeros
  pub dropped : (a word : ℕ) → fitted_at a m ≡ false → store_at a word m ≡ m
  pub zeros : (a : ℕ) → fitted_at a m ≡ false → load_at a m ≡ 0

-- Where the memories begin and end
pub record Edges : Type 0 where
  pub last_of_rdram : (place_at 0x03EFFFF8 ≡ RDRAM) × (offset_at 0x03EFFFF8 ≡ 0x03EFFFF8)
  -- Not cut to 24 bits
  pub not_cut : offset_at 0x01000000 ≡ 0x01000000
  pub first_of_dmem : (place_at 0x04000000 ≡ DMEM) × (offset_at 0x04000000 ≡ 0)
  pub last_of_dmem : (place_at 0x04000FF8 ≡ DMEM) × (offset_at 0x04000FF8 ≡ 0xFF8)
  pub first_of_imem : (place_at 0x04001000 ≡ IMEM) × (offset_at 0x04001000 ≡ 0)
  pub last_of_imem : (place_at 0x04001FF8 ≡ IMEM) × (offset_at 0x04001FF8 ≡ 0xFF8)

-- The records that leave memory alone: all but runs with an SP budget and stores
abbrev pub keeps_memory : Record → Bool
keeps_memory None = true
keeps_memory (Write a v) = true
keeps_memory (Read a v) = true
keeps_memory (SpRun budget) = false
keeps_memory (DpRun budget) = true
keeps_memory (Tick n) = true
keeps_memory Break = true
keeps_memory Acknowledge = true
keeps_memory (Store a word) = false
keeps_memory (Check a word) = true
keeps_memory (Run spbudget dpbudget) = false

pub record LeftAlone (w : World) : Type 0 where
  pub memory : (r : Record) → keeps_memory r ≡ true → (after r w).memory ≡ w.memory
  -- Stores and checks of memory leave every register and both lines alone
  pub state_by_store : (a word : ℕ) → (after (Store a word) w).state ≡ w.state
  pub state_by_check : (a word : ℕ) → (after (Check a word) w).state ≡ w.state
