-- The kinds of records: one byte of kind, then a body whose length the kind fixes, numbers most significant byte first.
use Rattle.std.specs.Prelude.{ℕ, ◌+◌, ◌*◌, ◌<◌, Bool, ◌&&◌, ◌||◌, List, [], ◌∷◌, leb, eqb, get_or}
use Rattle.recording.specs.declared.Record.{Record}
use Rattle.recording.specs.declared.Record.TheVariants.{None, Write, Read, SpRun, DpRun, Tick, Break, Acknowledge, Store, Check, Run}

-- A byte, 0 past the end
abbrev pub byte : List ℕ → ℕ → ℕ
byte s i = get_or s i 0

-- Bytes, as the types of the code have them
abbrev pub Bytes : List ℕ → Type 0
Bytes s = (i : ℕ) → byte s i < 256

-- Four bytes as a number
abbrev pub joined : ℕ → ℕ → ℕ → ℕ → ℕ
joined a b c d = ((a * 256 + b) * 256 + c) * 256 + d

-- The four bytes from i on, and the eight
abbrev pub four : List ℕ → ℕ → ℕ
four s i = joined (byte s i) (byte s (i + 1)) (byte s (i + 2)) (byte s (i + 3))

abbrev pub eight : List ℕ → ℕ → ℕ
eight s i = four s i * 0x100000000 + four s (i + 4)

-- Kinds 1 to 10
abbrev pub is_kind : ℕ → Bool
is_kind kind = leb 1 kind && leb kind 10

-- Those that name a register, those that have one number of four bytes, those that name a memory address, and the one that has two budgets
abbrev pub accesses : ℕ → Bool
accesses kind = eqb kind 1 || eqb kind 2

abbrev pub runs_or_ticks : ℕ → Bool
runs_or_ticks kind = leb 3 kind && leb kind 5

abbrev pub stores_or_checks : ℕ → Bool
stores_or_checks kind = eqb kind 8 || eqb kind 9

abbrev pub runs_both : ℕ → Bool
runs_both kind = eqb kind 10

-- The length of the body of each kind, from 0 on, which is no kind
abbrev pub bodies : List ℕ
bodies = 0 ∷ 8 ∷ 8 ∷ 4 ∷ 4 ∷ 4 ∷ 0 ∷ 0 ∷ 12 ∷ 12 ∷ 8 ∷ []

abbrev pub body_size : ℕ → ℕ
body_size kind = get_or bodies kind 0

-- How many bytes a record takes
abbrev pub size : ℕ → ℕ
size kind = 1 + body_size kind

-- The record of each kind, from 0 on, where a is the first four bytes of its body, v the four after them, and w the eight after the first four
abbrev pub kinds : ℕ → ℕ → ℕ → List Record
kinds a v w =
    None
    ∷ Write a v
    ∷ Read a v
    ∷ SpRun a
    ∷ DpRun a
    ∷ Tick a
    ∷ Break
    ∷ Acknowledge
    ∷ Store a w
    ∷ Check a w
    ∷ Run a v
    ∷ []

unfoldable pub decoded : ℕ → ℕ → ℕ → ℕ → Record
decoded kind a v w = get_or (kinds a v w) kind None

-- The kind that bytes begin with, and the record
abbrev pub kind_of : List ℕ → ℕ
kind_of s = byte s 0

unfoldable pub record_of : List ℕ → Record
record_of s = decoded (kind_of s) (four s 1) (four s 5) (eight s 5)
