-- What the reads and memory checks of a replay found. It is told by the records' own answers, found against expected, and not by the listing.
use Rattle.std.specs.Prelude.{ℕ, ◌+◌, Bool, true, false, not, if◌then◌else◌, List, [], ◌∷◌, ◌==◌}
use Rattle.words.specs.Bits.{as_bit}
use Rattle.machine.specs.Calls.{read_register}
use Rattle.laws.specs.World.{World}
use Rattle.recording.specs.declared.Record.{Record}
use Rattle.recording.specs.declared.Record.TheVariants.{None, Write, Read, SpRun, DpRun, Tick, Break, Acknowledge, Store, Check, Run}
use Rattle.recording.specs.Fields.{record_size}
use Rattle.playback.specs.declared.Findings.{Findings}
use Rattle.playback.specs.Effects.{load_at, after}

-- The records that compare: reads (kind 2) and memory checks (kind 9)
abbrev pub compares : Record → Bool
compares None = false
compares (Write a v) = false
compares (Read a v) = true
compares (SpRun budget) = false
compares (DpRun budget) = false
compares (Tick n) = false
compares Break = false
compares Acknowledge = false
compares (Store a word) = false
compares (Check a word) = true
compares (Run spbudget dpbudget) = false

-- It compares, and the value found is not the value expected
abbrev pub differs : Record → World → Bool
differs None w = false
differs (Write a v) w = false
differs (Read a v) w = not ((read_register w.state a).answer.value == v)
differs (SpRun budget) w = false
differs (DpRun budget) w = false
differs (Tick n) w = false
differs Break w = false
differs Acknowledge w = false
differs (Store a word) w = false
differs (Check a word) w = not (load_at a w.memory == word)
differs (Run spbudget dpbudget) w = false

-- How many of the records a test holds for, each in the world that the records before it left
unfoldable pub total : (Record → World → Bool) → List Record → World → ℕ
total test [] w = 0
total test (r ∷ rs) w = as_bit (test r w) + total test rs (after r w)

-- How many were compared, and how many of them differed
abbrev pub compared : List Record → World → ℕ
compared rs w = total (λ (r : Record) (v : World). compares r) rs w

abbrev pub differed : List Record → World → ℕ
differed rs w = total differs rs w

-- Where the first of them that differs begins, if the first of all begins at n and each takes as much as its size; 0 where none differs
unfoldable pub first_from : (Record → ℕ) → ℕ → List Record → World → ℕ
first_from size n [] w = 0
first_from size n (r ∷ rs) w =
    if differs r w then n else first_from size (n + size r) rs (after r w)

-- As an index each record takes one
abbrev pub one : Record → ℕ
one r = 1

-- What the records of a recording found
abbrev pub findings : List Record → World → Findings
findings rs w =
    record { compared = compared rs w; differed = differed rs w; index = first_from one 0 rs w; place = first_from record_size 0 rs w }

abbrev pub no_findings : Findings
no_findings = record { compared = 0; differed = 0; index = 0; place = 0 }
