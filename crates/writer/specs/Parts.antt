-- What the steps of the code that fills a part with a record's bytes leave.
use Rattle.std.specs.Prelude.{ℕ, ◌+◌, cond, List, leb, length}
use Rattle.std.proofs.lemmas.List.Edits.{sets}
use Rattle.recording.specs.declared.Fields.{Fields}
use Rattle.recording.specs.Kinds.{stores_or_checks}
use Rattle.recording.specs.Fields.{low, high}
use Rattle.recording.specs.Writer.{four_bytes}

-- The number after the first field: the upper half of the word of kinds 8 and 9, the value of kinds 1 and 2, the lower half of the value of kind 10
abbrev pub second_field : Fields → ℕ
second_field f = cond (stores_or_checks f.kind) (high f) (low f)

-- Four bytes at a place, where the part has room for them
abbrev pub four_put : List ℕ → ℕ → ℕ → List ℕ
four_put d at v = cond (leb (at + 4) (length d)) (sets d at (four_bytes v)) d
