-- Where a run stands with one kind of turn.
use Rattle.std.specs.Prelude.{ℕ}
use Rattle.words.specs.declared.stepped.Stepped.{Stepped}

-- The registers of an engine, and how many words it has moved, fetched or put out
abbrev pub ran : {S : Type 0} → S → ℕ → Stepped S
ran s count = record { state = s; count = count }
