-- What a record tells of its comparison: None where it compares nothing, else whether what it
-- found is as expected.
use Rattle.std.specs.Prelude.{Bool, false, not, Option, None, Some}

-- It compared, and what it found is not as expected
abbrev pub is_unexpected : Option Bool → Bool
is_unexpected None = false
is_unexpected (Some as_expected) = not as_expected
