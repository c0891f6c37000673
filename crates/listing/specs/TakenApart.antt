-- A listing taken apart again: how many of its lines a test holds for.
use Rattle.std.specs.Prelude.{ℕ, ◌+◌, Bool, true, false, cond, ◌&&◌, ◌||◌, [], ◌∷◌, ◌++◌, eqb, get_or, drop}
use Rattle.words.specs.Bits.{as_bit}
use Rattle.listing.specs.Text.{Text, letter_r, letter_l, expected_text}

-- The lines of a text, of whose first one this much was seen before. A line ends with LF, and the test is given what stands before it
unfoldable pub count_lines : (Text → Bool) → Text → Text → ℕ
count_lines test seen [] = 0
count_lines test seen (b ∷ t) = cond (eqb b 10) (as_bit (test seen) + count_lines test [] t) (count_lines test (seen ++ (b ∷ [])) t)

-- An `R` or an `L` line
abbrev pub compared_line : Text → Bool
compared_line l = eqb (get_or l 0 0) letter_r || eqb (get_or l 0 0) letter_l

-- A text begins with another one
unfoldable pub begins : Text → Text → Bool
begins [] l = true
begins (b ∷ t) [] = false
begins (b ∷ t) (c ∷ l) = eqb b c && begins t l

-- One of them with ` expected ` after the value found, which has 8 digits in an `R` line and 16 in an `L` line
abbrev pub expected_line : Text → Bool
expected_line l = (eqb (get_or l 0 0) letter_r && begins expected_text (drop 19 l)) || (eqb (get_or l 0 0) letter_l && begins expected_text (drop 27 l))
