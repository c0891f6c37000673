-- The lengths of the lines: a run's has 11 bytes, a register's at most 38, a word's at most 54.
use Prim.Native.Nat.{ℕ, ◌+◌, ◌/◌, ◌≤◌}
use mathlib.Core.Path.{◌≡◌, refl}
use mathlib.Core.Bool.{Bool, true, false, cond}
use mathlib.Core.List.{[], ◌∷◌, ◌++◌}
use native.Mathlib.Omega.{arith}
use lib.Dec.{eqb}
use lib.ListN.{length, length-append}
use Rattle.listing.specs.Text.{decimal_digit, hex8, hex, leading, decimal, ok_text, expected_text, newline}
use Rattle.listing.specs.Text.{run_line, verdict, found_line, end_line, stop_line}

-- ---- Numbers

pub length_hex8 : (n : ℕ) → length (hex8 n) ≡ 8
length_hex8 n = refl

pub length_hex : (word : Bool) (n : ℕ) → length (hex word n) ≡ cond word 16 8
unfolding hex
length_hex true n = refl
length_hex false n = refl

length_leading : (n : ℕ) → length (leading n) ≤ 1
unfolding leading
length_leading n = at (eqb n 0)
  where
    at : (t : Bool) → length (cond t [] (decimal_digit n ∷ [])) ≤ 1
    at true = omega arith
    at false = omega arith

pub length_decimal : (n : ℕ) → length (decimal n) ≤ 5
unfolding decimal
length_decimal n =
    simp length-append (omega (arith, length_leading (n / 10000), length_leading (n / 1000), length_leading (n / 100), length_leading (n / 10)))

-- ---- Lines

pub length_run : (letter n : ℕ) → length (run_line letter n) ≡ 11
unfolding run_line
length_run letter n = refl

length_verdict : (word : Bool) (f e : ℕ) → length (verdict word f e) ≤ 11 + cond word 16 8
unfolding verdict
length_verdict word f e = at (eqb f e)
  where
    at : (t : Bool) → length (cond t ok_text (expected_text ++ hex word e ++ newline)) ≤ 11 + cond word 16 8
    at true = omega arith
    at false = simp (length-append, length_hex) (omega arith)

pub length_found : (letter : ℕ) (word : Bool) (a f e : ℕ) → length (found_line letter word a f e) ≤ 22 + cond word 16 8 + cond word 16 8
unfolding found_line
length_found letter word a f e = simp (length-append, length_hex) (omega (arith, length_verdict word f e))

pub length_end : (n : ℕ) → length (end_line n) ≤ 10
unfolding end_line
length_end n = simp length-append (omega (arith, length_decimal n))

pub length_stop : (n k p : ℕ) → length (stop_line n k p) ≤ 23
unfolding stop_line
length_stop n k p = simp length-append (omega (arith, length_decimal n, length_decimal k, length_decimal p))
