-- Digits read back give the number that was written.
use Prim.Native.Nat.{ℕ, zero, suc, ◌+◌, ◌*◌, ◌/◌, ◌%◌, ◌<◌, ◌≤◌}
use mathlib.Core.Path.{◌≡◌, refl, sym, ap, ◌∙◌}
use mathlib.Core.Bool.{Bool, true, false, cond}
use mathlib.Core.List.{List, [], ◌∷◌, ◌++◌, append_assoc}
use native.Mathlib.Nat.{add-zero, zero-add}
use native.Mathlib.Omega.{arith}
use lib.Dec.{eqb}
use lib.ListN.{get_or, get_or-map}
use borrow.Author.Tests.{eqb-true, eqb-false}
use Rattle.listing.specs.Text.{Text, digits, hex_digit, decimal_digit, hex8, hex, leading, decimal, digit_value, read_from, from_hex, from_decimal}

-- ---- One digit

-- The n numbers from a on
abbrev count : ℕ → ℕ → List ℕ
count zero a = []
count (suc n) a = a ∷ count n (suc a)

counted : (n a k : ℕ) → k < n → get_or (count n a) k 0 ≡ a + k
counted zero a k h = absurd (omega arith)
counted (suc n) a zero h = sym (add-zero a)
counted (suc n) a (suc k) h = counted n (suc a) k (omega arith) ∙ omega arith

-- The values of the sixteen digits are the numbers from 0 on
digit_value_lem : (k : ℕ) → k < 16 → digit_value (get_or digits k 0) ≡ k
digit_value_lem k h = sym (get_or-map digit_value digits k 0) ∙ counted 16 0 k h ∙ zero-add k

hex_value : (n : ℕ) → digit_value (hex_digit n) ≡ n % 16
hex_value n = digit_value_lem (n % 16) (omega arith)

decimal_value : (n : ℕ) → digit_value (decimal_digit n) ≡ n % 10
decimal_value n = digit_value_lem (n % 10) (omega arith)

read_append : (base n : ℕ) (s t : Text) → read_from base n (s ++ t) ≡ read_from base (read_from base n s) t
read_append base n [] t = refl
read_append base n (b ∷ s) t = read_append base (n * base + digit_value b) s t

-- ---- Hex

-- One digit more
next_hex : (a q n : ℕ) → a ≡ q → n ≡ q * 16 + n % 16 → a * 16 + digit_value (hex_digit n) ≡ n
next_hex a q n e h = omega (arith, hex_value n)

-- Eight digits more
hex8_after : (a n : ℕ) → a ≡ n / 0x100000000 → read_from 16 a (hex8 n) ≡ n
hex8_after a n e =
    next_hex _ (n / 0x10) n
    (next_hex _ (n / 0x100) (n / 0x10)
    (next_hex _ (n / 0x1000) (n / 0x100)
    (next_hex _ (n / 0x10000) (n / 0x1000)
    (next_hex _ (n / 0x100000) (n / 0x10000)
    (next_hex _ (n / 0x1000000) (n / 0x100000)
    (next_hex _ (n / 0x10000000) (n / 0x1000000)
    (next_hex a (n / 0x100000000) (n / 0x10000000) e (omega arith))
    (omega arith))
    (omega arith))
    (omega arith))
    (omega arith))
    (omega arith))
    (omega arith))
    (omega arith)

-- The eight digits of a number that has no more
pub hex8_reads_back : (n : ℕ) → n < 0x100000000 → from_hex (hex8 n) ≡ n
hex8_reads_back n h = hex8_after 0 n (omega arith)

-- The sixteen digits of a word
pub hex_reads_back : (n : ℕ) → n < 0x10000000000000000 → from_hex (hex true n) ≡ n
unfolding hex
hex_reads_back n h = hex8_after _ n (hex8_reads_back (n / 0x100000000) (omega arith))

-- ---- Decimal

-- One digit more, and none where nothing stands before it and it is 0
next_leading : (n : ℕ) → read_from 10 (n / 10) (leading n) ≡ n
unfolding leading
next_leading n = at (eqb n 0) refl
  where
    at : (t : Bool) → eqb n 0 ≡ t → read_from 10 (n / 10) (cond t [] (decimal_digit n ∷ [])) ≡ n
    at true e = omega (arith, eqb-true n 0 e)
    at false e = omega (arith, decimal_value n)

after : (a n : ℕ) → a ≡ n / 10 → read_from 10 a (leading n) ≡ n
after a n e = rw e (next_leading n)

pub decimal_reads_back : (n : ℕ) → n < 100000 → from_decimal (decimal n) ≡ n
unfolding decimal
decimal_reads_back n h =
    let a : read_from 10 0 (leading (n / 10000)) ≡ n / 10000 = after 0 (n / 10000) (omega arith) in
    let b : read_from 10 (n / 10000) (leading (n / 1000)) ≡ n / 1000 = after (n / 10000) (n / 1000) (omega arith) in
    let c : read_from 10 (n / 1000) (leading (n / 100)) ≡ n / 100 = after (n / 1000) (n / 100) (omega arith) in
    let d : read_from 10 (n / 100) (leading (n / 10)) ≡ n / 10 = after (n / 100) (n / 10) (omega arith) in
    simp (read_append, a, b, c, d) (omega (arith, decimal_value n))

digit_not_zero : (n : ℕ) → n < 10 → (n ≡ 0 → ⊥) → decimal_digit n ≡ 48 → ⊥
digit_not_zero n h z e = omega (arith, z, decimal_value n, ap digit_value e)

-- A text that starts with a leading digit, or without it where it is 0, does not begin with `0` if its rest does not
first : (n : ℕ) (t : Text) → n < 10 → (n ≡ 0 → get_or t 0 0 ≡ 48 → ⊥) → get_or (leading n ++ t) 0 0 ≡ 48 → ⊥
unfolding leading
first n t h rest = at (eqb n 0) refl
  where
    at : (b : Bool) → eqb n 0 ≡ b → get_or (cond b [] (decimal_digit n ∷ []) ++ t) 0 0 ≡ 48 → ⊥
    at true e f = rest (eqb-true n 0 e) f
    at false e f = digit_not_zero n h (eqb-false n 0 e) f

-- A number of two digits or more does not begin with `0`
pub no_leading_zero : (n : ℕ) → 10 ≤ n → n < 100000 → get_or (decimal n) 0 0 ≡ 48 → ⊥
unfolding decimal
no_leading_zero n l h e =
    first (n / 10000) _ (omega arith)
    (λ a. first (n / 1000) _ (omega arith)
    (λ b. first (n / 100) _ (omega arith)
    (λ c. first (n / 10) (decimal_digit n ∷ []) (omega arith) (λ d f. omega arith))))
    (simp append_assoc at e)
