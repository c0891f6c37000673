-- The listing's lines, as bytes. Every line ends with LF.
use Rattle.std.specs.Prelude.{ℕ, ◌+◌, ◌-◌, ◌*◌, ◌/◌, ◌%◌, Bool, List, [], ◌∷◌, ◌++◌, codes}
use Rattle.std.specs.Prelude.{if◌then◌else◌, ◌==◌, nat_lt, slice_index}

abbrev pub Text : Type 0
Text = List ℕ

-- The digits of a number
abbrev pub digits : Text
digits = codes "0123456789ABCDEF"

-- The last digit of a number
abbrev pub hex_digit : ℕ → ℕ
hex_digit n = slice_index digits (n % 16)

abbrev pub decimal_digit : ℕ → ℕ
decimal_digit n = slice_index digits (n % 10)

-- The last eight hex digits
abbrev pub hex8 : ℕ → Text
hex8 n =
    hex_digit (n / 0x10000000)
    ∷ hex_digit (n / 0x1000000)
    ∷ hex_digit (n / 0x100000)
    ∷ hex_digit (n / 0x10000)
    ∷ hex_digit (n / 0x1000)
    ∷ hex_digit (n / 0x100)
    ∷ hex_digit (n / 0x10)
    ∷ hex_digit n
    ∷ []

-- Sixteen hex digits for a word, else eight
unfoldable pub hex : Bool → ℕ → Text
hex word n = if word then hex8 (n / 0x100000000) ++ hex8 n else hex8 n

-- The last decimal digit of a number; no digit for 0
unfoldable pub leading : ℕ → Text
leading n = if n == 0 then [] else decimal_digit n ∷ []

-- A number below 100,000 in decimal
unfoldable pub decimal : ℕ → Text
decimal n = leading (n / 10000) ++ leading (n / 1000) ++ leading (n / 100) ++ leading (n / 10) ++ (decimal_digit n ∷ [])

-- The fixed texts
abbrev pub header : Text
header = codes "replay 1\n"

abbrev pub ok_text : Text
ok_text = codes " ok\n"

abbrev pub expected_text : Text
expected_text = codes " expected "

abbrev pub end_text : Text
end_text = codes "end "

abbrev pub stop_text : Text
stop_text = codes "stop "

abbrev pub space : Text
space = codes " "

abbrev pub newline : Text
newline = codes "\n"

-- A letter and a space
abbrev pub head : ℕ → Text
head letter = letter ∷ 32 ∷ []

-- The letters `S`, `D`, `R` and `L`
abbrev pub letter_s : ℕ
letter_s = 83

abbrev pub letter_d : ℕ
letter_d = 68

abbrev pub letter_r : ℕ
letter_r = 82

abbrev pub letter_l : ℕ
letter_l = 76

-- `S` or `D` and a count
unfoldable pub run_line : ℕ → ℕ → Text
run_line letter count = head letter ++ hex8 count ++ newline

-- `ok`, or `expected` and the value expected
unfoldable pub verdict : Bool → ℕ → ℕ → Text
verdict word found expected =
    if found == expected then ok_text else expected_text ++ hex word expected ++ newline

-- `R` or `L`, an address, the value found there, and the verdict
unfoldable pub found_line : ℕ → Bool → ℕ → ℕ → ℕ → Text
found_line letter word address found expected = head letter ++ hex8 address ++ space ++ hex word found ++ verdict word found expected

-- `end` and the number of records
unfoldable pub end_line : ℕ → Text
end_line count = end_text ++ decimal count ++ newline

-- `stop`, the zero-based record, the number and the place where the record begins
unfoldable pub stop_line : ℕ → ℕ → ℕ → Text
stop_line count number place = stop_text ++ decimal count ++ space ++ decimal number ++ space ++ decimal place ++ newline

-- ---- What is proved of it

-- A digit's value, and digits read from the left after a number that was read before them
abbrev pub digit_value : ℕ → ℕ
digit_value b = if nat_lt b 65 then b - 48 else b - 55

abbrev pub read_from : ℕ → ℕ → Text → ℕ
read_from base n [] = n
read_from base n (b ∷ bs) = read_from base (n * base + digit_value b) bs

abbrev pub from_hex : Text → ℕ
from_hex t = read_from 16 0 t

abbrev pub from_decimal : Text → ℕ
from_decimal t = read_from 10 0 t
