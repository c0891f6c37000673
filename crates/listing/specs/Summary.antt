-- The line that sums a replay up, as bytes: `passed`, `DIFFERS`, `REFUSED` or `NOTHING COMPARED`, and what is known of it. It ends with LF.
use Rattle.std.specs.Prelude.{ℕ, Bool, not, ◌&&◌, ◌++◌, codes, if◌then◌else◌, ◌==◌, nat_le}
use Rattle.listing.specs.Text.{Text, decimal, newline}

-- A text and a number in decimal
abbrev pub counted : Text → ℕ → Text
counted t n = t ++ decimal n

-- `passed, ` and ` compared`
abbrev pub passed_head : Text
passed_head = codes "passed, "

abbrev pub passed_end : Text
passed_end = codes " compared\n"

unfoldable pub passed_line : ℕ → Text
passed_line compared = counted passed_head compared ++ passed_end

-- `DIFFERS, `, ` of `, `; first at record ` and `, byte `
abbrev pub differs_head : Text
differs_head = codes "DIFFERS, "

abbrev pub of_text : Text
of_text = codes " of "

abbrev pub first_text : Text
first_text = codes "; first at record "

abbrev pub byte_text : Text
byte_text = codes ", byte "

unfoldable pub differs_line : ℕ → ℕ → ℕ → ℕ → Text
differs_line compared differed index place =
    counted differs_head differed ++ counted of_text compared ++ counted first_text index ++ counted byte_text place ++ newline

-- `NOTHING COMPARED: no record of kind 2 or 9`
abbrev pub nothing_line : Text
nothing_line = codes "NOTHING COMPARED: no record of kind 2 or 9\n"

-- Why, by the refusal's number
abbrev pub kind_text : Text
kind_text = codes "unknown kind"

abbrev pub cut_text : Text
cut_text = codes "cut short"

abbrev pub aligned_text : Text
aligned_text = codes "register address not a multiple of 4"

abbrev pub mapped_text : Text
mapped_text = codes "no register at this address"

abbrev pub memory_text : Text
memory_text = codes "memory address not allowed"

abbrev pub long_text : Text
long_text = codes "longer than 16,383 bytes"

abbrev pub other_text : Text
other_text = codes "not begun"

unfoldable pub reason : ℕ → Text
reason number =
    if number == 7 then kind_text
    else (if number == 8 then cut_text
    else (if number == 10 then aligned_text
    else (if number == 5 then mapped_text
    else (if number == 6 then memory_text
    else (if number == 9 then long_text
    else other_text)))))

-- 9, 1, 2, 3 and 4 are given before the first record; every other number is a record's
abbrev pub is_records : ℕ → Bool
is_records number = nat_le 5 number && not (number == 9)

-- `REFUSED`, and ` at record ` with the byte where it begins; `: ` and ` (`
abbrev pub refused_head : Text
refused_head = codes "REFUSED"

abbrev pub record_text : Text
record_text = codes "REFUSED at record "

abbrev pub colon_text : Text
colon_text = codes ": "

abbrev pub bracket_text : Text
bracket_text = codes " ("

abbrev pub bracket_end : Text
bracket_end = codes ")\n"

unfoldable pub refused_at : ℕ → ℕ → ℕ → Text
refused_at number count place =
    if is_records number then counted record_text count ++ counted byte_text place else refused_head

unfoldable pub refused_line : ℕ → ℕ → ℕ → Text
refused_line number count place = refused_at number count place ++ colon_text ++ reason number ++ counted bracket_text number ++ bracket_end
