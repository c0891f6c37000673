-- Each line of a listing is counted as one line, by what it begins with.
use Prim.Native.Nat.{ℕ, ◌+◌, ◌/◌, ◌%◌, ◌<◌}
use mathlib.Core.Path.{◌≡◌, refl, ap, subst, ◌∙◌}
use mathlib.Core.Bool.{Bool, true, false, cond}
use mathlib.Core.List.{[], ◌∷◌, ◌++◌, append_assoc, append-nil}
use native.Mathlib.Omega.{arith}
use lib.Dec.{eqb}
use lib.ListN.{get_or}
use Rattle.words.specs.Bits.{as_bit}
use Rattle.words.proofs.Tables.{tables_agree}
use Rattle.listing.specs.Text.{Text, digits, hex_digit, decimal_digit, hex8, hex, leading, decimal}
use Rattle.listing.specs.Text.{header, ok_text, expected_text, end_text, stop_text, space, newline, head, run_line, verdict, found_line, end_line, stop_line}
use Rattle.listing.specs.TakenApart.{count_lines}

-- ---- No LF within a line

data NoLf : Text → Type 0 where
  none : NoLf []
  also : {b : ℕ} {l : Text} → eqb b 10 ≡ false → NoLf l → NoLf (b ∷ l)

both : {s t : Text} → NoLf s → NoLf t → NoLf (s ++ t)
both none q = q
both (also h p) q = also h (both p q)

-- None of the sixteen digits is LF
digit : (k : ℕ) → k < 16 → eqb (get_or digits k 0) 10 ≡ false
digit = tables_agree 16 (λ (k : ℕ). eqb (get_or digits k 0) 10) (λ (k : ℕ). false) refl

hex_digit_lem : (n : ℕ) → eqb (hex_digit n) 10 ≡ false
hex_digit_lem n = digit (n % 16) (omega arith)

decimal_digit_lem : (n : ℕ) → NoLf (decimal_digit n ∷ [])
decimal_digit_lem n = also (digit (n % 10) (omega arith)) none

in_hex8 : (n : ℕ) → NoLf (hex8 n)
in_hex8 n =
    also (hex_digit_lem (n / 0x10000000))
    (also (hex_digit_lem (n / 0x1000000))
    (also (hex_digit_lem (n / 0x100000))
    (also (hex_digit_lem (n / 0x10000))
    (also (hex_digit_lem (n / 0x1000))
    (also (hex_digit_lem (n / 0x100))
    (also (hex_digit_lem (n / 0x10))
    (also (hex_digit_lem n) none)))))))

in_hex : (word : Bool) (n : ℕ) → NoLf (hex word n)
unfolding hex
in_hex true n = both (in_hex8 (n / 0x100000000)) (in_hex8 n)
in_hex false n = in_hex8 n

in_leading : (n : ℕ) → NoLf (leading n)
unfolding leading
in_leading n = at (eqb n 0)
  where
    at : (t : Bool) → NoLf (cond t [] (decimal_digit n ∷ []))
    at true = none
    at false = decimal_digit_lem n

in_decimal : (n : ℕ) → NoLf (decimal n)
unfolding decimal
in_decimal n =
    both (both (both (both (in_leading (n / 10000)) (in_leading (n / 1000))) (in_leading (n / 100))) (in_leading (n / 10))) (decimal_digit_lem n)

in_space : NoLf space
in_space = also refl none

in_head : (letter : ℕ) → eqb letter 10 ≡ false → NoLf (head letter)
in_head letter l = also l in_space

-- ---- One line

-- What stands before LF is tested, and the next line begins after it
after_line : (test : Text → Bool) (seen l t : Text) → NoLf l → count_lines test seen (l ++ (10 ∷ t)) ≡ as_bit (test (seen ++ l)) + count_lines test [] t
unfolding count_lines
after_line test seen [] t none = rw (append-nil seen)
after_line test seen (b ∷ l) t (also h p) =
    rw h (after_line test (seen ++ (b ∷ [])) l t p ∙ ap (λ (u : Text). as_bit (test u) + count_lines test [] t) (append_assoc seen (b ∷ []) l))

-- A text that comes first is counted if this holds, and the lines after it as if it were not there
abbrev pub Counted : (Text → Bool) → Bool → Text → Type 0
Counted test holds l = (t : Text) → count_lines test [] (l ++ t) ≡ as_bit holds + count_lines test [] t

one_line : (test : Text → Bool) (holds : Bool) (l : Text) → NoLf l → test l ≡ holds → Counted test holds (l ++ newline)
one_line test holds l h e t =
    ap (count_lines test []) (append_assoc l newline t)
    ∙ after_line test [] l t h
    ∙ ap (λ (b : Bool). as_bit b + count_lines test [] t) e

-- ---- The lines of a listing

pub header_counted : (test : Text → Bool) → test (114 ∷ 101 ∷ 112 ∷ 108 ∷ 97 ∷ 121 ∷ 32 ∷ 49 ∷ []) ≡ false → Counted test false header
header_counted test e =
    one_line test false (114 ∷ 101 ∷ 112 ∷ 108 ∷ 97 ∷ 121 ∷ 32 ∷ 49 ∷ [])
    (also refl (also refl (also refl (also refl (also refl (also refl (also refl (also refl none)))))))) e

pub run_counted : (test : Text → Bool) (holds : Bool) (letter count : ℕ) → eqb letter 10 ≡ false → test (head letter ++ hex8 count) ≡ holds
    → Counted test holds (run_line letter count)
unfolding run_line
run_counted test holds letter count l e =
    one_line test holds (head letter ++ hex8 count) (both (in_head letter l) (in_hex8 count)) e

-- What stands before the verdict
abbrev pub value : ℕ → Bool → ℕ → ℕ → Text
value letter word address found = head letter ++ hex8 address ++ space ++ hex word found

abbrev pub ok_end : Text
ok_end = 32 ∷ 111 ∷ 107 ∷ []

in_value : (letter : ℕ) (word : Bool) (a f : ℕ) → eqb letter 10 ≡ false → NoLf (value letter word a f)
in_value letter word a f l = both (both (both (in_head letter l) (in_hex8 a)) in_space) (in_hex word f)

-- By whether the value found is the one expected
pub found_counted : (test : Text → Bool) (holds : Bool → Bool) (letter : ℕ) (word : Bool) (a f e : ℕ) → eqb letter 10 ≡ false
    → test (value letter word a f ++ ok_end) ≡ holds true
    → test (value letter word a f ++ expected_text ++ hex word e) ≡ holds false
    → Counted test (holds (eqb f e)) (found_line letter word a f e)
unfolding found_line verdict
found_counted test holds letter word a f e l same other = at (eqb f e)
  where
    at : (b : Bool) → Counted test (holds b) (value letter word a f ++ cond b ok_text (expected_text ++ hex word e ++ newline))
    at true =
        let q : value letter word a f ++ ok_end ++ newline ≡ value letter word a f ++ ok_text = append_assoc (value letter word a f) ok_end newline in
        subst (Counted test (holds true)) q (one_line test (holds true) (value letter word a f ++ ok_end) (both (in_value letter word a f l) (also refl (also refl (also refl none)))) same)
    at false =
        let x : NoLf expected_text =
        also refl (also refl (also refl (also refl (also refl (also refl (also refl (also refl (also refl (also refl none))))))))) in
        let q : value letter word a f ++ expected_text ++ hex word e ++ newline ≡ value letter word a f ++ (expected_text ++ hex word e ++ newline) =
        append_assoc (value letter word a f ++ expected_text) (hex word e) newline
        ∙ append_assoc (value letter word a f) expected_text (hex word e ++ newline) in
        subst (Counted test (holds false)) q
        (one_line test (holds false) (value letter word a f ++ expected_text ++ hex word e)
        (both (both (in_value letter word a f l) x) (in_hex word e))
        other)

pub end_counted : (test : Text → Bool) (count : ℕ) → test (end_text ++ decimal count) ≡ false → Counted test false (end_line count)
unfolding end_line
end_counted test count e =
    one_line test false (end_text ++ decimal count)
    (both (also refl (also refl (also refl (also refl none)))) (in_decimal count))
    e

pub stop_counted : (test : Text → Bool) (count number place : ℕ)
    → test (stop_text ++ decimal count ++ space ++ decimal number ++ space ++ decimal place) ≡ false
    → Counted test false (stop_line count number place)
unfolding stop_line
stop_counted test count number place e =
    one_line test false (stop_text ++ decimal count ++ space ++ decimal number ++ space ++ decimal place)
    (both (both (both (both (both in-stop (in_decimal count)) in_space) (in_decimal number)) in_space) (in_decimal place))
    e
  where
    in-stop : NoLf stop_text
    in-stop = also refl (also refl (also refl (also refl (also refl none))))
