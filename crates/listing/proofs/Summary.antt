-- The line that sums a replay up has room in 128 bytes.
use Prim.Native.Nat.{ℕ, ◌≤◌}
use mathlib.Core.Bool.{Bool, true, false, cond}
use mathlib.Core.List.{◌++◌}
use native.Mathlib.Omega.{arith}
use lib.Dec.{eqb}
use lib.ListN.{length, length-append}
use Rattle.listing.specs.Text.{Text}
use Rattle.listing.specs.Summary.{counted, record_text, byte_text, refused_head, kind_text, cut_text, aligned_text, mapped_text, memory_text, long_text, other_text}
use Rattle.listing.specs.Summary.{is_records, reason, refused_at, passed_line, differs_line, nothing_line, refused_line}
use Rattle.listing.proofs.Lengths.{length_decimal}

pub length_passed : (compared : ℕ) → length (passed_line compared) ≤ 128
unfolding passed_line
length_passed compared = simp length-append (omega (arith, length_decimal compared))

pub length_differs : (compared differed index place : ℕ) → length (differs_line compared differed index place) ≤ 128
unfolding differs_line
length_differs compared differed index place =
    simp length-append
    (omega (arith, length_decimal compared, length_decimal differed, length_decimal index, length_decimal place))

pub length_nothing : length nothing_line ≤ 128
length_nothing = omega arith

either : (b : Bool) (x y : Text) (n : ℕ) → length x ≤ n → length y ≤ n → length (cond b x y) ≤ n
either true x y n h l = h
either false x y n h l = l

length_reason : (number : ℕ) → length (reason number) ≤ 36
unfolding reason
length_reason number =
    either (eqb number 7) kind_text _ 36 (omega arith)
    (either (eqb number 8) cut_text _ 36 (omega arith)
    (either (eqb number 10) aligned_text _ 36 (omega arith)
    (either (eqb number 5) mapped_text _ 36 (omega arith)
    (either (eqb number 6) memory_text _ 36 (omega arith)
    (either (eqb number 9) long_text other_text 36 (omega arith) (omega arith))))))

length_at : (number count place : ℕ) → length (refused_at number count place) ≤ 40
unfolding refused_at
length_at number count place =
    either (is_records number) (counted record_text count ++ counted byte_text place) refused_head 40
    (simp length-append (omega (arith, length_decimal count, length_decimal place)))
    (omega arith)

pub length_refused : (number count place : ℕ) → length (refused_line number count place) ≤ 128
unfolding refused_line
length_refused number count place =
    simp length-append (omega (arith, length_at number count place, length_reason number, length_decimal number))
