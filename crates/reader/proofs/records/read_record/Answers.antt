use Prim.Native.Nat.{ℕ, ◌-◌, ◌<◌, ◌≤◌}
use mathlib.Core.Logic.{◌⊎◌, inl, inr}
use mathlib.Core.Path.{◌≡◌, refl, sym, ap, ◌∙◌}
use mathlib.Core.List.{List}
use native.Mathlib.Nat.{le_refl}
use native.Mathlib.Omega.{arith}
use lib.ListN.{length, drop, take, length-drop}
use lib.Seq.{take_all}
use Rattle.std.specs.Prelude.{Err}
use Rattle.std.proofs.lemmas.Result.{err_from_is_err_and}
use Rattle.recording.specs.Reader.{Reading, found, refused, first, reading_of}
use Rattle.machine.specs.Refusals.{number}
use Rattle.machine.proofs.Refusals.{numbers_apart}
use Rattle.recording.proofs.Accepted.{first_within, read_long, read_found, read_refused, read_past}
use Rattle.reader.proofs.records.read_record.Goals as goal

-- The bytes from a place up to the end are those from the place on
from_on : {r : Reading} {rest : List ℕ} (s : List ℕ) (at : ℕ)
    → rest ≡ take (length s - at) (drop at s) → r ≡ first rest
    → r ≡ first (drop at s)
from_on s at t e =
    let all : length (drop at s) ≤ length s - at = simp length-drop (le_refl (length s - at)) in
    e ∙ ap first (t ∙ take_all (length s - at) (drop at s) all)

-- So the place after their record is at most their number
within : {r : Reading} (s : List ℕ) (at : ℕ) → r ≡ first (drop at s) → r.place ≤ length s - at
within s at e = rw e (simp length-drop at (first_within (drop at s)))

-- No part begins at a place that is past the end
past : {n at : ℕ} → (n < at) ⊎ (n < n) → n ≤ at
past (inl h) = omega arith
past (inr h) = absurd (omega arith)

pub returns-then-recording-gt16383 : goal.returns-then-recording-gt16383
returns-then-recording-gt16383 c =
    let a = c.args in
    record {
      reading = sym (read_long a.recording.now a.place c.if-recording-gt16383.true);
      recording_kept = refl;
    }

pub returns-in_default : goal.returns-in_default
returns-in_default c =
    let a = c.args in
    record {
      reading =
          sym (read_past a.recording.now a.place c.if-recording-gt16383.false
          (past c.in_default.ensures.lookup.0));
      recording_kept = refl;
    }

pub returns-in_err-item : goal.returns-in_err-item
returns-in_err-item c =
    let a = c.args in
    let s = a.recording.now in
    let why = c.in_err-item.field-0.0 in
    let up = err_from_is_err_and c.from_residual.result c.from_residual.ensures.1 in
    let e = from_on s a.place c.in-Some.ensures.lookup.0.2 c.in_err-item.ensures in
    record {
      reading =
          ap reading_of (up.1 ∙ ap Err up.2)
          ∙ sym (read_refused s a.place (refused (number why)) c.if-recording-gt16383.false e
          (numbers_apart.never_zero why));
      recording_kept = refl;
    }

-- The place is below the length, at most 16383, and so is the sum with what the record takes
pub overflow_add-result : goal.overflow_add-result
overflow_add-result c =
    let a = c.args in
    let e = from_on a.recording.now a.place c.in-Some.ensures.lookup.0.2 c.in_ok-item.ensures in
    omega (arith, within a.recording.now a.place e)

pub returns : goal.returns
returns c =
    let a = c.args in
    let s = a.recording.now in
    let e = from_on s a.place c.in-Some.ensures.lookup.0.2 c.in_ok-item.ensures in
    record {
      reading =
          sym (read_found s a.place (found c.in_ok-item.item c.in_ok-item.size)
          c.if-recording-gt16383.false e refl);
      recording_kept = refl;
    }
