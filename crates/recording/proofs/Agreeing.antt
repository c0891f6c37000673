-- Bytes that agree with those of an accepted record hold the same record.
use Prim.Native.Nat.{ℕ, zero, suc, ◌+◌, ◌<◌, ◌≤◌}
use mathlib.Core.Path.{◌≡◌, refl}
use mathlib.Core.List.{List, ◌++◌}
use native.Mathlib.Omega.{arith}
use lib.ListN.{length, length-append, get_or-append}
use borrow.Author.Tests.{le-leb, lt-ltb}
use Rattle.recording.specs.Kinds.{byte, four, eight, size, decoded, kind_of, record_of}
use Rattle.recording.specs.Reader.{record_number}
use Rattle.recording.proofs.Accepted.{accepted_kind, accepted_whole, accepted_address}

-- The record of a kind by the bytes that it has
same_decoded : (k a v w a' v' w' : ℕ) → (5 ≤ size k → a ≡ a') → (9 ≤ size k → v ≡ v') → (13 ≤ size k → w ≡ w')
    → decoded k a v w ≡ decoded k a' v' w'
unfolding decoded
same_decoded zero a v w a' v' w' ea ev ew = refl
same_decoded (suc zero) a v w a' v' w' ea ev ew = rw (ea (omega arith), ev (omega arith))
same_decoded (suc (suc zero)) a v w a' v' w' ea ev ew = rw (ea (omega arith), ev (omega arith))
same_decoded (suc (suc (suc zero))) a v w a' v' w' ea ev ew = rw (ea (omega arith))
same_decoded (suc (suc (suc (suc zero)))) a v w a' v' w' ea ev ew = rw (ea (omega arith))
same_decoded (suc (suc (suc (suc (suc zero))))) a v w a' v' w' ea ev ew = rw (ea (omega arith))
same_decoded (suc (suc (suc (suc (suc (suc zero)))))) a v w a' v' w' ea ev ew = refl
same_decoded (suc (suc (suc (suc (suc (suc (suc zero))))))) a v w a' v' w' ea ev ew = refl
same_decoded (suc (suc (suc (suc (suc (suc (suc (suc zero)))))))) a v w a' v' w' ea ev ew = rw (ea (omega arith), ew (omega arith))
same_decoded (suc (suc (suc (suc (suc (suc (suc (suc (suc zero))))))))) a v w a' v' w' ea ev ew = rw (ea (omega arith), ew (omega arith))
same_decoded (suc (suc (suc (suc (suc (suc (suc (suc (suc (suc zero)))))))))) a v w a' v' w' ea ev ew = rw (ea (omega arith), ev (omega arith))
same_decoded (suc (suc (suc (suc (suc (suc (suc (suc (suc (suc (suc k))))))))))) a v w a' v' w' ea ev ew = refl

module _ (u v : List ℕ) (e : record_number u ≡ 0) (there : size (kind_of u) ≤ length v)
    (same : (i : ℕ) → i < size (kind_of u) → byte v i ≡ byte u i) where
  same_four : (i : ℕ) → i + 3 < size (kind_of u) → four v i ≡ four u i
  same_four i h = rw (same i (omega arith), same (i + 1) (omega arith), same (i + 2) (omega arith), same (i + 3) (omega arith))

  pub agreeing_kind : kind_of v ≡ kind_of u
  agreeing_kind = same 0 (omega arith)

  pub agreeing_record : record_of v ≡ record_of u
  unfolding record_of
  agreeing_record =
      rw agreeing_kind
      (same_decoded (kind_of u) (four v 1) (four v 5) (eight v 5) (four u 1) (four u 5) (eight u 5)
      (λ l. same_four 1 (omega arith))
      (λ l. same_four 5 (omega arith))
      (λ l. rw (same_four 5 (omega arith), same_four 9 (omega arith))))

  pub agreeing_number : record_number v ≡ 0
  unfolding record_number
  agreeing_number =
      rw (agreeing_kind, agreeing_record, lt-ltb 0 (length v) (omega arith), accepted_kind u e, le-leb (size (kind_of u)) (length v) there)
      (accepted_address u e)

-- More bytes after them
module _ (u t : List ℕ) (e : record_number u ≡ 0) where
  more_there : size (kind_of u) ≤ length (u ++ t)
  more_there = omega (arith, accepted_whole u e, length-append u t)

  more_same : (i : ℕ) → i < size (kind_of u) → byte (u ++ t) i ≡ byte u i
  more_same i h = get_or-append u t 0 i (omega (arith, accepted_whole u e))

  pub more_kind : kind_of (u ++ t) ≡ kind_of u
  more_kind = agreeing_kind u (u ++ t) e more_there more_same

  pub more_record : record_of (u ++ t) ≡ record_of u
  more_record = agreeing_record u (u ++ t) e more_there more_same

  pub more_number : record_number (u ++ t) ≡ 0
  more_number = agreeing_number u (u ++ t) e more_there more_same
