-- A text written to a lent buffer at a place. Bytes that find no room are dropped, and the place after the text never passes the buffer's end.
use Rattle.std.specs.Prelude.{ℕ, ◌+◌, min, ◌≡◌, List, length}
use Rattle.std.proofs.lemmas.List.Edits.{sets}

-- The buffer d and a place at entry; the buffer d' and the place r after the text
pub record Put (d : List ℕ) (at : ℕ) (text d' : List ℕ) (r : ℕ) : Type 0 where
  pub place : r ≡ min (at + length text) (length d)
  pub bytes : d' ≡ sets d at text
