-- A text written by a cursor.
use Rattle.std.specs.Prelude.{ℕ, ◌≡◌, List}
use Rattle.listing.specs.Put.{Put}
use Rattle.lines.specs.declared.text.Lines.{Lines}

-- The text was put where the cursor stood. It stands after the text now, in the same lent buffer
pub record Wrote (text : List ℕ) (old new : Lines) : Type 0 where
  pub same_buffer : new.out.ghost_name ≡ old.out.ghost_name
  pub put : Put old.out.now old.at text new.out.now new.at
