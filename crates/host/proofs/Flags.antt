-- A flag as a byte.
use mathlib.Core.Path.{◌≡◌, refl}
use mathlib.Core.Bool.{Bool, true, false}
use mir.Val.{bool_byte}
use Rattle.words.specs.Bits.{as_bit}

-- A flag cast to a byte is the bit that stands for it
pub flag_byte : (b : Bool) → bool_byte b ≡ as_bit b
flag_byte true = refl
flag_byte false = refl
