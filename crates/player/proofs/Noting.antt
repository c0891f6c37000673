-- What was found so far.
use Rattle.std.proofs.Common.{◌≡◌, Bool, true, false, refl}
use mir.Val.{bool_byte}
use Rattle.words.specs.Bits.{as_bit}
use Rattle.playback.specs.declared.Findings.{Findings}
use Rattle.playback.specs.Findings.{no_findings}

-- A flag cast to a number
pub flag_byte : (b : Bool) → bool_byte b ≡ as_bit b
flag_byte true = refl
flag_byte false = refl

-- The default
pub none_found : {f : Findings}
    → (f.compared ≡ 0) × ((f.differed ≡ 0) × ((f.index ≡ 0) × (f.place ≡ 0))) → f ≡ no_findings
none_found h =
    λ i. record { compared = h.0 i; differed = h.1.0 i; index = h.1.1.0 i; place = h.1.1.1 i }
