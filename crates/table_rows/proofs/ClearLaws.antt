-- The code's zero. Assumes nothing.
use mathlib.Core.Path.{◌≡◌, refl}
use lib.Ieee.{binary64, of_bits}
use Rattle.scope.specs.Records.{zero_f}

-- the code's 0.0
pub zero_number : of_bits binary64 0 ≡ zero_f
unfolding of_bits
zero_number = refl
