-- The whole part, as the library cuts it. Assumes nothing.
use Rattle.std.proofs.Common.{◌≡◌, true, false, refl}
use lib.Ieee.{Float, nan, inf, fin, to_unsigned}
use Rattle.leaf_clock.specs.Cut.{cut}

pub cut-is : (x : Float) → to_unsigned 64 x ≡ cut x
unfolding to_unsigned
cut-is nan = refl
cut-is (inf true) = refl
cut-is (inf false) = refl
cut-is (fin true m e) = refl
cut-is (fin false m e) = refl
