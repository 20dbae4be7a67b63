-- Document 01, "Numbers and times": "Nearest, and the rounded multiplication of times, are stated over whole numbers". The product of a time is told here
-- by Rounded alone, and no rounding function is named. Assumes nothing.
use Rattle.leaf_clock.specs.declared.TimeError.{TimeError}
use Rattle.std.specs.Prelude.{◌≡◌, ℕ, ◌*◌, ◌<◌, not, T, List, Float, Ok, Result}
use Rattle.std.specs.Float.{nan, inf, fin}
use Rattle.std.specs.Float.Ieee.{up, down}
use Rattle.leaf_decimals.specs.Numbers.{number_of}
use Rattle.leaf_decimals.specs.Nearest.{Rounded}
use Rattle.leaf_clock.specs.Cut.{cut}
use Rattle.leaf_clock.specs.Times.{has_colon, unit_of, factor_of}

-- y is x * k, rounded once: for ±m * 2 ^ e, the double nearest to ±m * 2 ^ e * k; NaN and the infinities stay what they are
abbrev pub Product : Float → ℕ → Float → Type 0
Product nan k y = y ≡ nan
Product (inf s) k y = y ≡ inf s
Product (fin s m e) k y = Rounded s (m * up e * k) (down e) y

-- r is the product of x and k, cut
abbrev pub CutProduct : Float → ℕ → Result ℕ TimeError → Type 0
CutProduct x k r = (y : Float) × Product x k y × (r ≡ Ok (cut y))

-- where the time is the number x of a unit with a factor, r is their product, cut
pub record ByNearest (time unit : List ℕ) (r : Result ℕ TimeError) : Type 0 where
  pub product : T (not (has_colon time)) → (x : Float) → number_of time ≡ Ok x → 0 < factor_of (unit_of unit) → CutProduct x (factor_of (unit_of unit)) r
