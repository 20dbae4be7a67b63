-- Which decimal numbers are within reach, and the double that each gives, as one operation makes it. Document 01, "Numbers and times": "Within reach: the three
-- words; W = 0 with any E; or W at most 9,007,199,254,740,992 and E from -22 to 22." That the double is the nearest one is said in Numbers. Assumes nothing.
use Rattle.leaf_decimals.specs.declared.NumberError.{NumberError}
use Rattle.std.specs.Prelude.{Bool, true, false, cond, ◌&&◌, ◌||◌, ℕ, ◌+◌, ◌-◌, ◌^◌, pos, leb, eqb, Float, Err, Ok, Result}
use Rattle.std.specs.Float.{binary64, fin}
use Rattle.std.specs.Float.Ieee.{of_int, mul, div, neg}
use Rattle.leaf_decimals.specs.declared.NumberError.TheVariants.{Beyond}

-- 10 ^ k as a double
abbrev pub ten : ℕ → Float
ten k = of_int binary64 (pos (10 ^ k))

abbrev pub signed : Bool → Float → Float
signed true x = neg x
signed false x = x

-- w * 10 ^ up / 10 ^ down, by one operation
abbrev pub scaled : ℕ → ℕ → ℕ → Float
scaled w up down = cond (leb down up) (mul binary64 (of_int binary64 (pos w)) (ten (up - down))) (div binary64 (of_int binary64 (pos w)) (ten (down - up)))

-- the exponent, up - down, is from -22 to 22, and w is at most 2 ^ 53
abbrev pub in_reach : ℕ → ℕ → ℕ → Bool
in_reach w up down = leb w (2 ^ 53) && leb up (down + 22) && leb down (up + 22)

-- whether w * 10 ^ up / 10 ^ down is within reach
abbrev pub reachable : ℕ → ℕ → ℕ → Bool
reachable w up down = eqb w 0 || in_reach w up down

-- what ±w * 10 ^ up / 10 ^ down is. A minus on zero gives minus zero.
unfoldable pub meaning : Bool → ℕ → ℕ → ℕ → Result Float NumberError
meaning minus w up down =
    cond (eqb w 0) (Ok (signed minus (fin false 0 (pos 0)))) (cond (in_reach w up down) (Ok (signed minus (scaled w up down))) (Err Beyond))
