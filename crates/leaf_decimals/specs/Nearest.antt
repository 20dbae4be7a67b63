-- What it is for a double to be the nearest one to a fraction, ties to even. Whole numbers only: each distance is multiplied by the
-- denominators that clear it, and no rounding function is named. Assumes nothing.
use Rattle.std.specs.Prelude.{◌≡◌, Bool, cond, ℕ, ◌+◌, ◌-◌, ◌*◌, ◌^◌, ◌≤◌, ◌<◌, ℤ, T, Float}
use Rattle.std.specs.Bool.{beq}
use Rattle.std.specs.Float.{nan, inf, fin, binary64}
use Rattle.std.specs.Float.Ieee.{up, down, fits}

-- how far apart a and b are; how far apart ±a and ±b are, each negative where its Bool is true
abbrev pub gap : ℕ → ℕ → ℕ
gap a b = (a - b) + (b - a)

abbrev pub apart : Bool → ℕ → Bool → ℕ → ℕ
apart s a t b = cond (beq s t) (gap a b) (a + b)

-- The distance from the double ±m * 2 ^ e to the fraction ±num / den, times down e * den, which makes both of them whole. (2 ^ e is up e / down e.)
abbrev pub off : Bool → ℕ → ℕ → Bool → ℕ → ℤ → ℕ
off s num den t m e = apart t (m * up e * den) s (num * down e)

-- The last of the 53 binary digits of m * 2 ^ e is 0: m, which is odd or 0, leaves one of them free, and 2 ^ e is more than the smallest double, 2 ^ -1074.
abbrev pub Even : ℕ → ℤ → Type 0
Even m e = (m * 2 < 2 ^ 53) × (down e < 2 ^ 1074)

-- ±m * 2 ^ e is no further from ±num / den than any finite double ±n * 2 ^ d is. Where another number is as near, ±m * 2 ^ e is the even one.
pub record Nearest (s : Bool) (num den : ℕ) (t : Bool) (m : ℕ) (e : ℤ) : Type 0 where
  pub least : (u : Bool) (n : ℕ) (d : ℤ) → T (fits binary64 (fin u n d)) → off s num den t m e * down d ≤ off s num den u n d * down e
  pub tie : (u : Bool) (n : ℕ) (d : ℤ) → T (fits binary64 (fin u n d))
      → 0 < apart t (m * up e * down d) u (n * up d * down e)
      → off s num den t m e * down d ≡ off s num den u n d * down e
      → Even m e

-- x is a finite double with the sign s, and is the nearest one to ±num / den
abbrev pub IsNearest : Bool → ℕ → ℕ → Float → Type 0
IsNearest s num den nan = ⊥
IsNearest s num den (inf t) = ⊥
IsNearest s num den (fin t m e) = (t ≡ s) × T (fits binary64 (fin t m e)) × Nearest s num den t m e

-- Half way from the largest double, (2 ^ 53 - 1) * 2 ^ 971, to 2 ^ 1024: from here on a fraction rounds to an infinity.
abbrev pub limit : ℕ
limit = (2 ^ 54 - 1) * 2 ^ 970

-- x is ±num / den rounded: the nearest double, or, past the largest one, an infinity
pub record Rounded (s : Bool) (num den : ℕ) (x : Float) : Type 0 where
  pub within : num < limit * den → IsNearest s num den x
  pub past : limit * den ≤ num → x ≡ inf s
