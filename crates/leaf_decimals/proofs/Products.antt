-- The product of two finite doubles is the exact product, rounded; and so it is with a whole number as the second. Assumes nothing.
use mathlib.Core.Path.{◌≡◌, refl, sym, ap, ◌∙◌, subst}
use mathlib.Core.Bool.{Bool, true, false}
use Prim.Native.Nat.{ℕ, ◌*◌, ◌^◌, ◌≤◌}
use native.Mathlib.Nat.{mul_assoc, mul_comm, mul-one, mul-pos}
use lib.IntN.{ℤ, pos}
use lib.Ieee.{Float, nan, inf, fin, binary64, up, down, unlike, round, of_int, mul}
use lib.Ieee.Fits.{down_pos}
use lib.Ieee.Exact.{HasValue}
use lib.Ieee.Back.{round_whole}
use lib.Ieee.Scale.{round_same}
use Rattle.leaf_decimals.specs.Nearest.{Rounded}
use Rattle.leaf_decimals.proofs.Rounding.{rounding}

pub mul-nearest : (s : Bool) (m : ℕ) (e : ℤ) (t : Bool) (n : ℕ) (d : ℤ) → Rounded (unlike s t) (m * up e * (n * up d)) (down e * down d) (mul binary64 (fin s m e) (fin t n d))
unfolding mul
mul-nearest s m e t n d = rounding (unlike s t) (m * up e * (n * up d)) (down e * down d) (mul-pos (down_pos e) (down_pos d))

-- ---- times a whole number k that is a double exactly
like : (s : Bool) → unlike s false ≡ s
like true = refl
like false = refl

mul-exact : (s : Bool) (m : ℕ) (e : ℤ) (k : ℕ) (y : Float) → HasValue y false k 1 → mul binary64 (fin s m e) y ≡ round binary64 s (m * up e * k) (down e)
unfolding mul
mul-exact s m e k nan h = absurd h
mul-exact s m e k (inf t) h = absurd h
mul-exact s m e k (fin t n d) h =
    ap (λ (u : Bool). round binary64 u (m * up e * (n * up d)) (down e * down d)) (ap (λ (u : Bool). unlike s u) h.0 ∙ like s)
    ∙ round_same binary64 s (m * up e * (n * up d)) (down e * down d) (m * up e * k) (down e) (mul-pos (down_pos e) (down_pos d)) (down_pos e)
    (ap (λ (x : ℕ). m * up e * x * down e) (sym (mul-one (n * up d)) ∙ h.1)
    ∙ ap (λ (x : ℕ). x * down e) (sym (mul_assoc (m * up e) k (down d)))
    ∙ mul_assoc (m * up e * k) (down d) (down e)
    ∙ ap (λ (x : ℕ). m * up e * k * x) (mul_comm (down d) (down e)))

pub times-nearest : (s : Bool) (m : ℕ) (e : ℤ) (k : ℕ) → k ≤ 2 ^ 53 → Rounded s (m * up e * k) (down e) (mul binary64 (fin s m e) (of_int binary64 (pos k)))
unfolding of_int
times-nearest s m e k h =
    subst (λ (x : Float). Rounded s (m * up e * k) (down e) x) (sym (mul-exact s m e k (of_int binary64 (pos k)) (round_whole binary64 false k h)))
    (rounding s (m * up e * k) (down e) (down_pos e))
