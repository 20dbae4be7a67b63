-- The rounding theorem: `round`, by which each operation on doubles is defined, gives the nearest double to any fraction, ties to even, and an infinity
-- exactly where the fraction is half a step or more past the largest double. Assumes nothing.
use mathlib.Core.Path.{◌≡◌, refl, sym, ap, ◌∙◌, subst}
use mathlib.Core.Logic.{inl, inr}
use mathlib.Core.Bool.{Bool, true, false, cond}
use Prim.Native.Nat.{ℕ, zero, suc, ◌+◌, ◌-◌, ◌*◌, ◌/◌, ◌^◌, ◌≤◌, ◌<◌}
use native.Mathlib.Nat.{le_of_eq, lt_of_lt_of_le, lt_of_le_of_lt, le_trans, zero-lt-suc, mul_comm, mul_assoc, mul_right_comm, mul-one, mul-le-mul_right, mul-lt-mul_of_pos_right, div-lt_iff_lt-mul}
use native.Mathlib.Omega.{arith}
use lib.Dec.{T, ltb, lit<, lit≤}
use lib.Pow.{pow-add, pow_pos, pow_mono, pow-lt}
use lib.Ieee.{Float, nan, inf, fin, Format, binary64, prec, emax, low, size, odd, units, round, le, lt, eq, neg}
use lib.Ieee.Digits.{size-le}
use lib.Ieee.Fits.{round_is}
use lib.Ieee.Order.{drop, kept, round_mono}
use lib.Ieee.Scale.{grid, overflow}
use Rattle.leaf_decimals.specs.Nearest.{gap, limit, Rounded}
use Rattle.leaf_decimals.specs.Reach.{signed}
use Rattle.leaf_decimals.proofs.Whole.{le-or-lt, closest-least}
use Rattle.leaf_decimals.proofs.Units.{step-pos}
use Rattle.leaf_decimals.proofs.Rounds.{kept-le, finite-nearest}

-- ---- the sign
neg-odd : (d q k l : ℕ) → neg (odd d false q k l) ≡ odd d true q k l
unfolding odd neg
neg-odd d zero k l = refl
neg-odd d (suc q) k l = refl

neg-units : (f : Format) (q k : ℕ) → neg (units f false q k) ≡ units f true q k
unfolding units neg
neg-units f q k = go (ltb (q * 2 ^ k) (2 ^ (low f + suc (emax f))))
  where
    go : (b : Bool) → neg (cond b (odd (suc (prec f)) false q k (low f)) (inf false)) ≡ cond b (odd (suc (prec f)) true q k (low f)) (inf true)
    go true = neg-odd (suc (prec f)) q k (low f)
    go false = refl

pub signed_round : (minus : Bool) (a b : ℕ) → signed minus (round binary64 false a b) ≡ round binary64 minus a b
signed_round true a b =
    ap neg (round_is binary64 false a b) ∙ neg-units binary64 (kept 53 (a * 2 ^ 1074) b) (drop 53 (a * 2 ^ 1074) b) ∙ sym (round_is binary64 true a b)
signed_round false a b = refl

-- ---- below the limit the result is finite
-- with all 2098 digits in use, of which 2045 are dropped: K is what is kept, times u, and it is below 2 ^ 53 steps
below_top : (K u n : ℕ) → n * 2 < (2 ^ 54 - 1) * u → gap K n ≤ gap ((2 ^ 53 - 1) * u) n → 2 ^ 53 * u ≤ K → ⊥
below_top K u n l h k = omega arith

module _ (num den : ℕ) (D : 0 < den) (l : num < limit * den) where
  in-units : num * 2 ^ 1074 < (2 ^ 54 - 1) * 2 ^ 2044 * den
  in-units = lt_of_lt_of_le (mul-lt-mul_of_pos_right l (pow_pos 1074)) (le_of_eq (mul_right_comm limit den (2 ^ 1074)))

  digits_le : size (num * 2 ^ 1074 / den) ≤ 2098
  digits_le = size-le (num * 2 ^ 1074 / den) 2098 ((div-lt_iff_lt-mul D).1 (lt_of_lt_of_le in-units (mul-le-mul_right den (lit≤ tt))))

  fewer : (z : ℕ) → z ≤ 2097 → 53 + (z - 53) ≤ 2097
  fewer z h = omega arith

  low-case : size (num * 2 ^ 1074 / den) ≤ 2097 → grid binary64 num den < overflow binary64
  low-case h =
      let k = drop 53 (num * 2 ^ 1074) den in
      lt_of_le_of_lt (mul-le-mul_right (2 ^ k) (kept-le 53 (num * 2 ^ 1074) den))
      (lt_of_le_of_lt (le_of_eq (sym (pow-add 2 53 k))) (lt_of_le_of_lt (pow_mono (fewer (size (num * 2 ^ 1074 / den)) h)) (pow-lt (lit< {m = 2097} {n = 2098} tt))))

  top-case : drop 53 (num * 2 ^ 1074) den ≡ 2045 → grid binary64 num den < overflow binary64
  top-case e =
      let n = num * 2 ^ 1074 in
      let q = kept 53 n den in
      let u = den * 2 ^ drop 53 n den in
      let v : u ≡ den * (2 ^ 2044 * 2) = ap (λ (x : ℕ). den * 2 ^ x) e in
      let double : n * 2 < (2 ^ 54 - 1) * u =
      lt_of_lt_of_le (mul-lt-mul_of_pos_right in-units (zero-lt-suc 1))
      (le_of_eq (ap (λ (x : ℕ). x * 2) (mul_assoc (2 ^ 54 - 1) (2 ^ 2044) den) ∙ mul_assoc (2 ^ 54 - 1) (2 ^ 2044 * den) 2
      ∙ ap (λ (x : ℕ). (2 ^ 54 - 1) * x) (mul_right_comm (2 ^ 2044) den 2 ∙ mul_comm (2 ^ 2044 * 2) den ∙ sym v))) in
      elim (le-or-lt (2 ^ 53) q) [
        | inl h ↦ absurd (below_top (q * u) u n double (closest-least n u (2 ^ 53 - 1) (step-pos 53 n den D)) (mul-le-mul_right u h))
        | inr h ↦ subst (λ (k : ℕ). q * 2 ^ k < 2 ^ 2098) (sym e) (mul-lt-mul_of_pos_right h (pow_pos 2045))
      ]

  finite : grid binary64 num den < overflow binary64
  finite =
      elim (le-or-lt (size (num * 2 ^ 1074 / den)) 2097) [
        | inl h ↦ low-case h
        | inr h ↦ top-case (omega (arith, digits_le))
      ]

-- ---- and from the limit on it is not
only-inf : (x : Float) → T (le (inf false) x) → x ≡ inf false
unfolding le lt eq
only-inf nan t = absurd t
only-inf (inf true) t = absurd t
only-inf (inf false) t = refl
only-inf (fin s m e) t = absurd t

at-limit : round binary64 false limit 1 ≡ inf false
unfolding round
at-limit = refl

signed-inf : (s : Bool) → signed s (inf false) ≡ inf s
unfolding neg
signed-inf true = refl
signed-inf false = refl

infinite : (s : Bool) (num den : ℕ) → 0 < den → limit * den ≤ num → round binary64 s num den ≡ inf s
infinite s num den D h =
    sym (signed_round s num den)
    ∙ ap (signed s) (only-inf (round binary64 false num den)
    (subst (λ (x : Float). T (le x (round binary64 false num den))) at-limit (round_mono binary64 limit 1 num den (zero-lt-suc 0) D (le_trans h (le_of_eq (sym (mul-one num)))))))
    ∙ signed-inf s

-- ---- the theorem
pub rounding : (s : Bool) (num den : ℕ) → 0 < den → Rounded s num den (round binary64 s num den)
rounding s num den D = record { within = λ h. finite-nearest s num den D (finite num den D h); past = infinite s num den D }
