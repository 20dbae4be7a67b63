-- No two doubles are nearest to the same fraction. Two that were would both be even, and each even double has a double half a step above it and one half
-- a step below it: of these one lies between the two, and it is nearer. Assumes nothing.
use mathlib.Core.Path.{◌≡◌, refl, sym, ap, ◌∙◌, subst}
use mathlib.Core.Logic.{inl, inr}
use mathlib.Core.Bool.{Bool, true, false, ◌&&◌, cond}
use Prim.Native.Nat.{ℕ, zero, suc, ◌+◌, ◌-◌, ◌*◌, ◌/◌, ◌%◌, ◌^◌, ◌≤◌, ◌<◌}
use native.Mathlib.Nat.{le_trans, le_of_eq, le_of_lt, lt_of_lt_of_le, lt_of_le_of_lt, lt_trans, mul_comm, mul_assoc, mul_right_comm, add-mul, suc-mul, mul-one}
use native.Mathlib.Nat.{one-mul, zero-mul, mul-le-mul_right, mul-le-mul_left, mul-lt-mul_of_pos_right, mul-pos, le_of_mul-le-mul_left, lt_of_mul-lt-mul_right}
use native.Mathlib.Nat.{eq_of_mul-eq-mul_right, eq-or-lt_of_le, le_antisymm, mul-div_cancel, pow-suc, lt_irrefl}
use native.Mathlib.Omega.{arith}
use lib.IntN.{ℤ, pos, negsuc}
use lib.Dec.{T, lit<, leb, ltb, eqb, ltb→lt}
use lib.Pow.{pow-add, pow_pos, pow_mono, pow-lt}
use lib.Ieee.{Float, nan, inf, fin, binary64, up, down, size, odd, fits, top, hid, to_bits, of_bits}
use lib.Ieee.Digits.{back}
use lib.Ieee.Fits.{and_r, down_pos, odd-fits}
use lib.Ieee.Exact.{HasValue, odd_sign}
use lib.Ieee.Bits.{of_bits-to_bits}
use Rattle.leaf_decimals.specs.Nearest.{gap, apart, off, Even, Nearest, IsNearest}
use Rattle.leaf_decimals.proofs.Whole.{le-or-lt}
use Rattle.leaf_decimals.proofs.Rounds.{off-units, same_of, in-units}

-- ---- units: every double is a whole number of the smallest one, 2 ^ -1074
-- as one of two that are even, it is n * 2 ^ (j + 1) of them
abbrev Halves : ℕ → ℤ → Type 0
Halves n d = (j : ℕ) × (n * up d * 2 ^ 1074 ≡ n * 2 ^ suc j * down d)

halves : (n : ℕ) (d : ℤ) → down d < 2 ^ 1074 → Halves n d
halves n (pos a) h = (a + 1073, mul_assoc n (2 ^ a) (2 ^ 1074) ∙ ap (λ (x : ℕ). n * x) (sym (pow-add 2 a 1074) ∙ ap (λ (x : ℕ). 2 ^ x) (one_more a)) ∙ sym (mul-one (n * 2 ^ suc (a + 1073))))
  where
    one_more : (k : ℕ) → k + 1074 ≡ suc (k + 1073)
    one_more k = omega arith
halves n (negsuc a) h =
    let l : suc a < 1074 = strict (suc a) h in (
      1074 - suc (suc a),
      ap (λ (x : ℕ). x * 2 ^ 1074) (mul-one n) ∙ ap (λ (x : ℕ). n * x) (ap (λ (x : ℕ). 2 ^ x) (sym (refill a l)) ∙ pow-add 2 (suc (1074 - suc (suc a))) (suc a))
          ∙ sym (mul_assoc n (2 ^ suc (1074 - suc (suc a))) (2 ^ suc a)),
    )
  where
    strict : (k : ℕ) → 2 ^ k < 2 ^ 1074 → k < 1074
    strict k g = elim (le-or-lt 1074 k) [ inl q ↦ absurd (lt_irrefl (2 ^ 1074) (lt_of_le_of_lt (pow_mono q) g)) | inr q ↦ q ]

    refill : (k : ℕ) → suc k < 1074 → suc (1074 - suc (suc k)) + suc k ≡ 1074
    refill k g = omega arith

-- a double that fits is below 2 ^ 1024, which is 2 ^ 2098 units
below : (s : Bool) (n : ℕ) (d : ℤ) (X : ℕ) → T (fits binary64 (fin s n d)) → n * up d * 2 ^ 1074 ≡ X * down d → X < 2 ^ 2098
unfolding fits
below s zero d X t e =
    let z : X ≡ 0 = eq_of_mul-eq-mul_right (down d) (down_pos d) X 0 (sym e ∙ ap (λ (x : ℕ). x * 2 ^ 1074) (zero-mul (up d)) ∙ zero-mul (2 ^ 1074) ∙ sym (zero-mul (down d))) in
    subst (λ (x : ℕ). x < 2 ^ 2098) (sym z) (pow_pos 2098)
below s (suc n) d X t e =
    let l = ltb→lt (suc n * up d) (2 ^ 1024 * down d) (and_r (eqb (suc n % 2) 1 && ltb (suc n) (2 ^ 53) && leb (down d) (2 ^ 1074)) (ltb (suc n * up d) (2 ^ 1024 * down d)) t) in
    lt_of_mul-lt-mul_right (down d)
    (lt_of_le_of_lt (le_of_eq (sym e))
    (lt_of_lt_of_le (mul-lt-mul_of_pos_right l (pow_pos 1074)) (le_of_eq (mul_right_comm (2 ^ 1024) (down d) (2 ^ 1074)))))

-- two doubles of one sign and as many units are one: they have the same bits
abbrev bits_of : Bool → ℕ → ℕ
bits_of s n =
    let k = size n - 53 in
    cond s (top binary64) 0 + k * hid binary64 + n / 2 ^ k

bits : (x : Float) (s : Bool) (X : ℕ) → HasValue x s X (2 ^ 1074) → to_bits binary64 x ≡ bits_of s X
unfolding to_bits
bits nan s X h = absurd h
bits (inf t) s X h = absurd h
bits (fin t m e) s X h =
    ap (λ (n : ℕ). bits_of t n) (ap (λ (n : ℕ). n / down e) h.1 ∙ mul-div_cancel X (down_pos e)) ∙ ap (λ (u : Bool). bits_of u X) h.0

pub same_units : (x y : Float) (s : Bool) (X : ℕ) → T (fits binary64 x) → T (fits binary64 y) → HasValue x s X (2 ^ 1074) → HasValue y s X (2 ^ 1074) → x ≡ y
same_units x y s X f g h k =
    sym (of_bits-to_bits binary64 x f) ∙ ap (of_bits binary64) (bits x s X h ∙ sym (bits y s X k)) ∙ of_bits-to_bits binary64 y g

-- ---- between two even ones
-- X units are an even double
abbrev EvenUnits : ℕ → Type 0
EvenUnits X = (n : ℕ) × (i : ℕ) × (n * 2 < 2 ^ 53) × (X ≡ n * 2 ^ suc i)

even-units : (m : ℕ) (e : ℤ) (X : ℕ) → Even m e → m * up e * 2 ^ 1074 ≡ X * down e → EvenUnits X
even-units m e X v h =
    let k = halves m e v.1 in
    (m, k.0, v.0, eq_of_mul-eq-mul_right (down e) (down_pos e) X (m * 2 ^ suc k.0) (sym h ∙ k.1))

-- no double is nearer to N / D than X units
abbrev Least : ℕ → ℕ → ℕ → Type 0
Least D N X = (q k : ℕ) → q ≤ 2 ^ 53 → q * 2 ^ k < 2 ^ 2098 → gap (X * D) N ≤ gap (q * 2 ^ k * D) N

nearer : (A B C N : ℕ) → A < C → C < B → gap A N ≡ gap B N → gap C N < gap A N
nearer A B C N h k e = omega arith

module _ (D N X Y : ℕ) (P : 0 < D) (l : Y < 2 ^ 2098) (e : gap (X * D) N ≡ gap (Y * D) N) (least : Least D N X) where
  none_between : (q k : ℕ) → q ≤ 2 ^ 53 → X < q * 2 ^ k → q * 2 ^ k < Y → ⊥
  none_between q k h a b =
      lt_irrefl (gap (X * D) N)
      (lt_of_le_of_lt (least q k h (lt_trans b l)) (nearer (X * D) (Y * D) (q * 2 ^ k * D) N (mul-lt-mul_of_pos_right a P) (mul-lt-mul_of_pos_right b P) e))

  step-apart : (a b p : ℕ) → a < b → a * (p * 2) + p * 2 ≤ b * (p * 2)
  step-apart a b p h = le_trans (le_of_eq (sym (suc-mul a (p * 2)))) (mul-le-mul_right (p * 2) h)

  above : (A Z p B : ℕ) → 0 < p → Z ≡ A + p → A + p * 2 ≤ B → (A < Z) × (Z < B)
  above A Z p B h z g = (omega arith, omega arith)

  under : (A Z p B : ℕ) → 0 < p → Z + p ≡ B → A + p * 2 ≤ B → (A < Z) × (Z < B)
  under A Z p B h z g = (omega arith, omega arith)

  -- half a step above a * 2 ^ (k + 1), and half a step below b * 2 ^ (k + 1)
  not-above : (a b k : ℕ) → X ≡ a * (2 ^ k * 2) → Y ≡ b * (2 ^ k * 2) → a < b → a * 2 < 2 ^ 53 → ⊥
  not-above a b k x y h r =
      let p = 2 ^ k in
      let z : (a * 2 + 1) * p ≡ a * (p * 2) + p = add-mul (a * 2) 1 p ∙ ap (λ (c : ℕ). a * 2 * p + c) (one-mul p) ∙ ap (λ (c : ℕ). c + p) (mul_assoc a 2 p ∙ ap (λ (c : ℕ). a * c) (mul_comm 2 p)) in
      let g = above (a * (p * 2)) ((a * 2 + 1) * p) p (b * (p * 2)) (pow_pos k) z (step-apart a b p h) in
      none_between (a * 2 + 1) k (omega arith) (subst (λ (c : ℕ). c < (a * 2 + 1) * p) (sym x) g.0) (subst (λ (c : ℕ). (a * 2 + 1) * p < c) (sym y) g.1)

  not-under : (a b k : ℕ) → X ≡ a * (2 ^ k * 2) → Y ≡ b * (2 ^ k * 2) → a < b → b * 2 < 2 ^ 53 → ⊥
  not-under a b k x y h r =
      let p = 2 ^ k in
      let c = b * 2 - 1 in
      let z : c * p + p ≡ b * (p * 2) = sym (suc-mul c p) ∙ ap (λ (i : ℕ). i * p) (whole b a h) ∙ mul_assoc b 2 p ∙ ap (λ (i : ℕ). b * i) (mul_comm 2 p) in
      let g = under (a * (p * 2)) (c * p) p (b * (p * 2)) (pow_pos k) z (step-apart a b p h) in
      none_between c k (omega arith) (subst (λ (i : ℕ). i < c * p) (sym x) g.0) (subst (λ (i : ℕ). c * p < i) (sym y) g.1)
    where
      whole : (b a : ℕ) → a < b → suc (b * 2 - 1) ≡ b * 2
      whole b a h = omega arith

  split : (n i k : ℕ) → k ≤ i → n * 2 ^ suc i ≡ n * 2 ^ (i - k) * (2 ^ k * 2)
  split n i k h =
      ap (λ (c : ℕ). n * c) (pow-suc 2 i ∙ ap (λ (c : ℕ). 2 ^ c * 2) (sym (back i k h)) ∙ ap (λ (c : ℕ). c * 2) (pow-add 2 (i - k) k) ∙ mul_assoc (2 ^ (i - k)) (2 ^ k) 2)
      ∙ sym (mul_assoc n (2 ^ (i - k)) (2 ^ k * 2))

  less : (a b c : ℕ) → X ≡ a * c → Y ≡ b * c → X < Y → a < b
  less a b c x y h = lt_of_mul-lt-mul_right c (subst (λ (z : ℕ). a * c < z) y (subst (λ (z : ℕ). z < Y) x h))

  two-even : X < Y → EvenUnits X → EvenUnits Y → ⊥
  two-even h (n, i, r, x) (m, j, t, y) =
      elim (le-or-lt i j) [
        | inl q ↦
            let x' = x ∙ ap (λ (c : ℕ). n * c) (pow-suc 2 i) in
            let y' = y ∙ split m j i q in
            not-above n (m * 2 ^ (j - i)) i x' y' (less n (m * 2 ^ (j - i)) (2 ^ i * 2) x' y' h) r
        | inr q ↦
            let x' = x ∙ split n i j (le_of_lt q) in
            let y' = y ∙ ap (λ (c : ℕ). m * c) (pow-suc 2 j) in
            not-under (n * 2 ^ (i - j)) m j x' y' (less (n * 2 ^ (i - j)) m (2 ^ j * 2) x' y' h) t
      ]

-- ---- from `Nearest` to units
of-least : (l a b A B x y : ℕ) → 0 < a → 0 < b → l * A ≡ a * x → l * B ≡ b * y → A * b ≤ B * a → x ≤ y
of-least l a b A B x y P Q p q h =
    le_of_mul-le-mul_left {k = a * b}
    (le_trans (le_of_eq (sym (sym (mul_assoc l A b) ∙ ap (λ (z : ℕ). z * b) p ∙ mul_right_comm a x b)))
    (le_trans (mul-le-mul_left l h)
    (le_of_eq (sym (mul_assoc l B a) ∙ ap (λ (z : ℕ). z * a) q ∙ mul_right_comm b y a ∙ ap (λ (z : ℕ). z * y) (mul_comm b a)))))
    (mul-pos P Q)

same_sign : (s : Bool) (a b : ℕ) → apart s a s b ≡ gap a b
same_sign true a b = refl
same_sign false a b = refl

gap-pos : (a b : ℕ) → (a ≡ b → ⊥) → 0 < gap a b
gap-pos a b n = elim (le-or-lt (gap a b) 0) [ inl h ↦ absurd (n (omega arith)) | inr h ↦ h ]

module _ (s : Bool) (num den : ℕ) (D : 0 < den) where
  least-of-nearest : (m : ℕ) (e : ℤ) (X : ℕ) → Nearest s num den s m e → m * up e * 2 ^ 1074 ≡ X * down e → Least den (num * 2 ^ 1074) X
  least-of-nearest m e X w x q k h l =
      go (odd 54 s q k 1074) (odd_sign 54 s q k 1074) (odd-fits binary64 54 s q k (lt_of_le_of_lt h (pow-lt (lit< {m = 53} {n = 54} tt))) h l)
    where
      go : (z : Float) → HasValue z s (q * 2 ^ k) (2 ^ 1074) → T (fits binary64 z) → gap (X * den) (num * 2 ^ 1074) ≤ gap (q * 2 ^ k * den) (num * 2 ^ 1074)
      go nan v f = absurd v
      go (inf u) v f = absurd v
      go (fin u n d) v f =
          let N = num * 2 ^ 1074 in
          let g = of-least (2 ^ 1074) (down e) (down d) (off s num den s m e) (off s num den u n d) (apart s (X * den) s N) (apart u (q * 2 ^ k * den) s N) (down_pos e) (down_pos d)
          (off-units s num den s m e (2 ^ 1074) X x) (off-units s num den u n d (2 ^ 1074) (q * 2 ^ k) v.1) (w.least u n d f) in
          subst (λ (c : ℕ). c ≤ gap (q * 2 ^ k * den) N) (same_sign s (X * den) N)
          (subst (λ (c : ℕ). apart s (X * den) s N ≤ c) (same_sign s (q * 2 ^ k * den) N)
          (subst (λ (c : Bool). apart s (X * den) s N ≤ apart c (q * 2 ^ k * den) s N) v.0 g))

  -- X units and Y units, both nearest, are not apart
  not-apart : (m : ℕ) (e : ℤ) (n : ℕ) (d : ℤ) (X Y : ℕ) → T (fits binary64 (fin s m e)) → T (fits binary64 (fin s n d)) → Nearest s num den s m e → Nearest s num den s n d
      → m * up e * 2 ^ 1074 ≡ X * down e → n * up d * 2 ^ 1074 ≡ Y * down d → X < Y → ⊥
  not-apart m e n d X Y f g v w x y h =
      let N = num * 2 ^ 1074 in
      let A = m * up e * down d in
      let B = n * up d * down e in
      let same : off s num den s m e * down d ≡ off s num den s n d * down e = le_antisymm (v.least s n d g) (w.least s m e f) in
      let units : A ≡ B → X ≡ Y = λ q. eq_of_mul-eq-mul_right (down e * down d) (mul-pos (down_pos e) (down_pos d)) X Y
      (sym (mul_assoc X (down e) (down d)) ∙ ap (λ (c : ℕ). c * down d) (sym x) ∙ mul_right_comm (m * up e) (2 ^ 1074) (down d) ∙ ap (λ (c : ℕ). c * 2 ^ 1074) q
      ∙ mul_right_comm (n * up d) (down e) (2 ^ 1074) ∙ ap (λ (c : ℕ). c * down e) y ∙ mul_assoc Y (down d) (down e) ∙ ap (λ (c : ℕ). Y * c) (mul_comm (down d) (down e))) in
      let other : A ≡ B → ⊥ = λ q. lt_irrefl Y (subst (λ (c : ℕ). c < Y) (units q) h) in
      let E = v.tie s n d g (subst (λ (c : ℕ). 0 < c) (sym (same_sign s A B)) (gap-pos A B other)) same in
      let F = w.tie s m e f (subst (λ (c : ℕ). 0 < c) (sym (same_sign s B A)) (gap-pos B A (λ q. other (sym q)))) (sym same) in
      let level : apart s (X * den) s N ≡ apart s (Y * den) s N =
      same_of (2 ^ 1074) (down e) (down d) (off s num den s m e) (off s num den s n d) (apart s (X * den) s N) (apart s (Y * den) s N) (down_pos e) (down_pos d)
      (off-units s num den s m e (2 ^ 1074) X x) (off-units s num den s n d (2 ^ 1074) Y y) same in
      two-even den N X Y D (below s n d Y g y) (sym (same_sign s (X * den) N) ∙ level ∙ same_sign s (Y * den) N) (least-of-nearest m e X v x) h (even-units m e X E x) (even-units n d Y F y)

  one : (m : ℕ) (e : ℤ) (n : ℕ) (d : ℤ) → T (fits binary64 (fin s m e)) → T (fits binary64 (fin s n d)) → Nearest s num den s m e → Nearest s num den s n d → fin s m e ≡ fin s n d
  one m e n d f g v w =
      let i = in-units binary64 s m e f in
      let j = in-units binary64 s n d g in
      let X = m * 2 ^ i.1.0 in
      let Y = n * 2 ^ j.1.0 in
      elim (le-or-lt X Y) [
        | inl h ↦
            elim (eq-or-lt_of_le h) [
              | inl q ↦ same_units (fin s m e) (fin s n d) s X f g (refl, i.1.1) (refl, j.1.1 ∙ ap (λ (c : ℕ). c * down d) (sym q))
              | inr l ↦ absurd (not-apart m e n d X Y f g v w i.1.1 j.1.1 l)
            ]
        | inr l ↦ absurd (not-apart n d m e Y X g f w v j.1.1 i.1.1 l)
      ]

-- ---- the theorem
pub nearest-unique : (s : Bool) (num den : ℕ) → 0 < den → (x y : Float) → IsNearest s num den x → IsNearest s num den y → x ≡ y
nearest-unique s num den D nan y v w = absurd v
nearest-unique s num den D (inf t) y v w = absurd v
nearest-unique s num den D (fin t m e) nan v w = absurd w
nearest-unique s num den D (fin t m e) (inf u) v w = absurd w
nearest-unique s num den D (fin t m e) (fin u n d) v w =
    ap (λ (b : Bool). fin b m e) v.0
    ∙ one s num den D m e n d
    (subst (λ (b : Bool). T (fits binary64 (fin b m e))) v.0 v.1) (subst (λ (b : Bool). T (fits binary64 (fin b n d))) w.0 w.1)
    (subst (λ (b : Bool). Nearest s num den b m e) v.0 v.2) (subst (λ (b : Bool). Nearest s num den b n d) w.0 w.2)
    ∙ sym (ap (λ (b : Bool). fin b n d) w.0)
