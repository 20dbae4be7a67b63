-- `round f s num den` is the nearest value of the format f to ±num / den, ties to even, as long as it is finite. Assumes nothing.
use mathlib.Core.Path.{◌≡◌, refl, sym, ap, ◌∙◌, subst}
use mathlib.Core.Logic.{◌⊎◌, inl, inr}
use mathlib.Core.Bool.{Bool, true, false, not, ◌&&◌, beq, cond}
use Prim.Native.Nat.{ℕ, zero, suc, ◌+◌, ◌-◌, ◌*◌, ◌/◌, ◌%◌, ◌^◌, ◌≤◌, ◌<◌, compare}
use native.Mathlib.Nat.{le_trans, le_of_eq, lt_of_le_of_lt, mul_comm, mul_assoc, mul_left_comm, mul_right_comm, mul-add, mul-one, zero-mul, mul-le-mul_left}
use native.Mathlib.Nat.{mul-pos, le_of_mul-le-mul_left, eq_of_mul-eq-mul_left, eq_of_mul-eq-mul_right, div-mul-le_self, div-le_self, pow-suc, lt_irrefl}
use native.Mathlib.Nat.{zero-lt-suc, le-add_left, div-div-eq-div-mul, not-le_of_lt}
use native.Mathlib.Omega.{arith}
use lib.IntN.{ℤ, pos, negsuc}
use lib.Dec.{T, lit<, leb, ltb, eqb, leb→le, ltb→lt, lt→ltb, eqb→eq, nleb→lt}
use lib.Pow.{pow-add, pow_pos, pow-lt}
use lib.Count.{count_trailing_zeros, under}
use lib.Ieee.{Float, nan, inf, fin, Format, binary32, binary64, prec, emax, low, up, down, minus, odd, units, round, fits}
use lib.Ieee.Digits.{back}
use lib.Ieee.Fits.{and_l, and_r, down_pos, round_is, round-fits, two, two-le_pos, nearest-le, kept-lt}
use lib.Ieee.Exact.{HasValue, units_val}
use lib.Ieee.Order.{drop, kept}
use lib.Ieee.Scale.{grid, overflow}
use Rattle.leaf_decimals.specs.Nearest.{gap, apart, off, Nearest, IsNearest}
use Rattle.leaf_decimals.proofs.Whole.{le-or-lt, gap-mul, closest-least, closest-tie}
use Rattle.leaf_decimals.proofs.Units.{step, step-pos, kept-least, kept-tie}

-- ---- a value that fits, in units: a number of at most prec digits, and then zeros
pow-le : (a b : ℕ) → 2 ^ a ≤ 2 ^ b → a ≤ b
pow-le a b h = elim (le-or-lt a b) [ inl l ↦ l | inr l ↦ absurd (not-le_of_lt (pow-lt l) h) ]

abbrev pub InUnits : Format → ℕ → ℤ → Type 0
InUnits f n d = (n < 2 ^ prec f) × ((j : ℕ) × (n * up d * 2 ^ low f ≡ n * 2 ^ j * down d))

shifted : (l n : ℕ) (d : ℤ) → down d ≤ 2 ^ l → (j : ℕ) × (n * up d * 2 ^ l ≡ n * 2 ^ j * down d)
shifted l n (pos a) h = (a + l, mul_assoc n (2 ^ a) (2 ^ l) ∙ ap (λ (x : ℕ). n * x) (sym (pow-add 2 a l)) ∙ sym (mul-one (n * 2 ^ (a + l))))
shifted l n (negsuc a) h = (
  l - suc a,
  ap (λ (x : ℕ). x * 2 ^ l) (mul-one n) ∙ ap (λ (x : ℕ). n * x)
      (ap (λ (x : ℕ). 2 ^ x) (sym (back l (suc a) (pow-le (suc a) l h))) ∙ pow-add 2 (l - suc a) (suc a)) ∙ sym (mul_assoc n (2 ^ (l - suc a)) (2 ^ suc a)),
)

pub in-units : (f : Format) (u : Bool) (n : ℕ) (d : ℤ) → T (fits f (fin u n d)) → InUnits f n d
unfolding fits
in-units f u zero d t = (pow_pos (prec f), (0, ap (λ (x : ℕ). x * 2 ^ low f) (zero-mul (up d)) ∙ zero-mul (2 ^ low f) ∙ sym (zero-mul (down d))))
in-units f u (suc n) d t =
    let a : Bool = eqb (suc n % 2) 1 in
    let b : Bool = ltb (suc n) (2 ^ prec f) in
    let c : Bool = leb (down d) (2 ^ low f) in
    let e : Bool = ltb (suc n * up d) (2 ^ suc (emax f) * down d) in
    (ltb→lt (suc n) (2 ^ prec f) (and_r a b (and_l (a && b) c (and_l (a && b && c) e t))), shifted (low f) (suc n) d (leb→le (down d) (2 ^ low f) (and_r (a && b) c (and_l (a && b && c) e t))))

-- ---- distances in units: with 2 ^ low * A = c * A' and 2 ^ low * B = c * B'
scale-apart : (b : Bool) (l c A B A' B' : ℕ) → l * A ≡ c * A' → l * B ≡ c * B' → l * cond b (gap A B) (A + B) ≡ c * cond b (gap A' B') (A' + B')
scale-apart true l c A B A' B' p q = sym (gap-mul A B l) ∙ ap (λ (x : ℕ). gap x (l * B)) p ∙ ap (λ (x : ℕ). gap (c * A') x) q ∙ gap-mul A' B' c
scale-apart false l c A B A' B' p q = mul-add l A B ∙ ap (λ (x : ℕ). x + l * B) p ∙ ap (λ (x : ℕ). c * A' + x) q ∙ sym (mul-add c A' B')

-- the distance from ±m * 2 ^ e to ±num / den, of which the double is R units
pub off-units : (s : Bool) (num den : ℕ) (t : Bool) (m : ℕ) (e : ℤ) (l R : ℕ) → m * up e * l ≡ R * down e → l * off s num den t m e ≡ down e * apart t (R * den) s (num * l)
off-units s num den t m e l R h =
    scale-apart (beq t s) l (down e) (m * up e * den) (num * down e) (R * den) (num * l)
    (mul_comm l (m * up e * den) ∙ mul_right_comm (m * up e) den l ∙ ap (λ (x : ℕ). x * den) h ∙ mul_right_comm R (down e) den ∙ mul_comm (R * den) (down e))
    (mul_left_comm l num (down e) ∙ ap (λ (x : ℕ). num * x) (mul_comm l (down e)) ∙ mul_left_comm num (down e) l)

-- from distances in units to `off`, and back
least-of : (l a b A B x y : ℕ) → 0 < l → l * A ≡ a * x → l * B ≡ b * y → x ≤ y → A * b ≤ B * a
least-of l a b A B x y L p q h =
    le_of_mul-le-mul_left {k = l}
    (le_trans (le_of_eq (sym (mul_assoc l A b) ∙ ap (λ (z : ℕ). z * b) p ∙ mul_right_comm a x b))
    (le_trans (mul-le-mul_left (a * b) h)
    (le_of_eq (sym (sym (mul_assoc l B a) ∙ ap (λ (z : ℕ). z * a) q ∙ mul_right_comm b y a ∙ ap (λ (z : ℕ). z * y) (mul_comm b a))))))
    L

pub same_of : (l a b A B x y : ℕ) → 0 < a → 0 < b → l * A ≡ a * x → l * B ≡ b * y → A * b ≡ B * a → x ≡ y
same_of l a b A B x y P Q p q h =
    eq_of_mul-eq-mul_left (a * b) (mul-pos P Q) x y
    (sym (sym (mul_assoc l A b) ∙ ap (λ (z : ℕ). z * b) p ∙ mul_right_comm a x b)
    ∙ ap (λ (z : ℕ). l * z) h
    ∙ (sym (mul_assoc l B a) ∙ ap (λ (z : ℕ). z * a) q ∙ mul_right_comm b y a ∙ ap (λ (z : ℕ). z * y) (mul_comm b a)))

-- ---- of what is even in steps, the significand is even
abbrev EvenIn : Format → ℕ → ℤ → Type 0
EvenIn f m e = (m * 2 < 2 ^ prec f) × (down e < 2 ^ low f)

abbrev IsEven : Format → Float → Type 0
IsEven f nan = ⊥
IsEven f (inf t) = ⊥
IsEven f (fin t m e) = EvenIn f m e

one_unit : (f : Format) → 1 < 2 ^ low f
one_unit binary32 = lit< tt
one_unit binary64 = lit< tt

odd-strict : (f : Format) (m : ℕ) → m % 2 ≡ 1 → m * 2 ≤ 2 ^ prec f → m * 2 < 2 ^ prec f
odd-strict binary32 m o h = elim (le-or-lt (2 ^ 22) (m / 2)) [ inl k ↦ omega arith | inr k ↦ omega arith ]
odd-strict binary64 m o h = elim (le-or-lt (2 ^ 51) (m / 2)) [ inl k ↦ omega arith | inr k ↦ omega arith ]

is_odd : (f : Format) (s : Bool) (m : ℕ) (e : ℤ) → 0 < m → T (fits f (fin s m e)) → m % 2 ≡ 1
unfolding fits
is_odd f s zero e h t = absurd (lt_irrefl 0 h)
is_odd f s (suc m) e h t =
    let a : Bool = eqb (suc m % 2) 1 in
    let b : Bool = ltb (suc m) (2 ^ prec f) in
    let c : Bool = leb (down e) (2 ^ low f) in
    eqb→eq (suc m % 2) 1 (and_l a b (and_l (a && b) c (and_l (a && b && c) (ltb (suc m * up e) (2 ^ suc (emax f) * down e)) t)))

tz-even : (d n : ℕ) → n % 2 ≡ 0 → (t : ℕ) × (count_trailing_zeros (suc d) n ≡ suc t)
unfolding count_trailing_zeros
tz-even d n e = (count_trailing_zeros d (n / 2), ap (λ (r : ℕ). under r (count_trailing_zeros d (n / 2))) e)

halves : (n t : ℕ) → n / 2 ^ suc t * 2 ≤ n
halves n t =
    le_trans (le_of_eq (ap (λ (x : ℕ). n / x * 2) (pow-suc 2 t) ∙ ap (λ (x : ℕ). x * 2) (sym (div-div-eq-div-mul n (2 ^ t) 2))))
    (le_trans (div-mul-le_self (n / 2 ^ t) 2) (div-le_self n (2 ^ t)))

down-less : (k t l : ℕ) → 1 < 2 ^ l → down (minus (k + suc t) l) < 2 ^ l
down-less k t l h = go (leb l (k + suc t)) (nleb→lt l (k + suc t))
  where
    shorter : (a : ℕ) → k + suc t < l → suc (l - suc (k + suc t)) < l
    shorter a b = omega arith

    go : (b : Bool) → (T (not b) → k + suc t < l) → down (cond b (pos (k + suc t - l)) (negsuc (l - suc (k + suc t)))) < 2 ^ l
    go true g = h
    go false g = pow-lt (shorter 0 (g tt))

even-fin : (f : Format) (s : Bool) (m : ℕ) (e : ℤ) → m * 2 ≤ 2 ^ prec f → down e < 2 ^ low f → T (fits f (fin s m e)) → EvenIn f m e
even-fin f s zero e a b t = (lt_of_le_of_lt (le_of_eq (zero-mul 2)) (pow_pos (prec f)), b)
even-fin f s (suc m) e a b t = (odd-strict f (suc m) (is_odd f s (suc m) e (zero-lt-suc m) t) a, b)

odd_even : (f : Format) (d : ℕ) (s : Bool) (q k : ℕ) → q % 2 ≡ 0 → q ≤ 2 ^ prec f → T (fits f (odd (suc d) s q k (low f))) → IsEven f (odd (suc d) s q k (low f))
unfolding odd
odd_even f d s zero k h l t = (lt_of_le_of_lt (le_of_eq (zero-mul 2)) (pow_pos (prec f)), one_unit f)
odd_even f d s (suc q) k h l t =
    let z = tz-even d (suc q) h in
    let x = count_trailing_zeros (suc d) (suc q) in
    even-fin f s (suc q / 2 ^ x) (minus (k + x) (low f))
    (subst (λ (y : ℕ). suc q / 2 ^ y * 2 ≤ 2 ^ prec f) (sym z.1) (le_trans (halves (suc q) z.0) l))
    (subst (λ (y : ℕ). down (minus (k + y) (low f)) < 2 ^ low f) (sym z.1) (down-less k z.0 (low f) (one_unit f)))
    t

units-even : (f : Format) (s : Bool) (q k : ℕ) → q % 2 ≡ 0 → q ≤ 2 ^ prec f → q * 2 ^ k < overflow f → T (fits f (units f s q k)) → IsEven f (units f s q k)
unfolding units
units-even f s q k h l u = go (ltb (q * 2 ^ k) (overflow f)) (lt→ltb (q * 2 ^ k) (overflow f) u)
  where
    go : (b : Bool) → T b → T (fits f (cond b (odd (suc (prec f)) s q k (low f)) (inf s))) → IsEven f (cond b (odd (suc (prec f)) s q k (low f)) (inf s))
    go true t v = odd_even f (prec f) s q k h l v
    go false t v = absurd t

-- ---- the distances of ±X and ±Y from ±N
apart-least : (s u : Bool) (X Y N : ℕ) → gap X N ≤ gap Y N → gap X N ≤ N → apart s X s N ≤ apart u Y s N
apart-least true true X Y N h k = h
apart-least false false X Y N h k = h
apart-least true false X Y N h k = le_trans k (le-add_left N Y)
apart-least false true X Y N h k = le_trans k (le-add_left N Y)

sum-none : (g Y N : ℕ) → g ≤ N → g ≡ Y + N → (g ≡ N) × (Y ≡ 0)
sum-none g Y N h e = omega arith

apart-tie : (s u : Bool) (X Y N : ℕ) → gap X N ≤ N → apart s X s N ≡ apart u Y s N → ((u ≡ s) × (gap X N ≡ gap Y N)) ⊎ ((gap X N ≡ N) × (Y ≡ 0))
apart-tie true true X Y N k h = inl (refl, h)
apart-tie false false X Y N k h = inl (refl, h)
apart-tie true false X Y N k h = inr (sum-none (gap X N) Y N k h)
apart-tie false true X Y N k h = inr (sum-none (gap X N) Y N k h)

none : (a l c : ℕ) → 0 < l → a * l ≡ 0 → a * c ≡ 0
none a l c L h = ap (λ (x : ℕ). x * c) (eq_of_mul-eq-mul_right l L a 0 (h ∙ sym (zero-mul l))) ∙ zero-mul c

gap-zero : (n : ℕ) → gap 0 n ≡ n
gap-zero n = omega arith

gap-none : (a b : ℕ) → 0 < gap a b → a ≡ b → ⊥
gap-none a b h e = omega arith

apart-same : (s : Bool) (a b : ℕ) → 0 < apart s a s b → a ≡ b → ⊥
apart-same true a b h e = gap-none a b h e
apart-same false a b h e = gap-none a b h e

apart-zeros : (s u : Bool) (a b : ℕ) → 0 < apart s a u b → a ≡ 0 → b ≡ 0 → ⊥
apart-zeros true true a b h p q = omega arith
apart-zeros false false a b h p q = omega arith
apart-zeros true false a b h p q = omega arith
apart-zeros false true a b h p q = omega arith

-- ---- the theorem: x = ±m * 2 ^ e is R = kept * 2 ^ drop units, as `round` makes it
module _ (f : Format) (s : Bool) (num den : ℕ) (D : 0 < den) (m : ℕ) (e : ℤ) (v : m * up e * 2 ^ low f ≡ grid f num den * down e) where
  in-steps : kept (prec f) (num * 2 ^ low f) den * step (prec f) (num * 2 ^ low f) den ≡ grid f num den * den
  in-steps =
      let k = drop (prec f) (num * 2 ^ low f) den in
      let q = kept (prec f) (num * 2 ^ low f) den in
      ap (λ (x : ℕ). q * x) (mul_comm den (2 ^ k)) ∙ sym (mul_assoc q (2 ^ k) den)

  to-zero : gap (grid f num den * den) (num * 2 ^ low f) ≤ num * 2 ^ low f
  to-zero =
      let n = num * 2 ^ low f in
      let p = prec f in
      subst (λ (x : ℕ). gap x n ≤ n) in-steps
      (le_trans (closest-least n (step p n den) 0 (step-pos p n den D)) (le_of_eq (ap (λ (x : ℕ). gap x n) (zero-mul (step p n den)) ∙ gap-zero n)))

  unit-least : (n j : ℕ) → n < 2 ^ prec f → gap (grid f num den * den) (num * 2 ^ low f) ≤ gap (n * 2 ^ j * den) (num * 2 ^ low f)
  unit-least n j h =
      subst (λ (x : ℕ). gap x (num * 2 ^ low f) ≤ gap (n * 2 ^ j * den) (num * 2 ^ low f)) in-steps
      (kept-least (prec f) (num * 2 ^ low f) den n j (two-le_pos (prec f) (two f)) D h)

  pub is-least : (u : Bool) (n : ℕ) (d : ℤ) → T (fits f (fin u n d)) → off s num den s m e * down d ≤ off s num den u n d * down e
  is-least u n d t =
      let i = in-units f u n d t in
      let j = i.1.0 in
      least-of (2 ^ low f) (down e) (down d) (off s num den s m e) (off s num den u n d)
      (apart s (grid f num den * den) s (num * 2 ^ low f)) (apart u (n * 2 ^ j * den) s (num * 2 ^ low f)) (pow_pos (low f))
      (off-units s num den s m e (2 ^ low f) (grid f num den) v) (off-units s num den u n d (2 ^ low f) (n * 2 ^ j) i.1.1)
      (apart-least s u (grid f num den * den) (n * 2 ^ j * den) (num * 2 ^ low f) (unit-least n j i.0) to-zero)

  -- equal numbers of units are equal values
  cross : (n j : ℕ) (d : ℤ) → n * up d * 2 ^ low f ≡ n * 2 ^ j * down d → grid f num den ≡ n * 2 ^ j → m * up e * down d ≡ n * up d * down e
  cross n j d h g =
      eq_of_mul-eq-mul_right (2 ^ low f) (pow_pos (low f)) (m * up e * down d) (n * up d * down e)
      (mul_right_comm (m * up e) (down d) (2 ^ low f) ∙ ap (λ (x : ℕ). x * down d) v ∙ mul_right_comm (grid f num den) (down e) (down d)
      ∙ ap (λ (x : ℕ). x * down d * down e) g
      ∙ sym (mul_right_comm (n * up d) (down e) (2 ^ low f) ∙ ap (λ (x : ℕ). x * down e) h))

  pub tie-even : (u : Bool) (n : ℕ) (d : ℤ) → T (fits f (fin u n d)) → 0 < apart s (m * up e * down d) u (n * up d * down e)
      → off s num den s m e * down d ≡ off s num den u n d * down e → kept (prec f) (num * 2 ^ low f) den % 2 ≡ 0
  tie-even u n d t o h =
      let i = in-units f u n d t in
      let j = i.1.0 in
      let N = num * 2 ^ low f in
      let R = grid f num den in
      elim (apart-tie s u (R * den) (n * 2 ^ j * den) N to-zero
      (same_of (2 ^ low f) (down e) (down d) (off s num den s m e) (off s num den u n d) (apart s (R * den) s N) (apart u (n * 2 ^ j * den) s N) (down_pos e) (down_pos d)
      (off-units s num den s m e (2 ^ low f) R v) (off-units s num den u n d (2 ^ low f) (n * 2 ^ j) i.1.1) h)) [
        | inl w ↦
            kept-tie (prec f) N den n j (two-le_pos (prec f) (two f)) D i.0
            (λ (g : kept (prec f) N den * step (prec f) N den ≡ n * 2 ^ j * den).
            apart-same s (m * up e * down d) (n * up d * down e) (subst (λ (x : Bool). 0 < apart s (m * up e * down d) x (n * up d * down e)) w.0 o)
            (cross n j d i.1.1 (eq_of_mul-eq-mul_right den D R (n * 2 ^ j) (sym in-steps ∙ g))))
            (ap (λ (x : ℕ). gap x N) in-steps ∙ w.1)
        | inr w ↦
            closest-tie N (step (prec f) N den) 0 (step-pos (prec f) N den D)
            (ap (λ (x : ℕ). gap x N) in-steps ∙ w.0 ∙ sym (ap (λ (x : ℕ). gap x N) (zero-mul (step (prec f) N den)) ∙ gap-zero N))
            (λ (g : kept (prec f) N den ≡ 0). apart-zeros s u (m * up e * down d) (n * up d * down e) o
            (none (m * up e) (2 ^ low f) (down d) (pow_pos (low f))
            (v ∙ ap (λ (x : ℕ). x * 2 ^ drop (prec f) N den * down e) g ∙ ap (λ (x : ℕ). x * down e) (zero-mul (2 ^ drop (prec f) N den)) ∙ zero-mul (down e)))
            (none (n * up d) (2 ^ low f) (down e) (pow_pos (low f)) (i.1.1 ∙ none (n * 2 ^ j) den (down d) D w.1)))
      ]

-- ---- `round` makes that many units
pub kept-le : (p n den : ℕ) → kept p n den ≤ 2 ^ p
kept-le p n den =
    let k = drop p n den in
    let u = den * 2 ^ k in
    le_trans (nearest-le (n / u) (compare (n % u * 2) u)) (subst (λ (x : ℕ). x < 2 ^ p) (div-div-eq-div-mul n den (2 ^ k)) (kept-lt p (n / den)))

value-of : (f : Format) (s : Bool) (num den : ℕ) → grid f num den < overflow f → HasValue (round f s num den) s (grid f num den) (2 ^ low f)
value-of f s num den h =
    subst (λ (x : Float). HasValue x s (grid f num den) (2 ^ low f)) (sym (round_is f s num den))
    (units_val f s (kept (prec f) (num * 2 ^ low f) den) (drop (prec f) (num * 2 ^ low f) den) h)

even-of : (f : Format) (s : Bool) (num den : ℕ) → grid f num den < overflow f → kept (prec f) (num * 2 ^ low f) den % 2 ≡ 0 → IsEven f (round f s num den)
even-of f s num den h e =
    let n = num * 2 ^ low f in
    subst (λ (x : Float). IsEven f x) (sym (round_is f s num den))
    (units-even f s (kept (prec f) n den) (drop (prec f) n den) e (kept-le (prec f) n den) h (subst (λ (x : Float). T (fits f x)) (round_is f s num den) (round-fits f s num den)))

nearest-at : (s : Bool) (num den : ℕ) → 0 < den → (x : Float) → HasValue x s (grid binary64 num den) (2 ^ low binary64) → T (fits binary64 x)
    → (kept 53 (num * 2 ^ 1074) den % 2 ≡ 0 → IsEven binary64 x) → IsNearest s num den x
nearest-at s num den D nan v t e = absurd v
nearest-at s num den D (inf u) v t e = absurd v
nearest-at s num den D (fin u m d) v t e = (
  v.0,
  t,
  subst (λ (z : Bool). Nearest s num den z m d) (sym v.0)
      (record { least = is-least binary64 s num den D m d v.1; tie = λ y n c k o h. e (tie-even binary64 s num den D m d v.1 y n c k o h) }),
)

pub finite-nearest : (s : Bool) (num den : ℕ) → 0 < den → grid binary64 num den < overflow binary64 → IsNearest s num den (round binary64 s num den)
finite-nearest s num den D r =
    nearest-at s num den D (round binary64 s num den) (value-of binary64 s num den r) (round-fits binary64 s num den) (even-of binary64 s num den r)
