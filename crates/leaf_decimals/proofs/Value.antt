-- One multiplication or division of exact doubles gives the double nearest to the decimal number. Assumes nothing.
use Rattle.leaf_decimals.specs.declared.NumberError.{NumberError}
use Rattle.std.specs.Prelude.{Err, Ok, Result}
use mathlib.Core.Path.{◌≡◌, refl, sym, ap, ◌∙◌, subst}
use mathlib.Core.List.{List}
use mathlib.Core.Logic.{◌⊎◌, inl, inr}
use mathlib.Core.Bool.{Bool, true, false, not, cond, ◌&&◌, ◌||◌}
use Prim.Native.Nat.{ℕ, zero, suc, ◌+◌, ◌-◌, ◌*◌, ◌^◌, ◌≤◌, ◌<◌}
use native.Mathlib.Nat.{le_of_eq, lt_of_lt_of_le, lt_of_le_of_lt, zero-lt-suc, mul_comm, mul_assoc, mul-mul-mul_comm, mul-one, zero-mul, mul-pos, mul-le-mul}
use native.Mathlib.Nat.{mul-lt-mul_of_pos_right, pow-suc, pow-le-pow_right, eq-zero-or-pos}
use native.Mathlib.Omega.{arith}
use lib.IntN.{pos}
use lib.Dec.{T, leb, eqb, ltb→lt, lit<, leb→le}
use lib.Pow.{pow-add, pow_mono, shl_lt}
use lib.Ieee.{Float, nan, inf, fin, Format, binary64, emax, low, up, down, round, of_int, mul, div, neg}
use lib.Ieee.Fits.{and_l, and_r}
use lib.Ieee.Exact.{HasValue, round_exact}
use lib.Ieee.Back.{round_whole}
use lib.Ieee.Scale.{round_same}
use lib.Ieee.Positive.{num, den, positive, den_pos, value→cross, positive_of_value, mul_at}
use borrow.Author.Tests.{ne_eqb, eqb-true}
use Rattle.leaf_decimals.specs.declared.NumberError.TheVariants.{Malformed, Beyond}
use Rattle.leaf_decimals.specs.Nearest.{IsNearest, limit}
use Rattle.leaf_decimals.specs.Reach.{ten, signed, in_reach, reachable, meaning}
use Rattle.leaf_decimals.specs.Numbers.{Reading, malformed, word, decimal, outcome, reading_of, number_of, number_answer, number_value, Right, AsRead}
use Rattle.leaf_decimals.proofs.Whole.{le-or-lt}
use Rattle.leaf_decimals.proofs.Rounding.{rounding, signed_round}
use Rattle.leaf_decimals.proofs.Unique.{nearest-unique}
use Rattle.leaf_decimals.proofs.Meaning.{meaning-zero, meaning-up, meaning-down}

-- ---- a division, by the fractions that the operands equal
div_is : (f : Format) (x y : Float) → T (positive x) → T (positive y) → div f x y ≡ round f false (num x * den y) (num y * den x)
unfolding div
div_is f nan y p q = absurd p
div_is f (inf s) y p q = absurd p
div_is f (fin true m e) y p q = absurd p
div_is f (fin false m e) nan p q = absurd q
div_is f (fin false m e) (inf t) p q = absurd q
div_is f (fin false m e) (fin true n d) p q = absurd q
div_is f (fin false m e) (fin false n d) p q = simp (ne_eqb n 0 (λ z. omega (arith, ltb→lt 0 n q)))

num_pos : (y : Float) (b d : ℕ) → HasValue y false b d → 0 < b → 0 < num y
num_pos y b d h B =
    elim (eq-zero-or-pos (num y)) [
      | inl z ↦ absurd (no (b * den y) (mul-pos B (den_pos y)) (sym (value→cross y b d h) ∙ ap (λ (x : ℕ). x * d) z ∙ zero-mul d))
      | inr p ↦ p
    ]
  where
    no : (n : ℕ) → 0 < n → n ≡ 0 → ⊥
    no n h e = omega arith

pub div-at : (f : Format) (x y : Float) (a c b d : ℕ) → 0 < a → 0 < b → 0 < c → HasValue x false a c → HasValue y false b d → div f x y ≡ round f false (a * d) (b * c)
div-at f x y a c b d A B C h k =
    div_is f x y (positive_of_value x a c h A) (positive_of_value y b d k B)
    ∙ round_same f false (num x * den y) (num y * den x) (a * d) (b * c) (mul-pos (num_pos y b d k B) (den_pos x)) (mul-pos B C)
    (ap (λ (z : ℕ). num x * den y * z) (mul_comm b c)
    ∙ mul-mul-mul_comm (num x) (den y) c b
    ∙ ap (λ (z : ℕ). z * (den y * b)) (value→cross x a c h)
    ∙ ap (λ (z : ℕ). a * den x * z) (mul_comm (den y) b ∙ sym (value→cross y b d k))
    ∙ ap (λ (z : ℕ). a * den x * z) (mul_comm (num y) d)
    ∙ mul-mul-mul_comm a (den x) d (num y)
    ∙ ap (λ (z : ℕ). a * d * z) (mul_comm (den x) (num y)))

-- ---- the operands are exact
tens-split : (k : ℕ) → 10 ^ k ≡ 5 ^ k * 2 ^ k
tens-split zero = refl
tens-split (suc k) = pow-suc 10 k ∙ ap (λ (x : ℕ). x * 10) (tens-split k) ∙ mul-mul-mul_comm (5 ^ k) (2 ^ k) 5 2
    ∙ sym (ap (λ (x : ℕ). x * 2 ^ suc k) (pow-suc 5 k) ∙ ap (λ (x : ℕ). 5 ^ k * 5 * x) (pow-suc 2 k))

ten-value : (k : ℕ) → k ≤ 22 → HasValue (ten k) false (10 ^ k) 1
unfolding of_int
ten-value k h =
    let small : 5 ^ k < 2 ^ 53 = lt_of_le_of_lt (pow-le-pow_right (zero-lt-suc 4) h) (lit< tt) in
    let room : 53 + (k + low binary64) ≤ low binary64 + suc (emax binary64) = omega arith in
    round_exact binary64 false (10 ^ k) 1 (5 ^ k) (k + low binary64) (zero-lt-suc 0) small
    (lt_of_lt_of_le (shl_lt 53 (k + low binary64) small) (pow_mono room))
    (ap (λ (x : ℕ). x * 2 ^ low binary64) (tens-split k) ∙ mul_assoc (5 ^ k) (2 ^ k) (2 ^ low binary64)
    ∙ ap (λ (x : ℕ). 5 ^ k * x) (sym (pow-add 2 k (low binary64))) ∙ sym (mul-one (5 ^ k * 2 ^ (k + low binary64))))

whole-value : (w : ℕ) → w ≤ 2 ^ 53 → HasValue (of_int binary64 (pos w)) false w 1
unfolding of_int
whole-value w h = round_whole binary64 false w h

ten-pos : (k : ℕ) → 0 < 10 ^ k
ten-pos k = lt_of_lt_of_le (zero-lt-suc 0) (pow-le-pow_right {n = 10} (zero-lt-suc 9) {i = 0} {j = k} (omega arith))

-- ---- the theorem, for each operation
back-up : (a b : ℕ) → b ≤ a → a - b + b ≡ a
back-up a b h = omega arith

-- 10 ^ k times 10 ^ b is 10 ^ a, where k = a - b
tens-join : (a b : ℕ) → b ≤ a → 10 ^ (a - b) * 10 ^ b ≡ 10 ^ a
tens-join a b h = sym (pow-add 10 (a - b) b) ∙ ap (λ (x : ℕ). 10 ^ x) (back-up a b h)

module _ (minus : Bool) (w up down : ℕ) (W : 0 < w) (l : w ≤ 2 ^ 53) where
  rounded-nearest : w * 10 ^ up < limit * 10 ^ down → (x : Float) → x ≡ round binary64 false (w * 10 ^ up) (10 ^ down) → IsNearest minus (w * 10 ^ up) (10 ^ down) (signed minus x)
  rounded-nearest h x e =
      subst (λ (y : Float). IsNearest minus (w * 10 ^ up) (10 ^ down) y) (sym (ap (λ (y : Float). signed minus y) e ∙ signed_round minus (w * 10 ^ up) (10 ^ down)))
      ((rounding minus (w * 10 ^ up) (10 ^ down) (ten-pos down)).within h)

  pub nearest-mul : down ≤ up → up - down ≤ 22 → IsNearest minus (w * 10 ^ up) (10 ^ down) (signed minus (mul binary64 (of_int binary64 (pos w)) (ten (up - down))))
  nearest-mul h k =
      let t = 10 ^ (up - down) in
      let e : w * t * 10 ^ down ≡ w * 10 ^ up = mul_assoc w t (10 ^ down) ∙ ap (λ (x : ℕ). w * x) (tens-join up down h) in
      let vw = whole-value w l in
      let vt = ten-value (up - down) k in
      let small : w * t < limit = lt_of_le_of_lt (mul-le-mul l (pow-le-pow_right {n = 10} (zero-lt-suc 9) k)) (lit< tt) in
      rounded-nearest (lt_of_le_of_lt (le_of_eq (sym e)) (mul-lt-mul_of_pos_right small (ten-pos down))) (mul binary64 (of_int binary64 (pos w)) (ten (up - down)))
      (mul_at binary64 (of_int binary64 (pos w)) (ten (up - down)) w 1 t 1 (positive_of_value (of_int binary64 (pos w)) w 1 vw W)
      (positive_of_value (ten (up - down)) t 1 vt (ten-pos (up - down))) (zero-lt-suc 0) (zero-lt-suc 0) vw vt
      ∙ round_same binary64 false (w * t) (1 * 1) (w * 10 ^ up) (10 ^ down) (zero-lt-suc 0) (ten-pos down) (e ∙ sym (mul-one (w * 10 ^ up))))

  pub nearest-div : up ≤ down → down - up ≤ 22 → IsNearest minus (w * 10 ^ up) (10 ^ down) (signed minus (div binary64 (of_int binary64 (pos w)) (ten (down - up))))
  nearest-div h k =
      let t = 10 ^ (down - up) in
      let e : w * 1 * 10 ^ down ≡ w * 10 ^ up * (t * 1) =
      ap (λ (x : ℕ). x * 10 ^ down) (mul-one w) ∙ ap (λ (x : ℕ). w * x) (sym (tens-join down up h) ∙ mul_comm t (10 ^ up)) ∙ sym (mul_assoc w (10 ^ up) t)
      ∙ ap (λ (x : ℕ). w * 10 ^ up * x) (sym (mul-one t)) in
      let small : w * 10 ^ up < limit * 10 ^ down =
      lt_of_le_of_lt (mul-le-mul l (pow-le-pow_right {n = 10} (zero-lt-suc 9) h)) (mul-lt-mul_of_pos_right (lit< {m = 2 ^ 53} {n = limit} tt) (ten-pos down)) in
      rounded-nearest small (div binary64 (of_int binary64 (pos w)) (ten (down - up)))
      (div-at binary64 (of_int binary64 (pos w)) (ten (down - up)) w 1 t 1 W (ten-pos (down - up)) (zero-lt-suc 0) (whole-value w l) (ten-value (down - up) k)
      ∙ round_same binary64 false (w * 1) (t * 1) (w * 10 ^ up) (10 ^ down) (mul-pos (ten-pos (down - up)) (zero-lt-suc 0)) (ten-pos down) e)

-- ---- zero
zero-round : (minus : Bool) → round binary64 minus 0 1 ≡ signed minus (fin false 0 (pos 0))
unfolding round neg
zero-round true = refl
zero-round false = refl

nearest_zero : (minus : Bool) (w up down : ℕ) → w ≡ 0 → IsNearest minus (w * 10 ^ up) (10 ^ down) (signed minus (fin false 0 (pos 0)))
nearest_zero minus w up down e =
    let z : w * 10 ^ up ≡ 0 = ap (λ (x : ℕ). x * 10 ^ up) e ∙ zero-mul (10 ^ up) in
    subst (λ (x : ℕ). IsNearest minus x (10 ^ down) (signed minus (fin false 0 (pos 0)))) (sym z)
    (subst (λ (x : Float). IsNearest minus 0 (10 ^ down) x) (round_same binary64 minus 0 (10 ^ down) 0 1 (ten-pos down) (zero-lt-suc 0) (zero-mul 1 ∙ sym (zero-mul (10 ^ down))) ∙ zero-round minus)
    ((rounding minus 0 (10 ^ down) (ten-pos down)).within (mul-pos (lit< {m = 0} {n = limit} tt) (ten-pos down))))

-- ---- what `meaning` gives is right
or-second : (a b : Bool) → T (a || b) → (a ≡ true) ⊎ T b
or-second true b t = inl refl
or-second false b t = inr t

past_all : (a b : Bool) (x y : Result Float NumberError) → T (not (a || b)) → cond a x (cond b y (Err Beyond)) ≡ Err Beyond
past_all true b x y t = absurd t
past_all false true x y t = absurd t
past_all false false x y t = refl

in_reach-law : (w up down : ℕ) → T (in_reach w up down) → (w ≤ 2 ^ 53) × (up ≤ down + 22) × (down ≤ up + 22)
in_reach-law w up down t =
    let a : Bool = leb w (2 ^ 53) in
    let b : Bool = leb up (down + 22) in
    let c : Bool = leb down (up + 22) in
    (leb→le w (2 ^ 53) (and_l a b (and_l (a && b) c t)), leb→le up (down + 22) (and_r a b (and_l (a && b) c t)), leb→le down (up + 22) (and_r (a && b) c t))

pub meaning-right : (minus : Bool) (w up down : ℕ) → Right minus w up down (meaning minus w up down)
meaning-right minus w up down = record { within = λ t. told (within t); past = λ t. ap number_answer (past t) }
  where
    told : (x : Float) × (meaning minus w up down ≡ Ok x) × IsNearest minus (w * 10 ^ up) (10 ^ down) x
        → (number_answer (meaning minus w up down) ≡ 0) × IsNearest minus (w * 10 ^ up) (10 ^ down) (number_value (meaning minus w up down))
    told (x, e, n) = (ap number_answer e, subst (λ (y : Result Float NumberError). IsNearest minus (w * 10 ^ up) (10 ^ down) (number_value y)) (sym e) n)

    zero-case : w ≡ 0 → (x : Float) × (meaning minus w up down ≡ Ok x) × IsNearest minus (w * 10 ^ up) (10 ^ down) x
    zero-case e = (signed minus (fin false 0 (pos 0)), meaning-zero minus w up down e, nearest_zero minus w up down e)

    some-case : 0 < w → T (in_reach w up down) → (x : Float) × (meaning minus w up down ≡ Ok x) × IsNearest minus (w * 10 ^ up) (10 ^ down) x
    some-case W t =
        let r = in_reach-law w up down t in
        let n : w ≡ 0 → ⊥ = λ e. omega arith in
        elim (le-or-lt down up) [
          | inl h ↦
              let k : up - down ≤ 22 = omega (arith, r.1) in
              (signed minus (mul binary64 (of_int binary64 (pos w)) (ten (up - down))), meaning-up minus w up down n r.0 h k, nearest-mul minus w up down W r.0 h k)
          | inr h ↦
              let k : down - up ≤ 22 = omega (arith, r.2) in
              let g : up ≤ down = omega arith in
              (signed minus (div binary64 (of_int binary64 (pos w)) (ten (down - up))), meaning-down minus w up down n r.0 h k, nearest-div minus w up down W r.0 g k)
        ]

    within : T (reachable w up down) → (x : Float) × (meaning minus w up down ≡ Ok x) × IsNearest minus (w * 10 ^ up) (10 ^ down) x
    within t =
        elim (eq-zero-or-pos w) [
          | inl e ↦ zero-case e
          | inr W ↦ elim (or-second (eqb w 0) (in_reach w up down) t) [ inl e ↦ zero-case (eqb-true w 0 e) | inr u ↦ some-case W u ]
        ]

    past : T (not (reachable w up down)) → meaning minus w up down ≡ Err Beyond
    past t = unfold meaning in past_all (eqb w 0) (in_reach w up down) _ _ t

-- ---- so is what a reading gives
as_read : (d : Reading) → AsRead d (outcome d)
as_read malformed = refl
as_read (word x) = (refl, refl)
as_read (decimal minus w up down) = meaning-right minus w up down

-- the two clauses of a contract, from the first
pub both-clauses : (s : List ℕ) (r : Result Float NumberError) → r ≡ number_of s → (r ≡ number_of s) × AsRead (reading_of s) r
unfolding number_of
both-clauses s r e = (e, subst (λ (x : Result Float NumberError). AsRead (reading_of s) x) (sym e) (as_read (reading_of s)))

-- ---- and no second answer is as the reading says
taken : (r : Result Float NumberError) → number_answer r ≡ 0 → r ≡ Ok (number_value r)
taken (Ok x) e = refl
taken (Err Malformed) e = cc
taken (Err Beyond) e = cc

refused : (r q : Result Float NumberError) (n : ℕ) → 0 < n → number_answer r ≡ n → number_answer q ≡ n → r ≡ q
refused (Ok x) q n h e f = absurd (no n h e)
  where
    no : (n : ℕ) → 0 < n → 0 ≡ n → ⊥
    no n h e = omega arith
refused (Err Malformed) (Ok x) n h e f = cc
refused (Err Malformed) (Err Malformed) n h e f = refl
refused (Err Malformed) (Err Beyond) n h e f = cc
refused (Err Beyond) (Ok x) n h e f = cc
refused (Err Beyond) (Err Malformed) n h e f = cc
refused (Err Beyond) (Err Beyond) n h e f = refl

pub as-read-unique : (d : Reading) (r q : Result Float NumberError) → AsRead d r → AsRead d q → r ≡ q
as-read-unique malformed r q v w = refused r q 2 (zero-lt-suc 1) v w
as-read-unique (word x) r q v w = taken r v.0 ∙ ap Ok (v.1 ∙ sym w.1) ∙ sym (taken q w.0)
as-read-unique (decimal minus w up down) r q v u = go (reachable w up down) refl
  where
    go : (b : Bool) → reachable w up down ≡ b → r ≡ q
    go true e =
        let t = subst T (sym e) tt in
        taken r (v.within t).0
        ∙ ap Ok (nearest-unique minus (w * 10 ^ up) (10 ^ down) (ten-pos down) (number_value r) (number_value q) (v.within t).1 (u.within t).1)
        ∙ sym (taken q (u.within t).0)
    go false e =
        let t = subst (λ (b : Bool). T (not b)) (sym e) tt in
        refused r q 22 (zero-lt-suc 21) (v.past t) (u.past t)
