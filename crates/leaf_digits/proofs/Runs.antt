-- The scan of few digits, one at a time, and the room that is left. Assumes nothing.
use mathlib.Core.Path.{◌≡◌, refl, sym, ap, ◌∙◌}
use mathlib.Core.Bool.{true}
use mathlib.Core.List.{List, []}
use Prim.Native.Nat.{ℕ, suc, ◌+◌, ◌-◌, ◌*◌, ◌^◌, ◌≤◌, ◌<◌, min}
use native.Mathlib.Nat.{le_of_eq, mul_assoc, mul_comm, mul-le-mul, pow-suc, pow-le-pow_right, zero-lt-suc}
use native.Mathlib.Omega.{arith}
use lib.ListN.{length, drop, get_or}
use Rattle.leaf_digits.specs.declared.Class.TheVariants.{Digit}
use Rattle.leaf_digits.specs.Bytes.{is}
use Rattle.leaf_digits.specs.Digits.{digits, value}
use Rattle.leaf_digits.specs.Cap.{cap}
use Rattle.leaf_digits.specs.Runs.{Room, Scanned}
use Rattle.leaf_digits.proofs.Digits.{digits_step, value-nil, value-cons}

pub scan-none : (s : List ℕ) (from w : ℕ) → from ≤ length s → Scanned s from w from w
scan-none s from w h = record { after = omega arith; inside = h; place = refl; count = refl }

pub scan-more : {s : List ℕ} {from w i v x : ℕ} → Scanned s from w i v → i < length s → is Digit (get_or s i 0) ≡ true → x ≡ v * 10 + (get_or s i 0 - 48)
    → Scanned s from w (i + 1) x
scan-more {s} {from} {w} {i} {v} {x} k h e q =
    let d = digits_step s i h e in
    let ds : List ℕ = digits (drop (i + 1) s) in
    record {
      after = omega (arith, k.after);
      inside = omega arith;
      place = omega (arith, ap length d, k.place);
      count = ap (λ (y : ℕ). value y ds) q ∙ sym (value-cons v (get_or s i 0) ds) ∙ ap (value v) (sym d) ∙ k.count;
    }

-- one digit takes one place of the room
pub room-more : (v i to d x : ℕ) → i < to → d ≤ 9 → x ≡ v * 10 + d → Room v i to → Room x (i + 1) to
room-more v i to d x h k q r =
    let p : ℕ = 10 ^ (to - (i + 1)) in
    let e : to - i ≡ suc (to - (i + 1)) = omega arith in
    let m : suc x * p ≤ (suc v * 10) * p = mul-le-mul (omega arith) (le_of_eq refl) in
    let a : (suc v * 10) * p ≡ suc v * (p * 10) = mul_assoc (suc v) 10 p ∙ ap (suc v *◌) (mul_comm 10 p) in
    let o : suc v * (p * 10) ≡ suc v * 10 ^ (to - i) = ap (suc v *◌) (sym (pow-suc 10 (to - (i + 1))) ∙ ap (10 ^◌) (sym e)) in
    omega (arith, m, a, o, r)

pub room_fits : (v i to : ℕ) → i < to → Room v i to → v * 10 + 10 ≤ 10 ^ 19
room_fits v i to h r =
    let m : suc v * 10 ^ 1 ≤ suc v * 10 ^ (to - i) = mul-le-mul (le_of_eq refl) (pow-le-pow_right {n = 10} (zero-lt-suc 9) {i = 1} {j = to - i} (omega arith)) in
    omega (arith, m, r)

pub room-first : (to : ℕ) → to ≤ 19 → Room 0 0 to
room-first to h =
    let m : 10 ^ (to - 0) ≤ 10 ^ 19 = pow-le-pow_right {n = 10} (zero-lt-suc 9) {i = to - 0} {j = 19} (omega arith) in
    omega (arith, m)

-- the point takes a place too
pub room-point : (v i to : ℕ) → Room v i to → Room v (i + 1) to
room-point v i to r =
    let m : suc v * 10 ^ (to - (i + 1)) ≤ suc v * 10 ^ (to - i) = mul-le-mul (le_of_eq refl) (pow-le-pow_right {n = 10} (zero-lt-suc 9) (omega arith)) in
    omega (arith, m, r)

room-cap : (v i to : ℕ) → Room v i to → v ≡ min v cap
room-cap v i to r =
    let m : suc v * 10 ^ 0 ≤ suc v * 10 ^ (to - i) = mul-le-mul (le_of_eq refl) (pow-le-pow_right {n = 10} (zero-lt-suc 9) {i = 0} {j = to - i} (omega arith)) in
    omega (arith, m, r)

-- where no digit is left, all are counted
module _ {s : List ℕ} {from w end v : ℕ} (k : Scanned s from w end v) (to : ℕ) (r : Room v end to) (none : digits (drop end s) ≡ []) where
  pub all-places : end ≡ from + length (digits (drop from s))
  all-places = omega (arith, k.place, ap length none)

  pub all-counted : v ≡ min (value w (digits (drop from s))) cap
  all-counted = room-cap v end to r ∙ ap (λ (x : ℕ). min x cap) (sym (value-nil v) ∙ ap (value v) (sym none) ∙ k.count)
