-- What `round` keeps of n / den, a fraction in units of a format's smallest value, is nearest to it among the numbers that have at most p binary digits and then zeros.
-- p is the format's number of digits, and no format is named here. Assumes nothing.
use mathlib.Core.Path.{◌≡◌, sym, ap, ◌∙◌, subst}
use mathlib.Core.Logic.{◌⊎◌, inl, inr}
use Prim.Native.Nat.{ℕ, ◌+◌, ◌-◌, ◌*◌, ◌/◌, ◌%◌, ◌^◌, ◌≤◌, ◌<◌, zero-le}
use native.Mathlib.Nat.{le_trans, le_of_eq, lt_of_lt_of_le, lt_of_le_of_lt, mul_comm, mul_assoc, mul-lt-mul_of_pos_right, mul-pos, le-div_iff_mul-le}
use native.Mathlib.Omega.{arith}
use lib.Pow.{pow-add, pow_pos, pow_mono, shl_lt}
use lib.Ieee.{size}
use lib.Ieee.Digits.{size_reaches, back}
use lib.Ieee.Order.{drop, kept}
use Rattle.leaf_decimals.specs.Nearest.{gap}
use Rattle.leaf_decimals.proofs.Whole.{le-or-lt, closest-least, closest-tie}

-- one step of the kept number, times den
abbrev pub step : ℕ → ℕ → ℕ → ℕ
step p n den = den * 2 ^ drop p n den

pub step-pos : (p n den : ℕ) → 0 < den → 0 < step p n den
step-pos p n den D = mul-pos D (pow_pos (drop p n den))

all_in_use : (z p : ℕ) → 0 < p → 0 < z - p → p - 1 + (z - p) < z
all_in_use z p P h = omega arith

room : (p j k : ℕ) → 0 < p → j < k → p + j ≤ p - 1 + k
room p j k P h = omega arith

-- m * 2 ^ j, with m of at most p digits, is a whole number of steps; or it is below 2 ^ (p - 1) steps, which are n / den at most
pub place : (p n den m j : ℕ) → 0 < p → 0 < den → m < 2 ^ p
    → ((g : ℕ) × (g * step p n den ≡ m * 2 ^ j * den)) ⊎ ((m * 2 ^ j * den < 2 ^ (p - 1) * step p n den) × (2 ^ (p - 1) * step p n den ≤ n))
place p n den m j P D h =
    let k = drop p n den in
    elim (le-or-lt k j) [
      | inl l ↦ inl (
        m * 2 ^ (j - k),
        mul_assoc m (2 ^ (j - k)) (den * 2 ^ k)
            ∙ ap (λ (x : ℕ). m * x) (ap (λ (x : ℕ). 2 ^ (j - k) * x) (mul_comm den (2 ^ k)) ∙ sym (mul_assoc (2 ^ (j - k)) (2 ^ k) den)
            ∙ ap (λ (x : ℕ). x * den) (sym (pow-add 2 (j - k) k) ∙ ap (λ (x : ℕ). 2 ^ x) (back j k l)))
            ∙ sym (mul_assoc m (2 ^ j) den),
      )
      | inr l ↦
          let z = size (n / den) in
          let e : 2 ^ (p - 1 + k) * den ≡ 2 ^ (p - 1) * (den * 2 ^ k) =
          ap (λ (x : ℕ). x * den) (pow-add 2 (p - 1) k) ∙ mul_assoc (2 ^ (p - 1)) (2 ^ k) den ∙ ap (λ (x : ℕ). 2 ^ (p - 1) * x) (mul_comm (2 ^ k) den) in
          inr (
            lt_of_lt_of_le (mul-lt-mul_of_pos_right (lt_of_lt_of_le (shl_lt p j h) (pow_mono (room p j k P l))) D) (le_of_eq e),
            le_trans (le_of_eq (sym e)) ((le-div_iff_mul-le D).0 (size_reaches (n / den) (p - 1 + k) (all_in_use z p P (lt_of_le_of_lt zero-le l)))),
          )
    ]

beyond : (Q G B n : ℕ) → gap Q n ≤ gap B n → G < B → B ≤ n → gap Q n < gap G n
beyond Q G B n h l k = omega arith

lt-le : (a b : ℕ) → a < b → a ≤ b
lt-le a b h = omega arith

lt-ne : (a b : ℕ) → a < b → a ≡ b → ⊥
lt-ne a b h e = omega arith

pub kept-least : (p n den m j : ℕ) → 0 < p → 0 < den → m < 2 ^ p → gap (kept p n den * step p n den) n ≤ gap (m * 2 ^ j * den) n
kept-least p n den m j P D h =
    let u = step p n den in
    elim (place p n den m j P D h) [
      | inl g ↦ subst (λ (x : ℕ). gap (kept p n den * u) n ≤ gap x n) g.1 (closest-least n u g.0 (step-pos p n den D))
      | inr b ↦
          lt-le (gap (kept p n den * u) n) (gap (m * 2 ^ j * den) n)
          (beyond (kept p n den * u) (m * 2 ^ j * den) (2 ^ (p - 1) * u) n (closest-least n u (2 ^ (p - 1)) (step-pos p n den D)) b.0 b.1)
    ]

pub kept-tie : (p n den m j : ℕ) → 0 < p → 0 < den → m < 2 ^ p → (kept p n den * step p n den ≡ m * 2 ^ j * den → ⊥)
    → gap (kept p n den * step p n den) n ≡ gap (m * 2 ^ j * den) n → kept p n den % 2 ≡ 0
kept-tie p n den m j P D h o t =
    let u = step p n den in
    elim (place p n den m j P D h) [
      | inl g ↦ closest-tie n u g.0 (step-pos p n den D) (t ∙ ap (λ (x : ℕ). gap x n) (sym g.1)) (λ (e : kept p n den ≡ g.0). o (ap (λ (x : ℕ). x * u) e ∙ g.1))
      | inr b ↦
          absurd (lt-ne (gap (kept p n den * u) n) (gap (m * 2 ^ j * den) n)
          (beyond (kept p n den * u) (m * 2 ^ j * den) (2 ^ (p - 1) * u) n (closest-least n u (2 ^ (p - 1)) (step-pos p n den D)) b.0 b.1) t)
    ]
