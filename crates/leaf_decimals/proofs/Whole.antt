-- `closest a b`, which `round` uses, is a whole number nearest to a / b, and an even one at a tie. Nothing here is about floats. Assumes nothing.
use mathlib.Core.Path.{◌≡◌, sym, ap, ◌∙◌, subst}
use mathlib.Core.Logic.{◌⊎◌, inl, inr}
use Prim.Native.Nat.{ℕ, suc, ◌+◌, ◌-◌, ◌*◌, ◌/◌, ◌%◌, ◌≤◌, ◌<◌, compare, Ordering}
use native.Mathlib.Nat.{le_trans, le_of_eq, mul-sub, mul-add, suc-mul, eq-or-lt_of_le, mul-le-mul_right, div-add-mod', mod-lt}
use native.Mathlib.Omega.{arith}
use mathlib.Core.Bool.{Bool, true, false, not}
use lib.Dec.{T, lit<, leb, is_le, compare_is_eq, eqb, leb→le, nleb→lt, eqb→eq, eqb_refl}
use lib.Arith.{lt_of_le-ne}
use lib.Ieee.{nearest}
use lib.Ieee.Nearest.{closest}
use Rattle.leaf_decimals.specs.Nearest.{gap}

-- ---- what `compare` says
abbrev Cmp : Ordering → ℕ → ℕ → Type 0
Cmp Ordering.lt a b = a < b
Cmp Ordering.eq a b = a ≡ b
Cmp Ordering.gt a b = b < a

cmp : (a b : ℕ) → Cmp (compare a b) a b
cmp a b = go (compare a b) (leb→le a b) (nleb→lt a b) (eqb→eq a b) (λ (e : a ≡ b). subst (λ (x : ℕ). T (eqb a x)) e (eqb_refl a))
  where
    go : (o : Ordering) → (T (is_le o) → a ≤ b) → (T (not (is_le o)) → b < a) → (T (compare_is_eq o) → a ≡ b) → (a ≡ b → T (compare_is_eq o)) → Cmp o a b
    go Ordering.lt h k e n = lt_of_le-ne (h tt) n
    go Ordering.eq h k e n = e tt
    go Ordering.gt h k e n = k tt

pub le-or-lt : (a b : ℕ) → (a ≤ b) ⊎ (b < a)
le-or-lt a b = go (leb a b) (leb→le a b) (nleb→lt a b)
  where
    go : (t : Bool) → (T t → a ≤ b) → (T (not t) → b < a) → (a ≤ b) ⊎ (b < a)
    go true h k = inl (h tt)
    go false h k = inr (k tt)

pub gap-mul : (a b c : ℕ) → gap (c * a) (c * b) ≡ c * gap a b
gap-mul a b c = rw (mul-add c (a - b) (b - a), mul-sub c a b, mul-sub c b a)

-- g is below c, is c, or is above c; and so are their multiples
pub tri : (g c b : ℕ) → (g * b + b ≤ c * b) ⊎ ((g ≡ c) ⊎ (c * b + b ≤ g * b))
tri g c b =
    elim (le-or-lt g c) [
      | inl h ↦ elim (eq-or-lt_of_le h) [ inl e ↦ inr (inl e) | inr l ↦ inl (le_trans (le_of_eq (sym (suc-mul g b))) (mul-le-mul_right b l)) ]
      | inr h ↦ inr (inr (le_trans (le_of_eq (sym (suc-mul c b))) (mul-le-mul_right b h)))
    ]

even_step : (c : ℕ) → (c + c % 2 ≡ c) ⊎ (c + c % 2 ≡ suc c)
even_step c = elim (le-or-lt (c % 2) 0) [ inl h ↦ inl (omega arith) | inr h ↦ inr (omega (arith, mod-lt c (lit< {m = 0} {n = 2} tt))) ]

even_sum : (c : ℕ) → (c + c % 2) % 2 ≡ 0
even_sum c = omega arith

-- a = c * b + r: the distances as numbers, from C = c * b and G = g * b
near-low : (C G a b r : ℕ) → C + r ≡ a → r * 2 ≤ b → (G + b ≤ C) ⊎ ((G ≡ C) ⊎ (C + b ≤ G)) → gap C a ≤ gap G a
near-low C G a b r e h (inl k) = omega arith
near-low C G a b r e h (inr (inl k)) = omega arith
near-low C G a b r e h (inr (inr k)) = omega arith

near-high : (C G a b r : ℕ) → C + r ≡ a → r < b → b ≤ r * 2 → (G + b ≤ C) ⊎ ((G ≡ C) ⊎ (C + b ≤ G)) → gap (C + b) a ≤ gap G a
near-high C G a b r e l h (inl k) = omega arith
near-high C G a b r e l h (inr (inl k)) = omega arith
near-high C G a b r e l h (inr (inr k)) = omega arith

multiples : (g c b : ℕ) → (g * b + b ≤ c * b) ⊎ ((g * b ≡ c * b) ⊎ (c * b + b ≤ g * b))
multiples g c b = elim (tri g c b) [ inl h ↦ inl h | inr (inl e) ↦ inr (inl (ap (λ (x : ℕ). x * b) e)) | inr (inr h) ↦ inr (inr h) ]

least_at : (c b r a g : ℕ) (o : Ordering) → c * b + r ≡ a → r < b → Cmp o (r * 2) b → gap (nearest c o * b) a ≤ gap (g * b) a
least_at c b r a g Ordering.lt e l h = near-low (c * b) (g * b) a b r e (omega arith) (multiples g c b)
least_at c b r a g Ordering.eq e l h =
    elim (even_step c) [
      | inl k ↦ subst (λ (x : ℕ). gap (x * b) a ≤ gap (g * b) a) (sym k) (near-low (c * b) (g * b) a b r e (le_of_eq h) (multiples g c b))
      | inr k ↦ subst (λ (x : ℕ). gap x a ≤ gap (g * b) a) (sym (ap (λ (x : ℕ). x * b) k ∙ suc-mul c b)) (near-high (c * b) (g * b) a b r e l (le_of_eq (sym h)) (multiples g c b))
    ]
least_at c b r a g Ordering.gt e l h =
    subst (λ (x : ℕ). gap x a ≤ gap (g * b) a) (sym (suc-mul c b)) (near-high (c * b) (g * b) a b r e l (omega arith) (multiples g c b))

no-tie-low : (C G a b r : ℕ) → C + r ≡ a → 0 < b → r * 2 < b → gap C a ≡ gap G a → (G + b ≤ C) ⊎ (C + b ≤ G) → ⊥
no-tie-low C G a b r e p h t (inl k) = omega arith
no-tie-low C G a b r e p h t (inr k) = omega arith

no-tie-high : (D G a b r : ℕ) → D + r ≡ a + b → r < b → b < r * 2 → gap D a ≡ gap G a → (G + b ≤ D) ⊎ (D + b ≤ G) → ⊥
no-tie-high D G a b r e l h t (inl k) = omega arith
no-tie-high D G a b r e l h t (inr k) = omega arith

other : (g c b : ℕ) → (c ≡ g → ⊥) → (g * b + b ≤ c * b) ⊎ (c * b + b ≤ g * b)
other g c b n = elim (tri g c b) [ inl h ↦ inl h | inr (inl e) ↦ absurd (n (sym e)) | inr (inr h) ↦ inr h ]

tie-at : (c b r a g : ℕ) (o : Ordering) → c * b + r ≡ a → r < b → Cmp o (r * 2) b → gap (nearest c o * b) a ≡ gap (g * b) a → (nearest c o ≡ g → ⊥) → nearest c o % 2 ≡ 0
tie-at c b r a g Ordering.lt e l h t n = absurd (no-tie-low (c * b) (g * b) a b r e (omega arith) h t (other g c b n))
tie-at c b r a g Ordering.eq e l h t n = even_sum c
tie-at c b r a g Ordering.gt e l h t n = absurd (no-tie-high (suc c * b) (g * b) a b r (omega (arith, suc-mul c b)) l h t (other g (suc c) b n))

pub closest-least : (a b g : ℕ) → 0 < b → gap (closest a b * b) a ≤ gap (g * b) a
closest-least a b g B = least_at (a / b) b (a % b) a g (compare (a % b * 2) b) (div-add-mod' a b) (mod-lt a B) (cmp (a % b * 2) b)

pub closest-tie : (a b g : ℕ) → 0 < b → gap (closest a b * b) a ≡ gap (g * b) a → (closest a b ≡ g → ⊥) → closest a b % 2 ≡ 0
closest-tie a b g B = tie-at (a / b) b (a % b) a g (compare (a % b * 2) b) (div-add-mod' a b) (mod-lt a B) (cmp (a % b * 2) b)
