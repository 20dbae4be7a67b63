-- `meaning` by cases, as the code goes. Assumes nothing.
use Rattle.std.specs.Prelude.{Err, Ok}
use mathlib.Core.Path.{◌≡◌, refl, sym, ap, ◌∙◌}
use mathlib.Core.Logic.{◌⊎◌, inl, inr}
use mathlib.Core.Bool.{Bool, true, false, ◌&&◌}
use Prim.Native.Nat.{ℕ, ◌+◌, ◌-◌, ◌^◌, ◌<◌, ◌≤◌, min}
use native.Mathlib.Nat.{eq-zero-or-pos}
use native.Mathlib.Omega.{arith}
use lib.IntN.{pos}
use lib.Dec.{leb}
use lib.Ieee.{fin, binary64, of_int, mul, div}
use borrow.Author.Tests.{lt-leb, le-leb, eq-eqb, ne_eqb}
use Rattle.leaf_decimals.specs.declared.NumberError.TheVariants.{Beyond}
use Rattle.leaf_digits.specs.Cap.{cap}
use Rattle.leaf_decimals.specs.Nearest.{gap}
use Rattle.leaf_decimals.specs.Reach.{ten, signed, meaning}
use Rattle.leaf_decimals.proofs.Whole.{le-or-lt}

pub meaning-zero : (minus : Bool) (w up down : ℕ) → w ≡ 0 → meaning minus w up down ≡ Ok (signed minus (fin false 0 (pos 0)))
unfolding meaning
meaning-zero minus w up down e = simp (eq-eqb w 0 e)

pub meaning-far : (minus : Bool) (w up down : ℕ) → 2 ^ 53 < w → meaning minus w up down ≡ Err Beyond
unfolding meaning
meaning-far minus w up down h = simp (ne_eqb w 0 (λ e. omega arith), lt-leb w (2 ^ 53) h)

module _ (minus : Bool) (w up down : ℕ) (n : w ≡ 0 → ⊥) (l : w ≤ 2 ^ 53) where
  pub meaning-up : down ≤ up → up - down ≤ 22 → meaning minus w up down ≡ Ok (signed minus (mul binary64 (of_int binary64 (pos w)) (ten (up - down))))
  unfolding meaning
  meaning-up h k = simp (ne_eqb w 0 n, le-leb w (2 ^ 53) l, le-leb down up h, le-leb up (down + 22) (omega arith), le-leb down (up + 22) (omega arith))

  pub meaning-down : up < down → down - up ≤ 22 → meaning minus w up down ≡ Ok (signed minus (div binary64 (of_int binary64 (pos w)) (ten (down - up))))
  unfolding meaning
  meaning-down h k = simp (ne_eqb w 0 n, le-leb w (2 ^ 53) l, lt-leb down up h, le-leb up (down + 22) (omega arith), le-leb down (up + 22) (omega arith))

-- ---- a count that stops at the cap says as much as the whole count
past_up : (b c : Bool) → b && false && c ≡ false
past_up true c = refl
past_up false c = refl

past_down : (b : Bool) → b && false ≡ false
past_down true = refl
past_down false = refl

pub meaning-beyond : (minus : Bool) (w up down : ℕ) → (w ≡ 0 → ⊥) → (down + 22 < up) ⊎ (up + 22 < down) → meaning minus w up down ≡ Err Beyond
unfolding meaning
meaning-beyond minus w up down n (inl h) = simp (ne_eqb w 0 n, lt-leb up (down + 22) h, past_up (leb w (2 ^ 53)) (leb down (up + 22)))
meaning-beyond minus w up down n (inr h) = simp (ne_eqb w 0 n, lt-leb down (up + 22) h, past_down (leb w (2 ^ 53) && leb up (down + 22)))

pub meaning-apart : (minus : Bool) (w up down k : ℕ) → (w ≡ 0 → ⊥) → k ≡ gap up down → 22 < k → meaning minus w up down ≡ Err Beyond
meaning-apart minus w up down k n e h =
    elim (le-or-lt down up) [ inl l ↦ meaning-beyond minus w up down n (inl (omega arith)) | inr l ↦ meaning-beyond minus w up down n (inr (omega arith)) ]

pub both-beyond : (minus : Bool) (w up down up' down' : ℕ) → (down + 22 < up) ⊎ (up + 22 < down) → (down' + 22 < up') ⊎ (up' + 22 < down') → meaning minus w up down ≡ meaning minus w up' down'
both-beyond minus w up down up' down' h k =
    elim (eq-zero-or-pos w) [
      | inl e ↦ meaning-zero minus w up down e ∙ sym (meaning-zero minus w up' down' e)
      | inr p ↦
          let n : w ≡ 0 → ⊥ = λ e. omega arith in
          meaning-beyond minus w up down n h ∙ sym (meaning-beyond minus w up' down' n k)
    ]

pub meaning-cap-w : (minus : Bool) (w up down : ℕ) → meaning minus (min w cap) up down ≡ meaning minus w up down
meaning-cap-w minus w up down =
    elim (le-or-lt w cap) [
      | inl h ↦ ap (λ (x : ℕ). meaning minus x up down) (omega arith)
      | inr h ↦ meaning-far minus (min w cap) up down (omega arith) ∙ sym (meaning-far minus w up down (omega arith))
    ]

pub meaning-cap-up : (minus : Bool) (w x frac : ℕ) → frac < 2 ^ 63 → meaning minus w (min x cap) frac ≡ meaning minus w x frac
meaning-cap-up minus w x frac l =
    elim (le-or-lt x cap) [
      | inl h ↦ ap (λ (y : ℕ). meaning minus w y frac) (omega arith)
      | inr h ↦ both-beyond minus w (min x cap) frac x frac (inl (omega arith)) (inl (omega arith))
    ]

pub meaning-cap-down : (minus : Bool) (w x frac : ℕ) → 22 < min x cap → meaning minus w 0 (frac + 23) ≡ meaning minus w 0 (frac + x)
meaning-cap-down minus w x frac h = both-beyond minus w 0 (frac + 23) 0 (frac + x) (inr (omega arith)) (inr (omega arith))
