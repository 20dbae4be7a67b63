-- `leaf_decimals::valued` meets its contract. Assumes nothing.
use Rattle.std.specs.Prelude.{Ok}
use mathlib.Core.Path.{◌≡◌, sym, ap, ◌∙◌}
use mathlib.Core.Bool.{Bool}
use Prim.Native.Nat.{ℕ, ◌-◌, ◌^◌, ◌≤◌, ◌<◌}
use native.Mathlib.Omega.{arith}
use lib.IntN.{pos}
use lib.Dec.{le→leb}
use lib.Ieee.{Float, binary64, of_bits, of_int, mul, div, in_float}
use Rattle.leaf_decimals.specs.Nearest.{gap}
use Rattle.leaf_decimals.specs.Reach.{ten, signed, meaning}
use Rattle.leaf_decimals.proofs.Meaning.{meaning-zero, meaning-far, meaning-apart, meaning-up, meaning-down}
use Rattle.leaf_decimals.proofs.valued.Goals as goal

module _ (minus : Bool) (w up down k : ℕ) (n : w ≡ 0 → ⊥) (l : w ≤ 2 ^ 53) (g : k ≡ gap up down) (r : k ≤ 22) (p : Float) (q : p ≡ ten k) where
  times : down ≤ up → Ok (signed minus (mul binary64 (of_int binary64 (pos w)) p)) ≡ meaning minus w up down
  times h =
      let e : k ≡ up - down = omega arith in
      ap (λ (x : Float). Ok (signed minus (mul binary64 (of_int binary64 (pos w)) x))) (q ∙ ap ten e) ∙ sym (meaning-up minus w up down n l h (omega arith))

  over : up < down → Ok (signed minus (div binary64 (of_int binary64 (pos w)) p)) ≡ meaning minus w up down
  over h =
      let e : k ≡ down - up = omega arith in
      ap (λ (x : Float). Ok (signed minus (div binary64 (of_int binary64 (pos w)) x))) (q ∙ ap ten e) ∙ sym (meaning-down minus w up down n l h (omega arith))

pub returns-then-w-eq0 : goal.returns-then-w-eq0
unfolding of_bits
returns-then-w-eq0 c = ap Ok c.with_sign-zero.ensures ∙ sym (meaning-zero _ _ _ _ c.if-w-eq0.true)

pub returns-then-w-gt9007199254740992 : goal.returns-then-w-gt9007199254740992
returns-then-w-gt9007199254740992 c = sym (meaning-far _ _ _ _ c.if-w-gt9007199254740992.true)

pub returns-then-k-gt22 : goal.returns-then-k-gt22
returns-then-k-gt22 c = sym (meaning-apart _ _ _ _ _ c.if-w-eq0.false c.abs_diff-k.ensures c.if-k-gt22.true)

pub int_to_float-x : goal.int_to_float-x
unfolding in_float
int_to_float-x c = le→leb _ _ c.if-w-gt9007199254740992.false

pub returns-then-down-up : goal.returns-then-down-up
returns-then-down-up c =
    let a = c.args in
    ap Ok c.with_sign.ensures ∙ times a.minus a.w a.up a.down _ c.if-w-eq0.false c.if-w-gt9007199254740992.false c.abs_diff-k.ensures
    c.if-k-gt22.false _ c.power_of_ten-p.ensures c.if-down-up.true

pub returns-else-down-up : goal.returns-else-down-up
returns-else-down-up c =
    let a = c.args in
    ap Ok c.with_sign-else-down-up.ensures ∙ over a.minus a.w a.up a.down _ c.if-w-eq0.false c.if-w-gt9007199254740992.false c.abs_diff-k.ensures
    c.if-k-gt22.false _ c.power_of_ten-p.ensures c.if-down-up.false
