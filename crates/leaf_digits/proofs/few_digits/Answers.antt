-- `leaf_digits::few_digits` meets its contract. Assumes nothing.
use mathlib.Core.Path.{◌≡◌, refl, sym, ap, ◌∙◌}
use mathlib.Core.Bool.{true}
use Prim.Native.Nat.{◌+◌, ◌*◌}
use native.Mathlib.Omega.{arith}
use lib.ListN.{get_or}
use Rattle.leaf_digits.specs.declared.Class.TheVariants.{Digit}
use Rattle.leaf_digits.specs.Bytes.{is}
use Rattle.leaf_digits.proofs.Classes.{digit-range}
use Rattle.leaf_digits.proofs.Runs.{scan-none, scan-more, room-more, room_fits}
use Rattle.leaf_digits.proofs.few_digits.Goals as goal

pub loop-i-init : goal.loop-i-init
loop-i-init c = let p = c.requires in (p.1, scan-none _ _ _ p.0, p.2)

pub bounds-s-i : goal.bounds-s-i
bounds-s-i c = omega (arith, c.loop-i.invariant.0, c.loop-i-test.true)

pub is_digit-requires : goal.is_digit-requires
is_digit-requires c = tt

pub overflow_mul-v : goal.overflow_mul-v
overflow_mul-v c = omega (arith, room_fits _ _ _ c.loop-i-test.true c.loop-i.invariant.2)

pub digit_value-requires : goal.digit_value-requires
digit_value-requires c = digit-range _ (sym c.is_digit.ensures ∙ c.if-is_digit.true)

pub overflow_add-v : goal.overflow_add-v
overflow_add-v c =
    let here : let a = c.args in is Digit (get_or a.s.now c.loop-i.i 0) ≡ true = sym c.is_digit.ensures ∙ c.if-is_digit.true in
    omega (arith, room_fits _ _ _ c.loop-i-test.true c.loop-i.invariant.2, c.digit_value.ensures, (digit-range _ (here)).1)

pub returns-else-is_digit : goal.returns-else-is_digit
returns-else-is_digit c = let k = c.loop-i.invariant in (k.1, k.2)

pub overflow_add-i : goal.overflow_add-i
overflow_add-i c =
    omega (arith, c.loop-i-test.true, c.loop-i.invariant.0)

pub loop-i-smaller : goal.loop-i-smaller
loop-i-smaller c = omega (arith, c.loop-i-test.true)

pub loop-i-preserved : goal.loop-i-preserved
loop-i-preserved c =
    let here : let a = c.args in is Digit (get_or a.s.now c.loop-i.i 0) ≡ true = sym c.is_digit.ensures ∙ c.if-is_digit.true in
    let k = c.loop-i.invariant in
    let t = c.loop-i-test.true in
    let q = c.digit_value.ensures in
    (k.0, scan-more k.1 (omega (arith, t, k.0)) (here) (ap (c.loop-i.v * 10 +◌) q), room-more c.loop-i.v _ _ _ _ t (omega (arith, q, (digit-range _ (here)).1)) refl k.2)

pub returns : goal.returns
returns c = let k = c.loop-i.invariant in (k.1, k.2)
