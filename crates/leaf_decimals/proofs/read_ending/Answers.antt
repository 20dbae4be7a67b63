-- `leaf_decimals::read_ending` meets its contract. Assumes nothing.
use mathlib.Core.Path.{sym, ap, ◌∙◌}
use mathlib.Core.List.{List}
use Prim.Native.Nat.{ℕ, ◌<◌}
use native.Mathlib.Omega.{arith}
use lib.ListN.{length}
use Rattle.leaf_digits.specs.declared.Class.TheVariants.{Exponent}
use Rattle.leaf_decimals.specs.Numbers.{exponent, outcome}
use Rattle.leaf_digits.proofs.Classes.{is-class, not-class}
use Rattle.leaf_digits.proofs.Lists.{tail_of}
use Rattle.leaf_decimals.proofs.Reading.{ending-none, ending-nil, ending-letter, ending-other}
use Rattle.leaf_decimals.proofs.read_ending.Goals as goal

pub returns-then-count-eq0 : goal.returns-then-count-eq0
returns-then-count-eq0 c = ap outcome (sym (ending-none _ _ _ _ _ c.if-count-eq0.true))

pub returns-in_default : goal.returns-in_default
returns-in_default c = c.valued.ensures ∙ ap outcome (sym (ending-nil _ _ _ _ c.if-count-eq0.false _ (omega arith)))

pub returns-in-Exponent : goal.returns-in-Exponent
returns-in-Exponent c =
    let a = c.args in
    let s : List ℕ = a.s.now in
    let h : 0 < length s = omega arith in
    c.read_exponent.ensures
    ∙ ap (λ (l : List ℕ). outcome (exponent a.minus a.w a.frac l)) (tail_of s 1)
    ∙ ap outcome (sym (ending-letter a.minus a.w a.count a.frac c.if-count-eq0.false s h (is-class Exponent _ c.class_of.ensures c.in-Exponent.is)))

pub returns-in_default-class_of : goal.returns-in_default-class_of
returns-in_default-class_of c =
    let a = c.args in
    let s : List ℕ = a.s.now in
    let h : 0 < length s = omega arith in
    ap outcome (sym (ending-other a.minus a.w a.count a.frac c.if-count-eq0.false s h
    (not-class Exponent _ c.class_of.ensures c.in_default-class_of.not-Exponent)))
