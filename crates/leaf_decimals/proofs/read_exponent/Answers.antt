-- `leaf_decimals::read_exponent` meets its contract. Assumes nothing.
use mathlib.Core.Path.{sym, ap, ◌∙◌}
use mathlib.Core.List.{List}
use Prim.Native.Nat.{ℕ, ◌<◌}
use native.Mathlib.Omega.{arith}
use lib.ListN.{length, get_or}
use lib.Dec.{eqb}
use Rattle.leaf_digits.specs.declared.Class.TheVariants.{Sign}
use Rattle.leaf_decimals.specs.Numbers.{power, outcome}
use Rattle.leaf_digits.proofs.Classes.{is-class, not-class}
use Rattle.leaf_digits.proofs.Lists.{tail_of}
use Rattle.leaf_decimals.proofs.Reading.{exponent-nil, exponent-sign, exponent-none}
use Rattle.leaf_decimals.proofs.read_exponent.Goals.{in-Sign, in_default-class_of}
use Rattle.leaf_decimals.proofs.read_exponent.Goals as goal

pub returns-in_default : goal.returns-in_default
returns-in_default c = sym (exponent-nil _ _ _ _ (omega arith))

pub returns : goal.returns
returns c =
    let a = c.args in
    let s : List ℕ = a.s.now in
    let h : 0 < length s = omega arith in
    c.read_power.ensures ∙ elim c.match-class_of.branch [
      | in-Sign w ↦
          ap (λ p. outcome (power a.minus a.w a.frac p.0 p.1.now)) w.back-is
          ∙ ap (λ (l : List ℕ). outcome (power a.minus a.w a.frac (eqb (get_or s 0 0) 45) l)) (tail_of s 1)
          ∙ ap outcome (sym (exponent-sign a.minus a.w a.frac s h (is-class Sign _ c.class_of.ensures w.in-Sign.is)))
      | in_default-class_of w ↦
          ap (λ p. outcome (power a.minus a.w a.frac p.0 p.1.now)) w.back-is
          ∙ ap outcome (sym (exponent-none a.minus a.w a.frac s h (not-class Sign _ c.class_of.ensures w.in_default-class_of.not-Sign)))
    ]
