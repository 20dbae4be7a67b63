-- `leaf_digits::is_digit` meets its contract. Assumes nothing.
use mathlib.Core.Path.{sym}
use native.Mathlib.Omega.{arith}
use Rattle.leaf_digits.specs.declared.Class.TheVariants.{Digit}
use Rattle.leaf_digits.proofs.Classes.{is-class, not-class, no_digit}
use Rattle.leaf_digits.proofs.is_digit.Goals as goal

pub returns-then-b-lt48 : goal.returns-then-b-lt48
returns-then-b-lt48 c = sym (no_digit _ (λ r. omega (arith, r, c.if-b-lt48.true)))

pub returns-then-b-gt57 : goal.returns-then-b-gt57
returns-then-b-gt57 c = sym (no_digit _ (λ r. omega (arith, r, c.if-b-gt57.true)))

pub returns-in-Digit : goal.returns-in-Digit
returns-in-Digit c = sym (is-class Digit _ c.class_of.ensures c.in-Digit.is)

pub returns-in_default : goal.returns-in_default
returns-in_default c = sym (not-class Digit _ c.class_of.ensures c.in_default.not-Digit)
