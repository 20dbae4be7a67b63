-- `leaf_decimals::read_number` meets its contract. Assumes nothing.
use Rattle.std.specs.Prelude.{Err}
use Rattle.leaf_decimals.proofs.Value.{both-clauses}
use mathlib.Core.Path.{sym, ap, ◌∙◌}
use mathlib.Core.List.{List}
use Prim.Native.Nat.{ℕ, ◌<◌}
use native.Mathlib.Omega.{arith}
use lib.ListN.{length, get_or}
use lib.Dec.{eqb}
use Rattle.leaf_digits.specs.declared.Class.TheVariants.{Sign}
use Rattle.leaf_decimals.specs.declared.NumberError.TheVariants.{Malformed}
use Rattle.leaf_decimals.specs.Numbers.{unsigned, outcome}
use Rattle.leaf_digits.proofs.Classes.{is-class, not-class}
use Rattle.leaf_digits.proofs.Lists.{tail_of}
use Rattle.leaf_decimals.proofs.Reading.{number-nil, number-sign, number-none}
use Rattle.leaf_decimals.proofs.read_number.Goals.{in-Sign, in_default-class_of}
use Rattle.leaf_decimals.proofs.read_number.Goals as goal

pub returns-in_default : goal.returns-in_default
returns-in_default c =
    let p = both-clauses c.args.s.now (Err Malformed) (sym (number-nil _ (omega arith))) in
    record { value = p.0; nearest = p.1 }

pub returns : goal.returns
returns c =
    let s : List ℕ = c.args.s.now in
    let h : 0 < length s = omega arith in
    let p = both-clauses s c.read_unsigned.result
    (c.read_unsigned.ensures ∙ elim c.match-class_of.branch [
      | in-Sign w ↦
          ap (λ p. outcome (unsigned p.0 p.1.now)) w.minus-is
          ∙ ap (λ (l : List ℕ). outcome (unsigned (eqb (get_or s 0 0) 45) l)) (tail_of s 1)
          ∙ sym (number-sign s h (is-class Sign _ c.class_of.ensures w.in-Sign.is))
      | in_default-class_of w ↦
          ap (λ p. outcome (unsigned p.0 p.1.now)) w.minus-is
          ∙ sym (number-none s h (not-class Sign _ c.class_of.ensures w.in_default-class_of.not-Sign))
    ]) in
    record { value = p.0; nearest = p.1 }
