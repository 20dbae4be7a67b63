-- `leaf_counts::read_count` meets its contract. Assumes nothing.
use mathlib.Core.Path.{sym, ap, ◌∙◌}
use native.Mathlib.Omega.{arith}
use Rattle.leaf_digits.specs.declared.Class.TheVariants.{Sign}
use Rattle.leaf_digits.proofs.Classes.{is-class, not-class}
use Rattle.leaf_digits.proofs.Lists.{tail_of}
use Rattle.leaf_counts.specs.Counts.{whole}
use Rattle.leaf_counts.proofs.Counts.{count-nil, count-plus, count-unsigned, count-sign}
use Rattle.leaf_counts.proofs.read_count.Goals as goal

pub returns-in_default : goal.returns-in_default
returns-in_default c = sym (count-nil _ (omega arith))

pub returns-in_default-class_of : goal.returns-in_default-class_of
returns-in_default-class_of c = c.read_whole.ensures ∙ sym (count-unsigned _ (omega arith) (not-class Sign _ c.class_of.ensures c.in_default-class_of.not-Sign))

pub returns-then-b-eq43 : goal.returns-then-b-eq43
returns-then-b-eq43 c = c.read_whole-then-b-eq43.ensures ∙ ap whole (tail_of c.args.s.now 1) ∙ sym (count-plus _ (omega arith) c.if-b-eq43.true)

pub returns-else-b-eq43 : goal.returns-else-b-eq43
returns-else-b-eq43 c = sym (count-sign _ (omega arith) (is-class Sign _ c.class_of.ensures c.in-Sign.is) c.if-b-eq43.false)
