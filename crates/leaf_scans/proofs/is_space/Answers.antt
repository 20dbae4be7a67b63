-- `leaf_scans::is_space` meets its contract. Assumes nothing.
use mathlib.Core.Path.{sym}
use Rattle.leaf_digits.specs.declared.Class.TheVariants.{Space}
use Rattle.leaf_digits.proofs.Classes.{is-class, not-class, above-space}
use Rattle.leaf_scans.proofs.is_space.Goals as goal

pub returns-then-b-gt32 : goal.returns-then-b-gt32
returns-then-b-gt32 c = sym (above-space c.args.b c.if-b-gt32.true)

pub returns-in-Space : goal.returns-in-Space
returns-in-Space c = sym (is-class Space c.args.b c.class_of-k.ensures c.in-Space.is)

pub returns-in_default : goal.returns-in_default
returns-in_default c = sym (not-class Space c.args.b c.class_of-k.ensures c.in_default.not-Space)
