-- `leaf_digits::ends_at` meets its contract. Assumes nothing.
use mathlib.Core.Path.{sym, ◌∙◌}
use Rattle.leaf_digits.specs.declared.Class.TheVariants.{Space}
use Rattle.leaf_digits.proofs.Classes.{is-class, not-class, above-space}
use Rattle.leaf_digits.proofs.Ends.{ended_at, ended-off}
use Rattle.leaf_digits.proofs.ends_at.Goals as goal

pub returns-then-b-gt32 : goal.returns-then-b-gt32
returns-then-b-gt32 c =
    let a = c.args in
    sym (above-space _ c.if-b-gt32.true) ∙ ended_at a.s.now a.i c.if-i-s.true

pub returns-in-Space : goal.returns-in-Space
returns-in-Space c =
    let a = c.args in
    sym (is-class Space _ c.class_of.ensures c.in-Space.is) ∙ ended_at a.s.now a.i c.if-i-s.true

pub returns-in_default : goal.returns-in_default
returns-in_default c =
    let a = c.args in
    sym (not-class Space _ c.class_of.ensures c.in_default.not-Space) ∙ ended_at a.s.now a.i c.if-i-s.true

pub returns : goal.returns
returns c = let a = c.args in ended-off a.s.now a.i c.if-i-s.false
