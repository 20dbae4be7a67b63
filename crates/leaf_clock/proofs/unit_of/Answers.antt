-- `leaf_clock::unit_of` meets its contract. Assumes nothing.
use Rattle.std.proofs.Common.{sym, ap, ◌∙◌, eqb-true}
use Rattle.std.proofs.lemmas.Bool.{eqb-false}
use Rattle.leaf_clock.specs.Times.{unit_words, named}
use Rattle.leaf_clock.proofs.Units.{unit-absent, unit-named}
use Rattle.leaf_clock.proofs.unit_of.Goals as goal

pub returns-then-is_empty : goal.returns-then-is_empty
returns-then-is_empty c = unit-absent c.args.unit.now (eqb-true _ 0 (sym c.is_empty.ensures ∙ c.if-is_empty.true))

pub returns : goal.returns
returns c = c.named.ensures ∙ ap (named unit_words) c.without_s.ensures ∙ unit-named c.args.unit.now (eqb-false _ 0 (sym c.is_empty.ensures ∙ c.if-is_empty.false))
