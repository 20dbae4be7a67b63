-- `parse_valves::read_type` meets its contract. Assumes nothing.
use mathlib.Core.Path.{refl, ◌∙◌}
use Rattle.scope.specs.Links.{type_of}
use Rattle.parse_valves.proofs.TypeLaws.{by_words, word-here, word-later, words-over}
use Rattle.parse_valves.proofs.read_type.Goals as goal

pub loop-name-init : goal.loop-name-init
unfolding type_of by_words
loop-name-init c = refl

pub returns-then-spells : goal.returns-then-spells
returns-then-spells c = c.loop-name.invariant ∙ word-here _ _ _ _ c.loop-name-test.true c.spells.ensures c.if-spells.true

pub loop-name-preserved : goal.loop-name-preserved
loop-name-preserved c = c.loop-name.invariant ∙ word-later _ _ _ _ c.loop-name-test.true c.spells.ensures c.if-spells.false

pub returns : goal.returns
returns c = c.loop-name.invariant ∙ words-over _ _ _ c.loop-name-test.false
