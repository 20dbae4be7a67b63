-- `store_times::option_of_two` meets its contract. Assumes nothing.
use mathlib.Core.Path.{refl, sym, ◌∙◌}
use Rattle.scope.specs.Times.{option_of_two}
use Rattle.store_times.proofs.OptionLaws.{by_words, words-here, words-later, words-over}
use Rattle.store_times.proofs.option_of_two.Goals as goal

pub loop-first-init : goal.loop-first-init
unfolding option_of_two by_words
loop-first-init c = refl

pub returns-then-spell_two : goal.returns-then-spell_two
returns-then-spell_two c = sym (c.loop-first.invariant ∙ words-here _ _ _ _ _ c.loop-first-test.true c.spell_two.ensures c.if-spell_two.true)

pub loop-first-preserved : goal.loop-first-preserved
loop-first-preserved c = c.loop-first.invariant ∙ words-later _ _ _ _ _ c.loop-first-test.true c.spell_two.ensures c.if-spell_two.false

pub returns : goal.returns
returns c = sym (c.loop-first.invariant ∙ words-over _ _ _ _ c.loop-first-test.false)
