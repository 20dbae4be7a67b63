-- `leaf_clock::without_s` meets its contract. Assumes nothing.
use Rattle.std.proofs.Common.{ℕ, List, sym, refl, ap, ◌∙◌, eqb-true}
use Rattle.leaf_letters.specs.Words.{spelled}
use Rattle.leaf_clock.specs.Times.{word_s, without_s}
use Rattle.leaf_clock.proofs.Choice.{chosen, passed}
use Rattle.leaf_clock.proofs.Units.{no-letters}
use Rattle.leaf_clock.proofs.without_s.Goals as goal
use Rattle.leaf_clock.proofs.without_s.Goals.{then-is_empty-via-then-is_empty, then-is_empty-via-else-is_empty+then-spells}

pub returns-then-is_empty : goal.returns-then-is_empty
unfolding without_s
returns-then-is_empty c =
    elim c.then-is_empty.branch [
      | then-is_empty-via-then-is_empty w ↦ no-letters c.args.unit.now (eqb-true _ 0 (sym c.is_empty.ensures ∙ w.if-is_empty.true))
      | then-is_empty-via-else-is_empty+then-spells w ↦ chosen _ _ _ _ (sym w.spells.ensures ∙ w.if-spells.true) refl
    ]

pub returns-then-spells-2 : goal.returns-then-spells-2
unfolding without_s
returns-then-spells-2 c =
    passed _ _ _ _ (sym c.spells.ensures ∙ c.if-spells.false)
    (chosen _ _ _ _ (sym (c.spells-2.ensures ∙ ap (λ (l : List ℕ). spelled l word_s) c.split_at.ensures.back) ∙ c.if-spells-2.true) c.split_at.ensures.front)

pub returns-else-spells-2 : goal.returns-else-spells-2
unfolding without_s
returns-else-spells-2 c =
    passed _ _ _ _ (sym c.spells.ensures ∙ c.if-spells.false)
    (passed _ _ _ _ (sym (c.spells-2.ensures ∙ ap (λ (l : List ℕ). spelled l word_s) c.split_at.ensures.back) ∙ c.if-spells-2.false) refl)
