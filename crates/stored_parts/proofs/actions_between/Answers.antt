-- `stored_parts::actions_between` meets its contract. Assumes nothing.
use Rattle.stored_parts.proofs.PartsLaws.{the_others}
use Rattle.stored_parts.proofs.actions_between.Goals as goal

pub returns : goal.returns
returns c =
    λ m g le. rw c.saturating_sub.ensures (the_others c.args.first c.args.end m.clauses c.conditions_between.result le (c.conditions_between.ensures.value m g le))
