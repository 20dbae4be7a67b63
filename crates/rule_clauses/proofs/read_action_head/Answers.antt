-- `rule_clauses::read_action_head` meets its contract. Assumes nothing.
use Rattle.rule_clauses.proofs.read_action_head.Goals as goal

pub returns-clause-head_fits : goal.returns-clause-head_fits
returns-clause-head_fits c =
    ((c.next_field.ensures.taken _ c.in_ok-kind.ensures.ok_part).1, (c.next_field-2.ensures.taken _ c.in_ok-id.ensures.ok_part).1)
