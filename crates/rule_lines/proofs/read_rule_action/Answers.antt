-- `rule_lines::read_rule_action` meets its contract. Assumes nothing.
use mathlib.Core.Path.{sym, ap, ◌∙◌}
use Rattle.leaf_fields.specs.Fields.{fields_at}
use Rattle.rule_clauses.proofs.ClauseLaws.{handed-on, action-parts}
use Rattle.rule_lines.specs.Lines.{action_read}
use Rattle.rule_lines.proofs.read_rule_action.Goals as goal

pub returns-in_err-head-clause-result_value : goal.returns-in_err-head-clause-result_value
returns-in_err-head-clause-result_value c =
    λ m w e. ap (action_read c.args.l.now) (handed-on c.from_residual.ensures)
    ∙ sym (action-parts c.args.otherwise m (fields_at c.args.l.now c.args.at) ∙ rw (sym c.in_err-head.ensures.result_value))

pub returns-clause-result_value : goal.returns-clause-result_value
returns-clause-result_value c =
    λ m w e. c.action_at.ensures.result_value m w e
    ∙ sym (action-parts c.args.otherwise m (fields_at c.args.l.now c.args.at) ∙ rw (sym c.in_ok-head.ensures.result_value))
