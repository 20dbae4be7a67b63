-- `rule_lines::named_line` meets its contract. Assumes nothing.
use Rattle.rule_lines.proofs.named_line.Goals as goal

pub returns-clause-line_fits : goal.returns-clause-line_fits
returns-clause-line_fits c = (c.next_field.ensures.taken _ c.in_ok-id.ensures.ok_part).1
