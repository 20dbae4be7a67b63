-- `stored_records::rule_at` meets its contract. Assumes nothing.
use native.Mathlib.Omega.{arith}
use mathlib.Core.Path.{ap}
use Rattle.scope.specs.Layout.{rules_at, rules_width}
use Rattle.scope.specs.Records.{no_rule}
use Rattle.stored_records.specs.Back.{rule_back}
use Rattle.stored_records.proofs.BackLaws.{rule-is}
use Rattle.stored_records.proofs.PastLaws.{past_row}
use Rattle.stored_records.proofs.rule_at.Goals as goal

pub returns-in-Some : goal.returns-in-Some
returns-in-Some c = λ m f g. rw (c.span_at.ensures, c.amount_from.ensures) (rule-is g c.args.i _ c.in-Some.ensures.1 c.in-Some.ensures.0)

pub returns-in-None : goal.returns-in-None
returns-in-None c = λ m f g. ap rule_back (past_row g m.rules no_rule c.args.i g.words.known.rules.bound rules_at rules_width (omega arith) c.in-None.ensures)
