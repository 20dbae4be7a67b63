-- `rule_groups::see` meets its contract. Assumes nothing.
use Rattle.scope.specs.declared.Reason.{Reason}
use Rattle.std.specs.Prelude.{Result}
use mathlib.Core.Path.{subst}
use Rattle.rule_lines.specs.declared.Saying.{Saying}
use Rattle.rule_lines.specs.Lines.{with_said, said_in, LineFits}
use Rattle.rule_groups.proofs.see.Goals as goal

pub returns : goal.returns
returns c = λ text d sketched fits. (
  with_said (said_in text c.in_ok-said.said) d,
  rw c.in_ok-said.was,
  c.with_line.ensures text d sketched (subst (λ (x : Result Saying Reason). LineFits text x) c.in_ok-said.was fits),
)
