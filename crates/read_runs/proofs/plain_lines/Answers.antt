-- `read_runs::plain_lines` meets its contract. Assumes nothing.
use mathlib.Core.Path.{refl, ap}
use Rattle.scope.specs.Sections.{is_rules}
use Rattle.read_headers.specs.Sections.{passes_over}
use Rattle.read_runs.specs.Onward.{none}
use Rattle.read_runs.proofs.OnwardLaws.{left-unstored}
use Rattle.read_runs.proofs.plain_lines.Goals as goal

pub join_lines-requires : goal.join_lines-requires
join_lines-requires c = let q = c.requires in (q.stands.line, q.short, ap is_rules c.in-Rules.is)

pub returns-in-Rules : goal.returns-in-Rules
returns-in-Rules c = c.join_lines.ensures _ _ c.requires

pub returns-in-Passed : goal.returns-in-Passed
returns-in-Passed c = (none refl refl refl, left-unstored (λ _ _. ap passes_over c.in-Passed.is))
