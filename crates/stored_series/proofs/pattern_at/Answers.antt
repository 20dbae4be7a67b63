-- `stored_series::pattern_at` meets its contract. Assumes nothing.
use native.Mathlib.Omega.{arith}
use mathlib.Core.Path.{ap}
use Rattle.scope.specs.Layout.{patterns_at, patterns_width}
use Rattle.scope.specs.Records.{no_name}
use Rattle.stored_records.proofs.PastLaws.{past_row}
use Rattle.stored_series.specs.Back.{pattern_back}
use Rattle.stored_series.proofs.BackLaws.{pattern-is}
use Rattle.stored_series.proofs.pattern_at.Goals as goal

pub returns-in-Some : goal.returns-in-Some
returns-in-Some c = λ m f g. rw c.span_at.ensures (pattern-is g c.args.i _ c.in-Some.ensures.1 c.in-Some.ensures.0)

pub returns-in-None : goal.returns-in-None
returns-in-None c = λ m f g. ap pattern_back (past_row g m.patterns no_name c.args.i g.words.known.patterns.bound patterns_at patterns_width (omega arith) c.in-None.ensures)
