-- `stored_series::curve_at` meets its contract. Assumes nothing.
use native.Mathlib.Omega.{arith}
use mathlib.Core.Path.{ap}
use Rattle.scope.specs.Layout.{curves_at, curves_width}
use Rattle.scope.specs.Records.{no_name}
use Rattle.stored_records.proofs.PastLaws.{past_row}
use Rattle.stored_series.specs.Back.{curve_back}
use Rattle.stored_series.proofs.BackLaws.{curve-is}
use Rattle.stored_series.proofs.curve_at.Goals as goal

pub returns-in-Some : goal.returns-in-Some
returns-in-Some c = λ m f g. rw c.span_at.ensures (curve-is g c.args.i _ c.in-Some.ensures.1 c.in-Some.ensures.0)

pub returns-in-None : goal.returns-in-None
returns-in-None c = λ m f g. ap curve_back (past_row g m.curves no_name c.args.i g.words.known.curves.bound curves_at curves_width (omega arith) c.in-None.ensures)
