-- `stored_series::point_at` meets its contract. Assumes nothing.
use native.Mathlib.Omega.{arith}
use mathlib.Core.Path.{ap}
use Rattle.scope.specs.Layout.{points_at, point_numbers_at, point_numbers_width}
use Rattle.scope.specs.Records.{no_point}
use Rattle.table_rows.proofs.ClearLaws.{zero_number}
use Rattle.stored_records.proofs.PastLaws.{past_rows}
use Rattle.stored_series.specs.Back.{point_back}
use Rattle.stored_series.proofs.BackLaws.{point-is}
use Rattle.stored_series.proofs.point_at.Goals as goal

pub returns-in-Some : goal.returns-in-Some
returns-in-Some c = λ m g. point-is g c.args.i _ _ c.in-Some.ensures.1 c.in-Some.ensures.2 c.in-Some.ensures.0

pub returns-in-None : goal.returns-in-None
returns-in-None c = λ m g. rw zero_number
    (ap point_back (past_rows g m.points no_point c.args.i g.words.known.points.bound points_at 1 point_numbers_at point_numbers_width (omega arith) (omega arith) c.in-None.ensures))
