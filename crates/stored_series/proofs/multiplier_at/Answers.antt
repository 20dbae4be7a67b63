-- `stored_series::multiplier_at` meets its contract. Assumes nothing.
use native.Mathlib.Omega.{arith}
use mathlib.Core.Path.{ap}
use Rattle.scope.specs.Layout.{multipliers_at, multiplier_numbers_at}
use Rattle.scope.specs.Records.{no_multiplier}
use Rattle.table_rows.proofs.ClearLaws.{zero_number}
use Rattle.stored_records.proofs.PastLaws.{past_rows}
use Rattle.stored_series.specs.Back.{multiplier_back}
use Rattle.stored_series.proofs.BackLaws.{multiplier-is}
use Rattle.stored_series.proofs.multiplier_at.Goals as goal

pub returns-in-Some : goal.returns-in-Some
returns-in-Some c = λ m g. multiplier-is g c.args.i _ _ c.in-Some.ensures.1 c.in-Some.ensures.2 c.in-Some.ensures.0

pub returns-in-None : goal.returns-in-None
returns-in-None c = λ m g. rw zero_number
    (ap multiplier_back (past_rows g m.multipliers no_multiplier c.args.i g.words.known.multipliers.bound multipliers_at 1 multiplier_numbers_at 1 (omega arith) (omega arith) c.in-None.ensures))
