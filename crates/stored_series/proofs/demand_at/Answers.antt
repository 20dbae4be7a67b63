-- `stored_series::demand_at` meets its contract. Assumes nothing.
use native.Mathlib.Omega.{arith}
use mathlib.Core.Path.{ap}
use Rattle.scope.specs.Layout.{demands_at, demands_width, demand_numbers_at}
use Rattle.scope.specs.Records.{no_demand}
use Rattle.table_rows.proofs.ClearLaws.{zero_number}
use Rattle.stored_records.proofs.PastLaws.{past_rows}
use Rattle.stored_series.specs.Back.{demand_back}
use Rattle.stored_series.proofs.BackLaws.{demand-is}
use Rattle.stored_series.proofs.demand_at.Goals as goal

pub returns-in-Some : goal.returns-in-Some
returns-in-Some c = λ m g. rw (c.field_at.ensures, c.found_from.ensures) (demand-is g c.args.i _ _ c.in-Some.ensures.1 c.in-Some.ensures.2 c.in-Some.ensures.0)

pub returns-in-None : goal.returns-in-None
returns-in-None c = λ m g. rw zero_number
    (ap demand_back (past_rows g m.demands no_demand c.args.i g.words.known.demands.bound demands_at demands_width demand_numbers_at 1 (omega arith) (omega arith) c.in-None.ensures))
