-- `store_demands::demand_line` meets its contract. Assumes nothing.
use Rattle.std.specs.Prelude.{Ok}
use mathlib.Core.Path.{refl, sym}
use lib.Seq.{length-take-le}
use Rattle.scope.specs.Series.{demand_step}
use Rattle.parse_fields.proofs.TakeLaws.{handed-on}
use Rattle.store_demands.proofs.LineLaws.{demand-text}
use Rattle.store_demands.proofs.demand_line.Goals as goal

pub slice_bounds-read_demand-end : goal.slice_bounds-read_demand-end
slice_bounds-read_demand-end c = sym (length-take-le c.args.end c.args.text.now c.requires.1)

pub returns-in_err-d : goal.returns-in_err-d
unfolding demand_step
returns-in_err-d c = λ m h. rw (handed-on c.from_residual.ensures, c.in_err-d.ensures) (refl, refl, refl)

pub store_demand-requires : goal.store_demand-requires
store_demand-requires c =
    let (fit, may) = (demand-text c.args.text.now c.args.end _ (Ok c.in_ok-d.d) c.in_ok-d.ensures).1 in (c.requires.0, fit, may)

pub returns : goal.returns
unfolding demand_step
returns c =
    λ m h. rw (demand-text c.args.text.now c.args.end _ (Ok c.in_ok-d.d) c.in_ok-d.ensures).0 (c.store_demand.ensures m h)
