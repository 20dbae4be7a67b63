-- `stored_parts::owner_at` meets its contract. Assumes nothing.
use mathlib.Core.Path.{sym, ap, ◌∙◌}
use lib.ListN.{get_or-map}
use Rattle.scope.specs.Records.{Demand, Point, Multiplier, no_demand, no_point, no_multiplier}
use Rattle.stored_series.specs.declared.Demand as demand
use Rattle.stored_series.specs.declared.Point as point
use Rattle.stored_series.specs.declared.Multiplier as multiplier
use Rattle.stored_parts.proofs.owner_at.Goals as goal

pub returns-in-Demand : goal.returns-in-Demand
returns-in-Demand c = λ m g. rw c.in-Demand.is
    (ap (λ (x : demand.Demand). x.node) (c.demand_at.ensures m g) ∙ sym (get_or-map (λ (x : Demand). x.node) m.demands c.args.k no_demand))

pub returns-in-Point : goal.returns-in-Point
returns-in-Point c = λ m g. rw c.in-Point.is
    (ap (λ (x : point.Point). x.curve) (c.point_at.ensures m g) ∙ sym (get_or-map (λ (x : Point). x.curve) m.points c.args.k no_point))

pub returns-in-Multiplier : goal.returns-in-Multiplier
returns-in-Multiplier c = λ m g. rw c.in-Multiplier.is
    (ap (λ (x : multiplier.Multiplier). x.pattern) (c.multiplier_at.ensures m g) ∙ sym (get_or-map (λ (x : Multiplier). x.pattern) m.multipliers c.args.k no_multiplier))
