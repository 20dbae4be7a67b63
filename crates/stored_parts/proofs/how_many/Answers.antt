-- `stored_parts::how_many` meets its contract. Assumes nothing.
use mathlib.Core.Path.{sym, ap, ◌∙◌}
use lib.ListN.{length-map}
use Rattle.scope.specs.declared.Counts.{Counts}
use Rattle.scope.specs.Records.{Demand, Point, Multiplier}
use Rattle.stored_parts.proofs.how_many.Goals as goal

pub returns-in-Demand : goal.returns-in-Demand
returns-in-Demand c = λ m rest e. rw c.in-Demand.is (ap (λ (n : Counts). n.demands) (c.counts-counts.ensures m rest e) ∙ sym (length-map m.demands (λ (x : Demand). x.node)))

pub returns-in-Point : goal.returns-in-Point
returns-in-Point c = λ m rest e. rw c.in-Point.is (ap (λ (n : Counts). n.points) (c.counts-counts.ensures m rest e) ∙ sym (length-map m.points (λ (x : Point). x.curve)))

pub returns-in-Multiplier : goal.returns-in-Multiplier
returns-in-Multiplier c = λ m rest e. rw c.in-Multiplier.is
    (ap (λ (n : Counts). n.multipliers) (c.counts-counts.ensures m rest e) ∙ sym (length-map m.multipliers (λ (x : Multiplier). x.pattern)))
