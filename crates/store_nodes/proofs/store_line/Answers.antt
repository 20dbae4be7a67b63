-- `store_nodes::store_line` meets its contract. Assumes nothing.
use Rattle.store_nodes.proofs.store_line.Goals as goal

pub returns-in-Reservoir : goal.returns-in-Reservoir
returns-in-Reservoir c =
    λ fit m h. let (id, may) = rw c.in-Reservoir.is at fit in rw c.in-Reservoir.is (c.store_reservoir.ensures id may m h)

pub returns-in-Tank : goal.returns-in-Tank
returns-in-Tank c =
    λ fit m h. let (id, may) = rw c.in-Tank.is at fit in rw c.in-Tank.is (c.store_tank.ensures id m h)
