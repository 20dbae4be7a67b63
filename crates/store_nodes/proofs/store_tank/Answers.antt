-- `store_nodes::store_tank` meets its contract. Assumes nothing.
use lib.Ieee as Ieee
use Rattle.store_nodes.proofs.StoreLaws.{tank-kind}
use Rattle.store_nodes.proofs.store_tank.Goals as goal

pub returns : goal.returns
unfolding Ieee.of_bits
returns c =
    λ fit m h. c.store_node.ensures fit _ (tank-kind c.args.text.now c.args.t.tank c.flag_of-overflow.result c.flag_of-overflow.ensures) m h
