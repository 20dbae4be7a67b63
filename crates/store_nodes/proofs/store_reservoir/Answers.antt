-- `store_nodes::store_reservoir` meets its contract. Assumes nothing.
use lib.Ieee as Ieee
use Rattle.store_nodes.proofs.StoreLaws.{reservoir-kind}
use Rattle.store_nodes.proofs.store_reservoir.Goals as goal

pub returns : goal.returns
unfolding Ieee.of_bits
returns c =
    λ fit may m h. c.store_node.ensures fit _ (reservoir-kind c.args.text.now c.args.r may) m h
