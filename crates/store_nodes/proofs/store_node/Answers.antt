-- `store_nodes::store_node` meets its contract. Assumes nothing.
use native.Mathlib.Omega.{arith}
use Rattle.leaf_fields.specs.Fields.{name_in}
use Rattle.parse_fields.proofs.TakeLaws.{handed-on}
use Rattle.table_rows.proofs.HoldLaws.{count-nodes}
use Rattle.table_rows.proofs.AfterLaws.{sound-words, sound-numbers}
use Rattle.store_nodes.proofs.StoreLaws.{node-refused, node-stored}
use Rattle.store_nodes.proofs.store_node.Goals as goal

pub new_id-requires : goal.new_id-requires
new_id-requires c = (c.requires.0.m, c.requires.0.holds.words, count-nodes c.requires.0.holds)

pub returns-in_err-who : goal.returns-in_err-who
returns-in_err-who c =
    λ fit k a m h. rw (handed-on c.from_residual.ensures) (node-refused _ _ _ _ (name_in c.args.text.now c.args.id) k (c.in_err-who.ensures m h.words (count-nodes h)))

pub put_node-requires : goal.put_node-requires
put_node-requires c =
    let held = c.requires.0.holds in
    let (is, free, n) = c.in_ok-who.ensures c.requires.0.m held.words (count-nodes held) in
    (omega (arith, n, count-nodes held), sound-words c.requires.0)

pub paste-requires : goal.paste-requires
paste-requires c =
    let held = c.requires.0.holds in
    let (is, free, n) = c.in_ok-who.ensures c.requires.0.m held.words (count-nodes held) in
    omega (arith, n, count-nodes held, c.requires.1, sound-numbers c.requires.0)

pub returns : goal.returns
returns c =
    λ fit k a m h. let (is, free, n) = c.in_ok-who.ensures m h.words (count-nodes h) in
    node-stored h c.args.id k c.args.kind c.args.name c.args.last c.args.amounts.now fit a (free, n)
    (c.put_node.ensures (name_in c.args.text.now c.args.id) is) c.paste.ensures
