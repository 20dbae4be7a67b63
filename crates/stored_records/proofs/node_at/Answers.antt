-- `stored_records::node_at` meets its contract. Assumes nothing.
use native.Mathlib.Omega.{arith}
use mathlib.Core.Path.{ap}
use Rattle.scope.specs.Layout.{nodes_at, nodes_width, node_numbers_at, node_numbers_width}
use Rattle.scope.specs.Records.{no_node}
use Rattle.table_rows.proofs.ClearLaws.{zero_number}
use Rattle.stored_records.specs.Back.{node_back}
use Rattle.stored_records.proofs.BackLaws.{node-is}
use Rattle.stored_records.proofs.PastLaws.{past_rows}
use Rattle.stored_records.proofs.node_at.Goals as goal

pub returns-in-Some : goal.returns-in-Some
returns-in-Some c = λ m g. rw (c.span_at.ensures, c.node_kind_from.ensures, c.then_some.ensures) (node-is g c.args.i _ _ c.in-Some.ensures.1 c.in-Some.ensures.2 c.in-Some.ensures.0)

pub returns-in-None : goal.returns-in-None
returns-in-None c = λ m g. rw zero_number
    (ap node_back (past_rows g m.nodes no_node c.args.i g.words.known.nodes.bound nodes_at nodes_width node_numbers_at node_numbers_width (omega arith) (omega arith) c.in-None.ensures))
