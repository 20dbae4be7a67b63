-- `store_nodes::put_node` meets its contract. Assumes nothing.
use mathlib.Core.Path.{ap, ◌∙◌}
use mathlib.Core.List.{List}
use Prim.Native.Nat.{ℕ, ◌+◌, ◌*◌}
use lib.ListN.{get_or}
use Rattle.leaf_fields.specs.Fields.{opt_in}
use Rattle.scope.specs.Tables.{slot_of}
use Rattle.table_rows.specs.Table.{splice}
use Rattle.scope.specs.Layout.{nodes_at, nodes_width, node_slots_at}
use Rattle.table_rows.proofs.SlotLaws.{mark-alike}
use Rattle.store_nodes.proofs.StoreLaws.{new-words}
use Rattle.store_nodes.proofs.put_node.Goals as goal

pub returns : goal.returns
returns c = λ id e.
    let a = c.args in
    let which = c.name_words-which in
    mark-alike (a.i + 1) c.mark.ensures
    (c.paste.ensures
    ∙ ap (λ (l : List ℕ). splice a.words.now (nodes_at + a.i * nodes_width) l) (new-words a.who which.result id a.kind (opt_in a.text.now a.name) a.last e which.ensures))
    (ap (λ (k : ℕ). node_slots_at + k) (c.slot_of-slot.ensures ∙ ap (λ (l : List ℕ). slot_of (get_or l 2 0)) e))
