-- `store_nodes::put_junction` meets its contract. Assumes nothing.
use Rattle.std.specs.Prelude.{None}
use mathlib.Core.Path.{ap, ◌∙◌}
use mathlib.Core.List.{List, [], ◌∷◌}
use Prim.Native.Nat.{ℕ, ◌+◌, ◌*◌}
use lib.Ieee.{Float}
use lib.Ieee as Ieee
use Rattle.leaf_fields.specs.Fields.{name_in}
use Rattle.scope.specs.Nodes.{junction_demand}
use Rattle.scope.specs.Tables.{marked, slot_of, key_of}
use Rattle.table_rows.specs.Table.{splice}
use Rattle.scope.specs.Layout.{nodes_at, nodes_width, node_slots_at, demand_numbers_at}
use Rattle.table_rows.specs.Adding.{demand_added}
use Rattle.parse_nodes.specs.Lines.{junction_in}
use Rattle.store_nodes.specs.Storing.{new_words}
use Rattle.store_nodes.proofs.put_junction.Goals as goal

pub returns : goal.returns
unfolding Ieee.of_bits
returns c =
    let a = c.args in
    let own = junction_demand a.n (junction_in a.text.now a.j) in (
      c.put_demand.ensures
          ∙ ap (λ (l : List ℕ). demand_added l a.d own)
          (c.put_node.ensures (name_in a.text.now a.j.id) c.requires.4
          ∙ ap (λ (z : ℕ). marked (splice a.words.now (nodes_at + a.n * nodes_width) (new_words (name_in a.text.now a.j.id) 1 None z))
          (node_slots_at + slot_of (key_of (name_in a.text.now a.j.id).letters)) (a.n + 1)) c.flag_of-disabled.ensures),
      c.paste-2.ensures ∙ ap (λ (l : List Float). splice l (demand_numbers_at + a.d) (a.j.demand ∷ [])) c.paste.ensures,
    )
