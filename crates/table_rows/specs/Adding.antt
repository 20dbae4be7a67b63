-- The words after a node, a link, a curve, a pattern or a demand more: its record is pasted, and its slot is marked. Assumes nothing.
use Rattle.std.specs.Prelude.{ℕ, ◌+◌, ◌*◌, List}
use Rattle.leaf_fields.specs.Fields.{Name}
use Rattle.scope.specs.Records.{Node, Link, Demand}
use Rattle.scope.specs.Tables.{marked, id_words, node_words, link_words, demand_words, id_slot, node_slot, link_slot, demand_slot}
use Rattle.table_rows.specs.Table.{splice}
use Rattle.scope.specs.Layout.{nodes_at, links_at, curves_at, patterns_at, demands_at, nodes_width, links_width, demands_width, node_slots_at, link_slots_at, curve_slots_at}
use Rattle.scope.specs.Layout.{pattern_slots_at, demand_slots_at, curves_width, patterns_width}

-- node number n
abbrev pub node_added : List ℕ → ℕ → Node → List ℕ
node_added w n x = marked (splice w (nodes_at + n * nodes_width) (node_words x)) (node_slots_at + node_slot x) (n + 1)

abbrev pub link_added : List ℕ → ℕ → Link → List ℕ
link_added w n x = marked (splice w (links_at + n * links_width) (link_words x)) (link_slots_at + link_slot x) (n + 1)

abbrev pub curve_added : List ℕ → ℕ → Name → List ℕ
curve_added w n x = marked (splice w (curves_at + n * curves_width) (id_words x)) (curve_slots_at + id_slot x) (n + 1)

abbrev pub pattern_added : List ℕ → ℕ → Name → List ℕ
pattern_added w n x = marked (splice w (patterns_at + n * patterns_width) (id_words x)) (pattern_slots_at + id_slot x) (n + 1)

abbrev pub demand_added : List ℕ → ℕ → Demand → List ℕ
demand_added w n x = marked (splice w (demands_at + n * demands_width) (demand_words x)) (demand_slots_at + demand_slot x) (n + 1)
