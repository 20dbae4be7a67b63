-- A whole record by its words a and its numbers b, as the code reads it: only laws speak of it. Assumes nothing.
use Prim.Native.Nat.{ℕ}
use lib.Dec.{eqb}
use lib.Ieee.{Float}
use Rattle.std.specs.Bool.{then_some}
use Rattle.stored_records.specs.declared.Node as nodeOut
use Rattle.stored_records.specs.declared.Link as linkOut
use Rattle.stored_records.specs.declared.Rule as ruleOut
use Rattle.scope.specs.Layout.{id_place, id_length, node_placed, node_x, node_y, link_start, link_end, rule_first, rule_count, rule_priority_set, rule_priority}
use Rattle.stored_words.specs.Words.{span_from, amount_from}
use Rattle.stored_records.specs.Back.{kind_by, link_kind_by}

abbrev pub node_by : (ℕ → ℕ) → (ℕ → Float) → nodeOut.Node
node_by a b = record { id = span_from (a id_place) (a id_length); kind = kind_by a b; place = then_some (eqb (a node_placed) 1) (record { x = b node_x; y = b node_y }) }

abbrev pub link_by : (ℕ → ℕ) → (ℕ → Float) → linkOut.Link
link_by a b = record { id = span_from (a id_place) (a id_length); start = a link_start; end = a link_end; kind = link_kind_by a b }

abbrev pub rule_by : (ℕ → ℕ) → ruleOut.Rule
rule_by a = record { id = span_from (a id_place) (a id_length); first = a rule_first; count = a rule_count; priority = amount_from (a rule_priority_set) (a rule_priority) }
