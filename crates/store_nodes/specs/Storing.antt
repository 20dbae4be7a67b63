-- A node as it is stored. Assumes nothing.
use Rattle.leaf_fields.specs.declared.Span.{Span}
use Rattle.std.specs.Prelude.{ℕ, ◌≡◌, ◌<◌, cond, ltb, length, List, [], ◌∷◌, ◌++◌, Float, Err, None, Ok, Option, Result}
use Rattle.leaf_fields.specs.Fields.{Name, opt_in}
use Rattle.scope.specs.declared.Reason.{Reason}
use Rattle.scope.specs.declared.Reason.TheVariants.{Used, NoRoom}
use Rattle.scope.specs.Records.{Network, Node, NodeKind, lookup, node_ids}
use Rattle.scope.specs.Sections.{room_nodes}
use Rattle.scope.specs.Values.{Read, bad, on_found}
use Rattle.scope.specs.Tables.{id_words, name_words, kind_words, node_numbers}
use Rattle.table_rows.specs.Holding.{SitsOr, pattern_in}

-- a node before its line of COORDINATES
abbrev pub new_node : Name → NodeKind → Node
new_node id k = record { id = id; kind = k; place = None }

-- its words: the number of its kind; a reservoir's pattern or a tank's curve; what its kind keeps last; no place
abbrev pub new_words : Name → ℕ → Option Name → ℕ → List ℕ
new_words id kind name last = id_words id ++ (kind ∷ name_words name ++ (last ∷ [])) ++ (0 ∷ [])

-- the words of a demand of a junction's own line
abbrev pub own_words : ℕ → Option Name → List ℕ
own_words node pattern = node ∷ 1 ∷ name_words pattern ++ (0 ∷ [])

-- a kind, as its words and the numbers of a new node of it; its pattern stands in the text
pub record KindAs (text : List ℕ) (k : NodeKind) (kind : ℕ) (name : Option Span) (last : ℕ) (amounts : List Float) : Type 0 where
  pub words : kind_words k ≡ kind ∷ name_words (opt_in text name) ++ (last ∷ [])
  pub numbers : (id : Name) → node_numbers (new_node id k) ≡ amounts
  pub pattern : SitsOr text (pattern_in k)

-- the words of the id of one more node of m; or why there is no such node: another has its name, or there is no room. No step that adds a node then has another answer
abbrev pub NewId : Name → Network → Result (List ℕ) Reason → Type 0
NewId id m (Ok who) = (who ≡ id_words id) × (lookup (node_ids m) id.letters ≡ None) × (length m.nodes < room_nodes)
NewId id m (Err why) = (o : Read Network) → on_found (lookup (node_ids m) id.letters) (λ i. bad Used) (cond (ltb (length m.nodes) room_nodes) o (bad NoRoom)) ≡ bad why
