-- The records that are looked up by name: where those of a kind stand, and from where on a name is looked for. Assumes nothing.
use Rattle.std.specs.Prelude.{ℕ, ◌≡◌, List}
use Rattle.scope.specs.Records.{Network, counts_of, records_of}
use Rattle.scope.specs.Tables.{key_of}
use Rattle.scope.specs.Layout.{nodes_at, links_at, curves_at, patterns_at, rules_at, nodes_width, links_width, curves_width, patterns_width, rules_width}
use Rattle.scope.specs.declared.Kind.{Kind}
use Rattle.scope.specs.declared.Kind.TheVariants.{Nodes, Links, Curves, Patterns, Rules}
use Rattle.table_rows.specs.Holding.{Words, OtherNames}

abbrev pub base_of : Kind → ℕ
base_of Nodes = nodes_at
base_of Links = links_at
base_of Curves = curves_at
base_of Patterns = patterns_at
base_of Rules = rules_at

abbrev pub width_of : Kind → ℕ
width_of Nodes = nodes_width
width_of Links = links_width
width_of Curves = curves_width
width_of Patterns = patterns_width
width_of Rules = rules_width

-- in words that hold a network with `count` records of the kind, no row before number b has a name of the key
abbrev pub StartsAt : List ℕ → Kind → ℕ → ℕ → ℕ → Type 0
StartsAt w k key count b = (text : List ℕ) (m : Network) → Words text m w → count ≡ records_of k (counts_of m) → (name : List ℕ) → key ≡ key_of name → OtherNames text w (base_of k) (width_of k) name b
