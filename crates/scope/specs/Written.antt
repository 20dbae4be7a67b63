-- "A field is handed out as the part of the caller's text it is": every name of a network is written in the text. A reading gives no other networks. Assumes nothing.
use Rattle.std.specs.Prelude.{ℕ, ◌<◌, ◌≡◌, List, length, take, drop, None, Option, Some}
use Rattle.leaf_fields.specs.Fields.{Name}
use Rattle.scope_lines.specs.Text.{Each}
use Rattle.scope.specs.Records.{Network, Node, NodeKind, junction, reservoir, tank, Link, LinkKind, pipe, pump, valve, Demand, Rule, Clause, condition, action}

-- the letters of a name, one at least, stand in the text at its place
pub record Sits (text : List ℕ) (n : Name) : Type 0 where
  pub there : take (length n.letters) (drop n.at text) ≡ n.letters
  pub some : 0 < length n.letters

-- a name that may be missing
abbrev pub SitsOr : List ℕ → Option Name → Type 0
SitsOr text None = Unit {0}
SitsOr text (Some n) = Sits text n

abbrev pub NodeKindWritten : List ℕ → NodeKind → Type 0
NodeKindWritten text (junction j) = Unit {0}
NodeKindWritten text (reservoir r) = SitsOr text r.pattern
NodeKindWritten text (tank t) = SitsOr text t.curve

pub record NodeWritten (text : List ℕ) (n : Node) : Type 0 where
  pub id : Sits text n.id
  pub kind : NodeKindWritten text n.kind

abbrev pub LinkKindWritten : List ℕ → LinkKind → Type 0
LinkKindWritten text (pipe p) = Unit {0}
LinkKindWritten text (pump p) = SitsOr text p.head
LinkKindWritten text (valve v) = SitsOr text v.curve

pub record LinkWritten (text : List ℕ) (l : Link) : Type 0 where
  pub id : Sits text l.id
  pub kind : LinkKindWritten text l.kind

abbrev pub ClauseWritten : List ℕ → Clause → Type 0
ClauseWritten text (condition c) = SitsOr text c.name
ClauseWritten text (action a) = Sits text a.name

pub record Written (text : List ℕ) (m : Network) : Type 0 where
  pub nodes : Each (NodeWritten text) m.nodes
  pub links : Each (LinkWritten text) m.links
  pub curves : Each (Sits text) m.curves
  pub patterns : Each (Sits text) m.patterns
  pub demands : Each (λ (d : Demand). SitsOr text d.pattern) m.demands
  pub rules : Each (λ (r : Rule). Sits text r.id) m.rules
  pub clauses : Each (ClauseWritten text) m.clauses
  pub times : length m.times ≡ 6
