-- Document 01, "Records by section": what is kept of a network. Each list is in file order. A point names its curve, a multiplier its pattern, a demand its junction
-- and an action its link by their places in these lists. Assumes nothing.
use Rattle.std.specs.Prelude.{ℕ, suc, Bool, false, cond, List, [], ◌∷◌, map, length, replicate, pos, Float, None, Option, Some}
use Rattle.std.specs.Float.{fin}
use Rattle.leaf_fields.specs.Fields.{Name}
use Rattle.leaf_letters.specs.Words.{same}
use Rattle.scope.specs.declared.Kind.{Kind}
use Rattle.scope.specs.declared.Kind.TheVariants.{Nodes, Links, Curves, Patterns, Rules}
use Rattle.scope.specs.declared.PipeStatus.{PipeStatus}
use Rattle.scope.specs.declared.PipeStatus.TheVariants.{Open}
use Rattle.scope.specs.declared.ValveType.{ValveType}
use Rattle.scope.specs.declared.Target.{Target}
use Rattle.scope.specs.declared.Comparison.{Comparison}
use Rattle.scope.specs.declared.Operator.{Operator}
use Rattle.scope.specs.declared.Value.{Value}
use Rattle.scope.specs.declared.Value.TheVariants.{Number}
use Rattle.scope.specs.declared.Counts.{Counts}

abbrev pub zero_f : Float
zero_f = fin false 0 (pos 0)

-- ---- nodes
pub record Junction : Type 0 where
  pub elevation : Float
  pub emitter : Float
  pub disabled : Bool

-- the index is the pattern's place, once the text is read to its end
pub record Reservoir : Type 0 where
  pub elevation : Float
  pub pattern : Option Name
  pub index : Option ℕ

pub record Tank : Type 0 where
  pub elevation : Float
  pub initial : Float
  pub minimum : Float
  pub maximum : Float
  pub diameter : Float
  pub volume : Float
  pub curve : Option Name
  pub overflow : Bool

pub data NodeKind : Type 0 where
  junction : Junction → NodeKind
  reservoir : Reservoir → NodeKind
  tank : Tank → NodeKind

pub record Place : Type 0 where
  pub x : Float
  pub y : Float

pub record Node : Type 0 where
  pub id : Name
  pub kind : NodeKind
  pub place : Option Place

-- ---- links; the ends are places of nodes
pub record Pipe : Type 0 where
  pub long : Float
  pub diameter : Float
  pub roughness : Float
  pub minor : Float
  pub status : PipeStatus

pub record Pump : Type 0 where
  pub speed : Float
  pub head : Option Name
  pub power : Float

pub record Valve : Type 0 where
  pub type : ValveType
  pub diameter : Float
  pub setting : Float
  pub minor : Float
  pub curve : Option Name

pub data LinkKind : Type 0 where
  pipe : Pipe → LinkKind
  pump : Pump → LinkKind
  valve : Valve → LinkKind

pub record Link : Type 0 where
  pub id : Name
  pub start : ℕ
  pub end : ℕ
  pub kind : LinkKind

-- ---- series
pub record Point : Type 0 where
  pub curve : ℕ
  pub x : Float
  pub y : Float

pub record Multiplier : Type 0 where
  pub pattern : ℕ
  pub value : Float

-- `own` marks the demand of a junction's own line, which its first line of DEMANDS replaces
pub record Demand : Type 0 where
  pub node : ℕ
  pub own : Bool
  pub base : Float
  pub pattern : Option Name
  pub index : Option ℕ

-- ---- rules
pub record Condition : Type 0 where
  pub operator : Operator
  pub target : Target
  pub name : Option Name
  pub comparison : Comparison
  pub value : Value

pub record Action : Type 0 where
  pub link : ℕ
  pub name : Name
  pub value : Value
  pub otherwise : Bool

pub data Clause : Type 0 where
  condition : Condition → Clause
  action : Action → Clause

-- a rule's clauses are `count` of the clauses from the place `first` on
pub record Rule : Type 0 where
  pub id : Name
  pub priority : Option ℕ
  pub first : ℕ
  pub count : ℕ

-- ---- the network
pub record Network : Type 0 where
  pub nodes : List Node
  pub links : List Link
  pub curves : List Name
  pub points : List Point
  pub patterns : List Name
  pub multipliers : List Multiplier
  pub demands : List Demand
  pub times : List (Option ℕ)  -- the six that are kept, each set or not set
  pub rules : List Rule
  pub clauses : List Clause

abbrev pub no_network : Network
no_network = record { nodes = []; links = []; curves = []; points = []; patterns = []; multipliers = []; demands = []; times = replicate 6 None; rules = []; clauses = [] }

abbrev pub counts_of : Network → Counts
counts_of m =
    record {
      nodes = length m.nodes;
      links = length m.links;
      curves = length m.curves;
      points = length m.points;
      patterns = length m.patterns;
      multipliers = length m.multipliers;
      demands = length m.demands;
      rules = length m.rules;
      clauses = length m.clauses;
    }

-- ---- looking a name up: the first of the names that has these letters; the names start at number i
unfoldable pub lookup_from : ℕ → List Name → List ℕ → Option ℕ
lookup_from i [] w = None
lookup_from i (n ∷ ns) w = cond (same n.letters w) (Some i) (lookup_from (suc i) ns w)

abbrev pub lookup : List Name → List ℕ → Option ℕ
lookup ns w = lookup_from 0 ns w

abbrev pub node_ids : Network → List Name
node_ids m = map (λ n. n.id) m.nodes

abbrev pub link_ids : Network → List Name
link_ids m = map (λ l. l.id) m.links

abbrev pub rule_ids : Network → List Name
rule_ids m = map (λ r. r.id) m.rules

-- the ids of the records of a kind, and how many they are by the counts
abbrev pub ids_of : Kind → Network → List Name
ids_of Nodes m = node_ids m
ids_of Links m = link_ids m
ids_of Curves m = m.curves
ids_of Patterns m = m.patterns
ids_of Rules m = rule_ids m

abbrev pub records_of : Kind → Counts → ℕ
records_of Nodes c = c.nodes
records_of Links c = c.links
records_of Curves c = c.curves
records_of Patterns c = c.patterns
records_of Rules c = c.rules

-- ---- what stands past the end of a list
abbrev pub no_name : Name
no_name = record { at = 0; letters = [] }

abbrev pub no_junction : Junction
no_junction = record { elevation = zero_f; emitter = zero_f; disabled = false }

abbrev pub no_node : Node
no_node = record { id = no_name; kind = junction no_junction; place = None }

abbrev pub no_pipe : Pipe
no_pipe = record { long = zero_f; diameter = zero_f; roughness = zero_f; minor = zero_f; status = Open }

abbrev pub no_link : Link
no_link = record { id = no_name; start = 0; end = 0; kind = pipe no_pipe }

abbrev pub no_point : Point
no_point = record { curve = 0; x = zero_f; y = zero_f }

abbrev pub no_multiplier : Multiplier
no_multiplier = record { pattern = 0; value = zero_f }

abbrev pub no_demand : Demand
no_demand = record { node = 0; own = false; base = zero_f; pattern = None; index = None }

abbrev pub no_rule : Rule
no_rule = record { id = no_name; priority = None; first = 0; count = 0 }

abbrev pub no_clause : Clause
no_clause = action (record { link = 0; name = no_name; value = Number zero_f; otherwise = false })

-- ---- the network with another of its lists
abbrev pub with_nodes : List Node → Network → Network
with_nodes xs m =
    record { nodes = xs; links = m.links; curves = m.curves; points = m.points; patterns = m.patterns; multipliers = m.multipliers; demands = m.demands; times = m.times; rules = m.rules; clauses = m.clauses }

abbrev pub with_links : List Link → Network → Network
with_links xs m =
    record { nodes = m.nodes; links = xs; curves = m.curves; points = m.points; patterns = m.patterns; multipliers = m.multipliers; demands = m.demands; times = m.times; rules = m.rules; clauses = m.clauses }

abbrev pub with_curves : List Name → Network → Network
with_curves xs m =
    record { nodes = m.nodes; links = m.links; curves = xs; points = m.points; patterns = m.patterns; multipliers = m.multipliers; demands = m.demands; times = m.times; rules = m.rules; clauses = m.clauses }

abbrev pub with_points : List Point → Network → Network
with_points xs m =
    record { nodes = m.nodes; links = m.links; curves = m.curves; points = xs; patterns = m.patterns; multipliers = m.multipliers; demands = m.demands; times = m.times; rules = m.rules; clauses = m.clauses }

abbrev pub with_patterns : List Name → Network → Network
with_patterns xs m =
    record { nodes = m.nodes; links = m.links; curves = m.curves; points = m.points; patterns = xs; multipliers = m.multipliers; demands = m.demands; times = m.times; rules = m.rules; clauses = m.clauses }

abbrev pub with_multipliers : List Multiplier → Network → Network
with_multipliers xs m =
    record { nodes = m.nodes; links = m.links; curves = m.curves; points = m.points; patterns = m.patterns; multipliers = xs; demands = m.demands; times = m.times; rules = m.rules; clauses = m.clauses }

abbrev pub with_demands : List Demand → Network → Network
with_demands xs m =
    record { nodes = m.nodes; links = m.links; curves = m.curves; points = m.points; patterns = m.patterns; multipliers = m.multipliers; demands = xs; times = m.times; rules = m.rules; clauses = m.clauses }

abbrev pub with_times : List (Option ℕ) → Network → Network
with_times xs m =
    record { nodes = m.nodes; links = m.links; curves = m.curves; points = m.points; patterns = m.patterns; multipliers = m.multipliers; demands = m.demands; times = xs; rules = m.rules; clauses = m.clauses }

abbrev pub with_rules : List Rule → Network → Network
with_rules xs m =
    record { nodes = m.nodes; links = m.links; curves = m.curves; points = m.points; patterns = m.patterns; multipliers = m.multipliers; demands = m.demands; times = m.times; rules = xs; clauses = m.clauses }

abbrev pub with_clauses : List Clause → Network → Network
with_clauses xs m =
    record { nodes = m.nodes; links = m.links; curves = m.curves; points = m.points; patterns = m.patterns; multipliers = m.multipliers; demands = m.demands; times = m.times; rules = m.rules; clauses = xs }
