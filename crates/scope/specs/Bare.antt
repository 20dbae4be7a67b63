-- Demand 3 compares names by their letters: the same names, records and network with every name's place in the text forgotten, and nothing else. And the reader of document 01
-- over lines that have no place. Assumes nothing.
use Rattle.std.specs.Prelude.{ℕ, List, map, None, Option, Some}
use Rattle.leaf_fields.specs.Fields.{Name, fields_of}
use Rattle.leaf_scans.specs.Lines.{cut_of}
use Rattle.scope_lines.specs.Reader as L
use Rattle.scope.specs.declared.Section.{Section}
use Rattle.scope.specs.Sections.{is_rules}
use Rattle.scope.specs.Records.{Network, Node, NodeKind, junction, reservoir, tank, Link, LinkKind, pipe, pump, valve, Demand, Rule, Clause, condition, action, Condition, Action}
use Rattle.scope.specs.Series.{resolved}
use Rattle.scope.specs.Rules.{group_step}
use Rattle.scope.specs.Lines.{sort_of, step_of, verdict}

abbrev pub forget : Name → Name
forget n = record { at = 0; letters = n.letters }

abbrev pub forget_maybe : Option Name → Option Name
forget_maybe None = None
forget_maybe (Some n) = Some (forget n)

abbrev pub forget_node_kind : NodeKind → NodeKind
forget_node_kind (junction j) = junction j
forget_node_kind (reservoir r) = reservoir (record { elevation = r.elevation; pattern = forget_maybe r.pattern; index = r.index })
forget_node_kind (tank t) =
    tank (record {
      elevation = t.elevation;
      initial = t.initial;
      minimum = t.minimum;
      maximum = t.maximum;
      diameter = t.diameter;
      volume = t.volume;
      curve = forget_maybe t.curve;
      overflow = t.overflow;
    })

abbrev pub forget_node : Node → Node
forget_node n = record { id = forget n.id; kind = forget_node_kind n.kind; place = n.place }

abbrev pub forget_link_kind : LinkKind → LinkKind
forget_link_kind (pipe p) = pipe p
forget_link_kind (pump p) = pump (record { speed = p.speed; head = forget_maybe p.head; power = p.power })
forget_link_kind (valve v) = valve (record { type = v.type; diameter = v.diameter; setting = v.setting; minor = v.minor; curve = forget_maybe v.curve })

abbrev pub forget_link : Link → Link
forget_link l = record { id = forget l.id; start = l.start; end = l.end; kind = forget_link_kind l.kind }

abbrev pub forget_demand : Demand → Demand
forget_demand d = record { node = d.node; own = d.own; base = d.base; pattern = forget_maybe d.pattern; index = d.index }

abbrev pub forget_rule : Rule → Rule
forget_rule r = record { id = forget r.id; priority = r.priority; first = r.first; count = r.count }

abbrev pub forget_condition : Condition → Condition
forget_condition c = record { operator = c.operator; target = c.target; name = forget_maybe c.name; comparison = c.comparison; value = c.value }

abbrev pub forget_action : Action → Action
forget_action a = record { link = a.link; name = forget a.name; value = a.value; otherwise = a.otherwise }

abbrev pub forget_clause : Clause → Clause
forget_clause (condition c) = condition (forget_condition c)
forget_clause (action a) = action (forget_action a)

abbrev pub bare : Network → Network
bare m =
    record {
      nodes = map forget_node m.nodes;
      links = map forget_link m.links;
      curves = map forget m.curves;
      points = m.points;
      patterns = map forget m.patterns;
      multipliers = m.multipliers;
      demands = map forget_demand m.demands;
      times = m.times;
      rules = map forget_rule m.rules;
      clauses = map forget_clause m.clauses;
    }

-- ---- the reader of letters: document 01's own definitions, of lines that have no place
abbrev pub section_letters : List ℕ → List Name
section_letters b = map forget (fields_of 0 (cut_of b))

abbrev pub rule_letters : List ℕ → List Name
rule_letters b = map forget (fields_of 0 b)

unfoldable pub bare_inp : L.Reader Section (List ℕ) Network
bare_inp = record {
  sort = sort_of;
  rules = is_rules;
  store = λ s b m. step_of s (section_letters b) m;
  close = λ g m. verdict (group_step (map rule_letters g) m);
  finish = resolved;
}
