-- A node, link, rule or clause read back from the tables: what the code has for each record of the network. Assumes nothing.
use Rattle.std.specs.Prelude.{ℕ, ◌+◌, cond, List, get_or, take, eqb, Float, Some, None, Option}
use Rattle.std.specs.Prelude as code
use Rattle.std.specs.Float.{nan}
use Rattle.scope.specs.Records as R
use Rattle.scope.specs.Records.{Network, junction, reservoir, tank, pipe, pump, valve, condition, action}
use Rattle.scope.specs.Layout.{name_length, node_kind, node_name, node_detail, link_kind, link_detail, link_name, clause_kind, condition_operator, condition_target}
use Rattle.scope.specs.Layout.{condition_comparison, action_else, action_link, clause_status, clause_name}
use Rattle.scope.specs.Layout.{node_elevation, junction_emitter, tank_initial, tank_minimum, tank_maximum, tank_diameter, tank_volume, pipe_length, pipe_diameter}
use Rattle.scope.specs.Layout.{pipe_roughness, pipe_minor, pump_speed, pump_power, valve_setting, valve_diameter, valve_minor, record_words, room_numbers}
use Rattle.scope.specs.declared.Tank as tankOut
use Rattle.scope.specs.declared.Pipe as pipeOut
use Rattle.scope.specs.declared.Pump as pumpOut
use Rattle.scope.specs.declared.Valve as valveOut
use Rattle.scope.specs.declared.LinkKind as linkKindOut
use Rattle.scope.specs.declared.LinkKind.TheVariants as linkIs
use Rattle.scope.specs.declared.Condition as conditionOut
use Rattle.scope.specs.declared.Action as actionOut
use Rattle.table_rows.specs.Holding.{Words, Numbers}
use Rattle.table_codes.specs.Codes.{pipe_status_from, type_from, target_from, comparison_from, operator_from, value_from}
use Rattle.stored_words.specs.Words.{span_from, field_from, found_from, name_span, name_field, place_found, amount_of}
use Rattle.stored_records.specs.declared.Junction as junctionOut
use Rattle.stored_records.specs.declared.Reservoir as reservoirOut
use Rattle.stored_records.specs.declared.NodeKind as kindOut
use Rattle.stored_records.specs.declared.NodeKind.TheVariants as nodeIs
use Rattle.stored_records.specs.declared.Place as placeOut
use Rattle.stored_records.specs.declared.Node as nodeOut
use Rattle.stored_records.specs.declared.Link as linkOut
use Rattle.stored_records.specs.declared.Rule as ruleOut
use Rattle.stored_records.specs.declared.Clause as clauseOut
use Rattle.stored_records.specs.declared.Clause.TheVariants as clauseIs

-- the two tables, which may be longer, hold the network, whatever the text
pub record Stands (m : Network) (w : List ℕ) (f : List Float) : Type 0 where
  pub text : List ℕ
  pub words : Words text m (take record_words w)
  pub numbers : Numbers m (take room_numbers f)

-- ---- a record by its words a and its numbers b, each by its place in the record
abbrev pub words_in : List ℕ → ℕ → ℕ
words_in l j = get_or l j 0

abbrev pub numbers_in : List Float → ℕ → Float
numbers_in l j = get_or l j nan

abbrev pub junction_by : (ℕ → ℕ) → (ℕ → Float) → junctionOut.Junction
junction_by a b = record { elevation = b node_elevation; emitter = b junction_emitter; disabled = eqb (a node_detail) 1 }

abbrev pub reservoir_by : (ℕ → ℕ) → (ℕ → Float) → reservoirOut.Reservoir
reservoir_by a b = record { elevation = b node_elevation; pattern = field_from (a node_name) (a (node_name + name_length)); index = found_from (a node_detail) }

abbrev pub tank_by : (ℕ → ℕ) → (ℕ → Float) → tankOut.Tank
tank_by a b =
    record {
      elevation = b node_elevation;
      initial = b tank_initial;
      minimum = b tank_minimum;
      maximum = b tank_maximum;
      diameter = b tank_diameter;
      volume = b tank_volume;
      curve = field_from (a node_name) (a (node_name + name_length));
      overflow = eqb (a node_detail) 1;
    }

abbrev pub kind_by : (ℕ → ℕ) → (ℕ → Float) → kindOut.NodeKind
kind_by a b = cond (eqb (a node_kind) 2) (nodeIs.Reservoir (reservoir_by a b)) (cond (eqb (a node_kind) 3) (nodeIs.Tank (tank_by a b)) (nodeIs.Junction (junction_by a b)))

abbrev pub pipe_by : (ℕ → ℕ) → (ℕ → Float) → pipeOut.Pipe
pipe_by a b = record { long = b pipe_length; diameter = b pipe_diameter; roughness = b pipe_roughness; minor = b pipe_minor; status = pipe_status_from (a link_detail) }

abbrev pub pump_by : (ℕ → ℕ) → (ℕ → Float) → pumpOut.Pump
pump_by a b = record { speed = b pump_speed; head = field_from (a link_name) (a (link_name + name_length)); power = b pump_power }

abbrev pub valve_by : (ℕ → ℕ) → (ℕ → Float) → valveOut.Valve
valve_by a b =
    record { valve_type = type_from (a link_detail); diameter = b valve_diameter; setting = b valve_setting; minor = b valve_minor; curve = field_from (a link_name) (a (link_name + name_length)) }

abbrev pub link_kind_by : (ℕ → ℕ) → (ℕ → Float) → linkKindOut.LinkKind
link_kind_by a b = cond (eqb (a link_kind) 2) (linkIs.Pump (pump_by a b)) (cond (eqb (a link_kind) 3) (linkIs.Valve (valve_by a b)) (linkIs.Pipe (pipe_by a b)))

abbrev pub condition_by : (ℕ → ℕ) → Float → conditionOut.Condition
condition_by a x =
    record {
      operator = operator_from (a condition_operator);
      target = target_from (a condition_target);
      name = field_from (a clause_name) (a (clause_name + name_length));
      comparison = comparison_from (a condition_comparison);
      value = value_from (a clause_status) x;
    }

abbrev pub action_by : (ℕ → ℕ) → Float → actionOut.Action
action_by a x =
    record { link = a action_link; name = span_from (a clause_name) (a (clause_name + name_length)); value = value_from (a clause_status) x; otherwise = eqb (a action_else) 1 }

abbrev pub clause_by : (ℕ → ℕ) → Float → clauseOut.Clause
clause_by a x = cond (eqb (a clause_kind) 1) (clauseIs.Condition (condition_by a x)) (clauseIs.Action (action_by a x))

-- ---- a record of the network, as the code has it
abbrev pub kind_back : R.NodeKind → kindOut.NodeKind
kind_back (junction j) = nodeIs.Junction (record { elevation = j.elevation; emitter = j.emitter; disabled = j.disabled })
kind_back (reservoir r) = nodeIs.Reservoir (record { elevation = r.elevation; pattern = name_field r.pattern; index = place_found r.index })
kind_back (tank t) =
    nodeIs.Tank (record { elevation = t.elevation; initial = t.initial; minimum = t.minimum; maximum = t.maximum; diameter = t.diameter; volume = t.volume; curve = name_field t.curve; overflow = t.overflow })

abbrev pub place_back : Option R.Place → code.Option placeOut.Place
place_back None = None
place_back (Some p) = Some (record { x = p.x; y = p.y })

abbrev pub node_back : R.Node → nodeOut.Node
node_back n = record { id = name_span n.id; kind = kind_back n.kind; place = place_back n.place }

abbrev pub link_kind_back : R.LinkKind → linkKindOut.LinkKind
link_kind_back (pipe p) = linkIs.Pipe (record { long = p.long; diameter = p.diameter; roughness = p.roughness; minor = p.minor; status = p.status })
link_kind_back (pump p) = linkIs.Pump (record { speed = p.speed; head = name_field p.head; power = p.power })
link_kind_back (valve v) = linkIs.Valve (record { valve_type = v.type; diameter = v.diameter; setting = v.setting; minor = v.minor; curve = name_field v.curve })

abbrev pub link_back : R.Link → linkOut.Link
link_back l = record { id = name_span l.id; start = l.start; end = l.end; kind = link_kind_back l.kind }

abbrev pub rule_back : R.Rule → ruleOut.Rule
rule_back r = record { id = name_span r.id; first = r.first; count = r.count; priority = amount_of r.priority }

abbrev pub clause_back : R.Clause → clauseOut.Clause
clause_back (condition c) =
    clauseIs.Condition (record { operator = c.operator; target = c.target; name = name_field c.name; comparison = c.comparison; value = c.value })
clause_back (action a) = clauseIs.Action (record { link = a.link; name = name_span a.name; value = a.value; otherwise = a.otherwise })
