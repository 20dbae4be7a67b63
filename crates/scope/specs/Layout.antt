-- Document 01, "Room", and docs/LAYOUT.md: how many records of each kind there is room for, which places a record takes in the two lent tables, and where its region
-- starts. Nothing else says so: a place is the place before it plus what stands there. The code has the same in crates/table_rows/src; `table_layout` proves that the two
-- agree. Assumes nothing.
use Rattle.std.specs.Prelude.{ℕ, ◌+◌, ◌*◌}
use Rattle.scope.specs.Sections.{room_nodes, room_links, room_curves, room_points, room_patterns, room_multipliers, room_demands, room_rules, room_clauses}

-- ---- rooms that document 01 does not name: the times; the slots of each kind that is looked up by name; the counts
abbrev pub room_times : ℕ
room_times = 6

abbrev pub room_slots : ℕ
room_slots = 615

abbrev pub room_counts : ℕ
room_counts = 9

-- ---- the words of an id: the place of the name, its length, its key
abbrev pub id_place : ℕ
id_place = 0

abbrev pub id_length : ℕ
id_length = id_place + 1

abbrev pub id_key : ℕ
id_key = id_length + 1

abbrev pub id_width : ℕ
id_width = id_key + 1

-- ---- the words of a name that may be missing: place and length
abbrev pub name_place : ℕ
name_place = 0

abbrev pub name_length : ℕ
name_length = name_place + 1

abbrev pub name_width : ℕ
name_width = name_length + 1

-- ---- the words of a node: its id; its kind; a reservoir's pattern or a tank's curve; what its kind keeps; whether it has a place
abbrev pub node_kind : ℕ
node_kind = id_width

abbrev pub node_name : ℕ
node_name = node_kind + 1

abbrev pub node_detail : ℕ
node_detail = node_name + name_width

abbrev pub node_placed : ℕ
node_placed = node_detail + 1

abbrev pub nodes_width : ℕ
nodes_width = node_placed + 1

-- ---- the words of a link: its id; its two nodes; its kind; a pipe's status or a valve's type; a pump's or a valve's curve
abbrev pub link_start : ℕ
link_start = id_width

abbrev pub link_end : ℕ
link_end = link_start + 1

abbrev pub link_kind : ℕ
link_kind = link_end + 1

abbrev pub link_detail : ℕ
link_detail = link_kind + 1

abbrev pub link_name : ℕ
link_name = link_detail + 1

abbrev pub links_width : ℕ
links_width = link_name + name_width

-- ---- the words of a curve, a point, a pattern and a multiplier: an id, or the place of the curve or the pattern
abbrev pub curves_width : ℕ
curves_width = id_width

abbrev pub points_width : ℕ
points_width = 1

abbrev pub patterns_width : ℕ
patterns_width = id_width

abbrev pub multipliers_width : ℕ
multipliers_width = 1

-- ---- the words of a demand: its junction; whether it is of the junction's own line; its pattern; the pattern's index
abbrev pub demand_node : ℕ
demand_node = 0

abbrev pub demand_own : ℕ
demand_own = demand_node + 1

abbrev pub demand_name : ℕ
demand_name = demand_own + 1

abbrev pub demand_index : ℕ
demand_index = demand_name + name_width

abbrev pub demands_width : ℕ
demands_width = demand_index + 1

-- ---- the words of a time: whether it is set; seconds
abbrev pub time_set : ℕ
time_set = 0

abbrev pub time_seconds : ℕ
time_seconds = time_set + 1

abbrev pub times_width : ℕ
times_width = time_seconds + 1

-- ---- the words of a rule: its id; its first clause; how many it has; whether it has a priority; the priority
abbrev pub rule_first : ℕ
rule_first = id_width

abbrev pub rule_count : ℕ
rule_count = rule_first + 1

abbrev pub rule_priority_set : ℕ
rule_priority_set = rule_count + 1

abbrev pub rule_priority : ℕ
rule_priority = rule_priority_set + 1

abbrev pub rules_width : ℕ
rules_width = rule_priority + 1

-- ---- the words of a clause: its kind; three that its kind has; the status; the name
abbrev pub clause_kind : ℕ
clause_kind = 0

abbrev pub condition_operator : ℕ
condition_operator = clause_kind + 1

abbrev pub condition_target : ℕ
condition_target = condition_operator + 1

abbrev pub condition_comparison : ℕ
condition_comparison = condition_target + 1

abbrev pub action_else : ℕ
action_else = clause_kind + 1

abbrev pub action_link : ℕ
action_link = action_else + 1

abbrev pub clause_status : ℕ
clause_status = condition_comparison + 1

abbrev pub clause_name : ℕ
clause_name = clause_status + 1

abbrev pub clauses_width : ℕ
clauses_width = clause_name + name_width

-- ---- the numbers of a node: the elevation; a junction's emitter, or the levels, the diameter and the volume of a tank; x and y
abbrev pub node_elevation : ℕ
node_elevation = 0

abbrev pub junction_emitter : ℕ
junction_emitter = node_elevation + 1

abbrev pub tank_initial : ℕ
tank_initial = node_elevation + 1

abbrev pub tank_minimum : ℕ
tank_minimum = tank_initial + 1

abbrev pub tank_maximum : ℕ
tank_maximum = tank_minimum + 1

abbrev pub tank_diameter : ℕ
tank_diameter = tank_maximum + 1

abbrev pub tank_volume : ℕ
tank_volume = tank_diameter + 1

abbrev pub node_x : ℕ
node_x = tank_volume + 1

abbrev pub node_y : ℕ
node_y = node_x + 1

abbrev pub node_numbers_width : ℕ
node_numbers_width = node_y + 1

-- ---- the numbers of a link, by its kind
abbrev pub pipe_length : ℕ
pipe_length = 0

abbrev pub pipe_diameter : ℕ
pipe_diameter = pipe_length + 1

abbrev pub pipe_roughness : ℕ
pipe_roughness = pipe_diameter + 1

abbrev pub pipe_minor : ℕ
pipe_minor = pipe_roughness + 1

abbrev pub pump_speed : ℕ
pump_speed = 0

abbrev pub pump_power : ℕ
pump_power = pump_speed + 1

abbrev pub valve_setting : ℕ
valve_setting = 0

abbrev pub valve_diameter : ℕ
valve_diameter = valve_setting + 1

abbrev pub valve_minor : ℕ
valve_minor = pipe_minor

abbrev pub link_numbers_width : ℕ
link_numbers_width = pipe_minor + 1

-- ---- the numbers of a point: x and y
abbrev pub point_x : ℕ
point_x = 0

abbrev pub point_y : ℕ
point_y = point_x + 1

abbrev pub point_numbers_width : ℕ
point_numbers_width = point_y + 1

-- ---- the number of a multiplier, a demand and a clause
abbrev pub multiplier_numbers_width : ℕ
multiplier_numbers_width = 1

abbrev pub demand_numbers_width : ℕ
demand_numbers_width = 1

abbrev pub clause_numbers_width : ℕ
clause_numbers_width = 1

-- ---- how long each region of the words is, and where it starts: the records, then the slots by which they are looked up
abbrev pub nodes_at : ℕ
nodes_at = 0

abbrev pub nodes_long : ℕ
nodes_long = room_nodes * nodes_width

abbrev pub links_at : ℕ
links_at = nodes_at + nodes_long

abbrev pub links_long : ℕ
links_long = room_links * links_width

abbrev pub curves_at : ℕ
curves_at = links_at + links_long

abbrev pub curves_long : ℕ
curves_long = room_curves * curves_width

abbrev pub points_at : ℕ
points_at = curves_at + curves_long

abbrev pub points_long : ℕ
points_long = room_points * points_width

abbrev pub patterns_at : ℕ
patterns_at = points_at + points_long

abbrev pub patterns_long : ℕ
patterns_long = room_patterns * patterns_width

abbrev pub multipliers_at : ℕ
multipliers_at = patterns_at + patterns_long

abbrev pub multipliers_long : ℕ
multipliers_long = room_multipliers * multipliers_width

abbrev pub demands_at : ℕ
demands_at = multipliers_at + multipliers_long

abbrev pub demands_long : ℕ
demands_long = room_demands * demands_width

abbrev pub times_at : ℕ
times_at = demands_at + demands_long

abbrev pub times_long : ℕ
times_long = room_times * times_width

abbrev pub rules_at : ℕ
rules_at = times_at + times_long

abbrev pub rules_long : ℕ
rules_long = room_rules * rules_width

abbrev pub clauses_at : ℕ
clauses_at = rules_at + rules_long

abbrev pub clauses_long : ℕ
clauses_long = room_clauses * clauses_width

abbrev pub node_slots_at : ℕ
node_slots_at = clauses_at + clauses_long

abbrev pub node_slots_long : ℕ
node_slots_long = room_slots

abbrev pub link_slots_at : ℕ
link_slots_at = node_slots_at + node_slots_long

abbrev pub link_slots_long : ℕ
link_slots_long = room_slots

abbrev pub curve_slots_at : ℕ
curve_slots_at = link_slots_at + link_slots_long

abbrev pub curve_slots_long : ℕ
curve_slots_long = room_slots

abbrev pub pattern_slots_at : ℕ
pattern_slots_at = curve_slots_at + curve_slots_long

abbrev pub pattern_slots_long : ℕ
pattern_slots_long = room_slots

abbrev pub demand_slots_at : ℕ
demand_slots_at = pattern_slots_at + pattern_slots_long

abbrev pub demand_slots_long : ℕ
demand_slots_long = room_nodes

-- all of them together, and the table, in which the counts stand last
abbrev pub record_words : ℕ
record_words = demand_slots_at + demand_slots_long

abbrev pub counts_at : ℕ
counts_at = record_words

abbrev pub room_words : ℕ
room_words = counts_at + room_counts

-- ---- the counts, each by the kind that it counts
abbrev pub count_nodes : ℕ
count_nodes = 0

abbrev pub count_links : ℕ
count_links = count_nodes + 1

abbrev pub count_curves : ℕ
count_curves = count_links + 1

abbrev pub count_points : ℕ
count_points = count_curves + 1

abbrev pub count_patterns : ℕ
count_patterns = count_points + 1

abbrev pub count_multipliers : ℕ
count_multipliers = count_patterns + 1

abbrev pub count_demands : ℕ
count_demands = count_multipliers + 1

abbrev pub count_rules : ℕ
count_rules = count_demands + 1

abbrev pub count_clauses : ℕ
count_clauses = count_rules + 1

-- ---- the regions of the numbers
abbrev pub node_numbers_at : ℕ
node_numbers_at = 0

abbrev pub node_numbers_long : ℕ
node_numbers_long = room_nodes * node_numbers_width

abbrev pub link_numbers_at : ℕ
link_numbers_at = node_numbers_at + node_numbers_long

abbrev pub link_numbers_long : ℕ
link_numbers_long = room_links * link_numbers_width

abbrev pub point_numbers_at : ℕ
point_numbers_at = link_numbers_at + link_numbers_long

abbrev pub point_numbers_long : ℕ
point_numbers_long = room_points * point_numbers_width

abbrev pub multiplier_numbers_at : ℕ
multiplier_numbers_at = point_numbers_at + point_numbers_long

abbrev pub multiplier_numbers_long : ℕ
multiplier_numbers_long = room_multipliers * multiplier_numbers_width

abbrev pub demand_numbers_at : ℕ
demand_numbers_at = multiplier_numbers_at + multiplier_numbers_long

abbrev pub demand_numbers_long : ℕ
demand_numbers_long = room_demands * demand_numbers_width

abbrev pub clause_numbers_at : ℕ
clause_numbers_at = demand_numbers_at + demand_numbers_long

abbrev pub clause_numbers_long : ℕ
clause_numbers_long = room_clauses * clause_numbers_width

abbrev pub room_numbers : ℕ
room_numbers = clause_numbers_at + clause_numbers_long
