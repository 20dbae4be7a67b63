-- The definition's number for each name of the layout: document 01's "Room" and docs/LAYOUT.md. Assumes nothing.
use Rattle.std.specs.Prelude.{ℕ, ◌+◌}
use Rattle.scope.specs.Sections.{room_clauses, room_curves, room_demands, room_lines, room_links, room_multipliers, room_nodes, room_patterns, room_points, room_rules, room_text}
use Rattle.scope.specs.Layout.{room_times, room_slots, room_counts, id_place, id_length, id_key, id_width, name_place, name_length, name_width, node_kind, node_name}
use Rattle.scope.specs.Layout.{node_detail, node_placed, nodes_width, link_start, link_end, link_kind, link_detail, link_name, links_width, curves_width, points_width}
use Rattle.scope.specs.Layout.{patterns_width, multipliers_width, demand_node, demand_own, demand_name, demand_index, demands_width, time_set, time_seconds, times_width}
use Rattle.scope.specs.Layout.{rule_first, rule_count, rule_priority_set, rule_priority, rules_width, clause_kind, condition_operator, condition_target}
use Rattle.scope.specs.Layout.{condition_comparison, action_else, action_link, clause_status, clause_name, clauses_width, node_elevation, junction_emitter, tank_initial}
use Rattle.scope.specs.Layout.{tank_minimum, tank_maximum, tank_diameter, tank_volume, node_x, node_y, node_numbers_width, pipe_length, pipe_diameter, pipe_roughness}
use Rattle.scope.specs.Layout.{pipe_minor, pump_speed, pump_power, valve_setting, valve_diameter, valve_minor, link_numbers_width, point_x, point_y, point_numbers_width}
use Rattle.scope.specs.Layout.{multiplier_numbers_width, demand_numbers_width, clause_numbers_width, nodes_at, links_at, curves_at, points_at, patterns_at, multipliers_at}
use Rattle.scope.specs.Layout.{demands_at, times_at, rules_at, clauses_at, node_slots_at, link_slots_at, curve_slots_at, pattern_slots_at, demand_slots_at, demand_slots_long}
use Rattle.scope.specs.Layout.{record_words, counts_at, room_words, count_nodes, count_links, count_curves, count_points, count_patterns, count_multipliers, count_demands}
use Rattle.scope.specs.Layout.{count_rules, count_clauses, node_numbers_at, link_numbers_at, point_numbers_at, multiplier_numbers_at, demand_numbers_at, clause_numbers_at}
use Rattle.scope.specs.Layout.{room_numbers}
use Rattle.table_layout.specs.declared.Region.{Region}
use Rattle.table_layout.specs.declared.Region.TheVariants as region
use Rattle.table_layout.specs.declared.Numbers.{Numbers}
use Rattle.table_layout.specs.declared.Numbers.TheVariants as numbers
use Rattle.table_layout.specs.declared.Room.{Room}
use Rattle.table_layout.specs.declared.Room.TheVariants as room
use Rattle.table_layout.specs.declared.Count.{Count}
use Rattle.table_layout.specs.declared.Count.TheVariants as count
use Rattle.table_layout.specs.declared.NodeWord.{NodeWord}
use Rattle.table_layout.specs.declared.NodeWord.TheVariants as nodeWord
use Rattle.table_layout.specs.declared.NodeNumber.{NodeNumber}
use Rattle.table_layout.specs.declared.NodeNumber.TheVariants as nodeNumber
use Rattle.table_layout.specs.declared.LinkWord.{LinkWord}
use Rattle.table_layout.specs.declared.LinkWord.TheVariants as linkWord
use Rattle.table_layout.specs.declared.LinkNumber.{LinkNumber}
use Rattle.table_layout.specs.declared.LinkNumber.TheVariants as linkNumber
use Rattle.table_layout.specs.declared.Series.{Series}
use Rattle.table_layout.specs.declared.Series.TheVariants as series
use Rattle.table_layout.specs.declared.RuleWord.{RuleWord}
use Rattle.table_layout.specs.declared.RuleWord.TheVariants as rule_word
use Rattle.table_layout.specs.declared.ClauseWord.{ClauseWord}
use Rattle.table_layout.specs.declared.ClauseWord.TheVariants as clauseWord
use Rattle.table_layout.specs.declared.Inner.{Inner}
use Rattle.table_layout.specs.declared.Inner.TheVariants as inner
use Rattle.table_layout.specs.declared.Slots.{Slots}
use Rattle.table_layout.specs.declared.Slots.TheVariants as slots

-- ---- rooms: how long each table must be, and how long a text may be
abbrev pub room_long : Room → ℕ
room_long room.Text = room_text
room_long room.Words = room_words
room_long room.Numbers = room_numbers
room_long room.Classes = room_lines
room_long room.Reasons = room_lines

-- ---- the regions of the words that hold records: where each starts, how many words a record has, how many there can be
abbrev pub region_at : Region → ℕ
region_at region.Nodes = nodes_at
region_at region.Links = links_at
region_at region.Curves = curves_at
region_at region.Points = points_at
region_at region.Patterns = patterns_at
region_at region.Multipliers = multipliers_at
region_at region.Demands = demands_at
region_at region.Times = times_at
region_at region.Rules = rules_at
region_at region.Clauses = clauses_at

abbrev pub region_width : Region → ℕ
region_width region.Nodes = nodes_width
region_width region.Links = links_width
region_width region.Curves = curves_width
region_width region.Points = points_width
region_width region.Patterns = patterns_width
region_width region.Multipliers = multipliers_width
region_width region.Demands = demands_width
region_width region.Times = times_width
region_width region.Rules = rules_width
region_width region.Clauses = clauses_width

abbrev pub region_most : Region → ℕ
region_most region.Nodes = room_nodes
region_most region.Links = room_links
region_most region.Curves = room_curves
region_most region.Points = room_points
region_most region.Patterns = room_patterns
region_most region.Multipliers = room_multipliers
region_most region.Demands = room_demands
region_most region.Times = room_times
region_most region.Rules = room_rules
region_most region.Clauses = room_clauses

-- ---- the regions of the numbers, for the same records
abbrev pub numbers_at : Numbers → ℕ
numbers_at numbers.Node = node_numbers_at
numbers_at numbers.Link = link_numbers_at
numbers_at numbers.Point = point_numbers_at
numbers_at numbers.Multiplier = multiplier_numbers_at
numbers_at numbers.Demand = demand_numbers_at
numbers_at numbers.Clause = clause_numbers_at

abbrev pub numbers_width : Numbers → ℕ
numbers_width numbers.Node = node_numbers_width
numbers_width numbers.Link = link_numbers_width
numbers_width numbers.Point = point_numbers_width
numbers_width numbers.Multiplier = multiplier_numbers_width
numbers_width numbers.Demand = demand_numbers_width
numbers_width numbers.Clause = clause_numbers_width

-- ---- the counts, which stand last among the words
abbrev pub count_place : Count → ℕ
count_place count.CountsAt = counts_at
count_place count.CountsWidth = room_counts
count_place count.CountNodes = count_nodes
count_place count.CountLinks = count_links
count_place count.CountCurves = count_curves
count_place count.CountPoints = count_points
count_place count.CountPatterns = count_patterns
count_place count.CountMultipliers = count_multipliers
count_place count.CountDemands = count_demands
count_place count.CountRules = count_rules
count_place count.CountClauses = count_clauses

-- ---- the words of an id and of a node
abbrev pub node_word_place : NodeWord → ℕ
node_word_place nodeWord.IdPlace = id_place
node_word_place nodeWord.IdLength = id_length
node_word_place nodeWord.Kind = node_kind
node_word_place nodeWord.NamePlace = node_name + name_place
node_word_place nodeWord.NameLength = node_name + name_length
node_word_place nodeWord.Detail = node_detail
node_word_place nodeWord.Placed = node_placed

-- ---- the numbers of a node
abbrev pub node_number_place : NodeNumber → ℕ
node_number_place nodeNumber.NodeElevation = node_elevation
node_number_place nodeNumber.JunctionEmitter = junction_emitter
node_number_place nodeNumber.TankInitialLevel = tank_initial
node_number_place nodeNumber.TankMinimumLevel = tank_minimum
node_number_place nodeNumber.TankMaximumLevel = tank_maximum
node_number_place nodeNumber.TankDiameter = tank_diameter
node_number_place nodeNumber.TankMinimumVolume = tank_volume
node_number_place nodeNumber.NodeX = node_x
node_number_place nodeNumber.NodeY = node_y

-- ---- the words of a link
abbrev pub link_word_place : LinkWord → ℕ
link_word_place linkWord.Start = link_start
link_word_place linkWord.End = link_end
link_word_place linkWord.Kind = link_kind
link_word_place linkWord.Detail = link_detail
link_word_place linkWord.NamePlace = link_name + name_place
link_word_place linkWord.NameLength = link_name + name_length

-- ---- the numbers of a link
abbrev pub link_number_place : LinkNumber → ℕ
link_number_place linkNumber.PipeLength = pipe_length
link_number_place linkNumber.PipeDiameter = pipe_diameter
link_number_place linkNumber.PipeRoughness = pipe_roughness
link_number_place linkNumber.PipeMinorLoss = pipe_minor
link_number_place linkNumber.PumpSpeed = pump_speed
link_number_place linkNumber.PumpPower = pump_power
link_number_place linkNumber.ValveSetting = valve_setting
link_number_place linkNumber.ValveDiameter = valve_diameter
link_number_place linkNumber.ValveMinorLoss = valve_minor

-- ---- the numbers of a point, the words of a demand and of a time
abbrev pub series_place : Series → ℕ
series_place series.PointX = point_x
series_place series.PointY = point_y
series_place series.DemandNode = demand_node
series_place series.DemandOwn = demand_own
series_place series.DemandNamePlace = demand_name + name_place
series_place series.DemandNameLength = demand_name + name_length
series_place series.DemandIndex = demand_index
series_place series.TimeSet = time_set
series_place series.TimeSeconds = time_seconds

-- ---- the words of a rule
abbrev pub rule_word_place : RuleWord → ℕ
rule_word_place rule_word.First = rule_first
rule_word_place rule_word.Count = rule_count
rule_word_place rule_word.PrioritySet = rule_priority_set
rule_word_place rule_word.Priority = rule_priority

-- ---- the words of a clause
abbrev pub clause_word_place : ClauseWord → ℕ
clause_word_place clauseWord.Kind = clause_kind
clause_word_place clauseWord.Status = clause_status
clause_word_place clauseWord.NamePlace = clause_name + name_place
clause_word_place clauseWord.NameLength = clause_name + name_length
clause_word_place clauseWord.ConditionOperator = condition_operator
clause_word_place clauseWord.ConditionTarget = condition_target
clause_word_place clauseWord.ConditionComparison = condition_comparison
clause_word_place clauseWord.ActionElse = action_else
clause_word_place clauseWord.ActionLink = action_link

-- ---- what only the library needs of an id, a name and the tables
abbrev pub inner_place : Inner → ℕ
inner_place inner.LinesRoom = room_lines
inner_place inner.IdKey = id_key
inner_place inner.IdWidth = id_width
inner_place inner.NamePlace = name_place
inner_place inner.NameLength = name_length
inner_place inner.NameWidth = name_width
inner_place inner.NodeName = node_name
inner_place inner.LinkName = link_name
inner_place inner.DemandName = demand_name
inner_place inner.ClauseName = clause_name
inner_place inner.RecordWords = record_words

-- ---- the slots, which only the library needs
abbrev pub slots_place : Slots → ℕ
slots_place slots.NodeSlotsAt = node_slots_at
slots_place slots.LinkSlotsAt = link_slots_at
slots_place slots.CurveSlotsAt = curve_slots_at
slots_place slots.PatternSlotsAt = pattern_slots_at
slots_place slots.DemandSlotsAt = demand_slots_at
slots_place slots.SlotsMost = room_slots
slots_place slots.DemandSlotsMost = demand_slots_long
