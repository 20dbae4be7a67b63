-- The fixed words of document 01, letter by letter. Assumes nothing.
use Rattle.std.specs.Prelude.{ℕ, List, [], ◌∷◌}

-- [JUNCTIONS]
abbrev pub header_junctions : List ℕ
header_junctions = 91 ∷ 74 ∷ 85 ∷ 78 ∷ 67 ∷ 84 ∷ 73 ∷ 79 ∷ 78 ∷ 83 ∷ 93 ∷ []

-- [RESERVOIRS]
abbrev pub header_reservoirs : List ℕ
header_reservoirs = 91 ∷ 82 ∷ 69 ∷ 83 ∷ 69 ∷ 82 ∷ 86 ∷ 79 ∷ 73 ∷ 82 ∷ 83 ∷ 93 ∷ []

-- [TANKS]
abbrev pub header_tanks : List ℕ
header_tanks = 91 ∷ 84 ∷ 65 ∷ 78 ∷ 75 ∷ 83 ∷ 93 ∷ []

-- [PIPES]
abbrev pub header_pipes : List ℕ
header_pipes = 91 ∷ 80 ∷ 73 ∷ 80 ∷ 69 ∷ 83 ∷ 93 ∷ []

-- [PUMPS]
abbrev pub header_pumps : List ℕ
header_pumps = 91 ∷ 80 ∷ 85 ∷ 77 ∷ 80 ∷ 83 ∷ 93 ∷ []

-- [VALVES]
abbrev pub header_valves : List ℕ
header_valves = 91 ∷ 86 ∷ 65 ∷ 76 ∷ 86 ∷ 69 ∷ 83 ∷ 93 ∷ []

-- [CURVES]
abbrev pub header_curves : List ℕ
header_curves = 91 ∷ 67 ∷ 85 ∷ 82 ∷ 86 ∷ 69 ∷ 83 ∷ 93 ∷ []

-- [PATTERNS]
abbrev pub header_patterns : List ℕ
header_patterns = 91 ∷ 80 ∷ 65 ∷ 84 ∷ 84 ∷ 69 ∷ 82 ∷ 78 ∷ 83 ∷ 93 ∷ []

-- [DEMANDS]
abbrev pub header_demands : List ℕ
header_demands = 91 ∷ 68 ∷ 69 ∷ 77 ∷ 65 ∷ 78 ∷ 68 ∷ 83 ∷ 93 ∷ []

-- [EMITTERS]
abbrev pub header_emitters : List ℕ
header_emitters = 91 ∷ 69 ∷ 77 ∷ 73 ∷ 84 ∷ 84 ∷ 69 ∷ 82 ∷ 83 ∷ 93 ∷ []

-- [COORDINATES]
abbrev pub header_coordinates : List ℕ
header_coordinates = 91 ∷ 67 ∷ 79 ∷ 79 ∷ 82 ∷ 68 ∷ 73 ∷ 78 ∷ 65 ∷ 84 ∷ 69 ∷ 83 ∷ 93 ∷ []

-- [TIMES]
abbrev pub header_times : List ℕ
header_times = 91 ∷ 84 ∷ 73 ∷ 77 ∷ 69 ∷ 83 ∷ 93 ∷ []

-- [RULES]
abbrev pub header_rules : List ℕ
header_rules = 91 ∷ 82 ∷ 85 ∷ 76 ∷ 69 ∷ 83 ∷ 93 ∷ []

-- 0
abbrev pub zero_text : List ℕ
zero_text = 48 ∷ []

-- true
abbrev pub word_true : List ℕ
word_true = 116 ∷ 114 ∷ 117 ∷ 101 ∷ []

-- false
abbrev pub word_false : List ℕ
word_false = 102 ∷ 97 ∷ 108 ∷ 115 ∷ 101 ∷ []

-- *
abbrev pub sign_star : List ℕ
sign_star = 42 ∷ []

-- YES
abbrev pub word_yes : List ℕ
word_yes = 89 ∷ 69 ∷ 83 ∷ []

-- CV
abbrev pub word_cv : List ℕ
word_cv = 67 ∷ 86 ∷ []

-- CLOSED
abbrev pub word_closed : List ℕ
word_closed = 67 ∷ 76 ∷ 79 ∷ 83 ∷ 69 ∷ 68 ∷ []

-- SPEED
abbrev pub word_speed : List ℕ
word_speed = 83 ∷ 80 ∷ 69 ∷ 69 ∷ 68 ∷ []

-- HEAD
abbrev pub word_head : List ℕ
word_head = 72 ∷ 69 ∷ 65 ∷ 68 ∷ []

-- POWER
abbrev pub word_power : List ℕ
word_power = 80 ∷ 79 ∷ 87 ∷ 69 ∷ 82 ∷ []

-- GPV
abbrev pub word_gpv : List ℕ
word_gpv = 71 ∷ 80 ∷ 86 ∷ []

-- TCV
abbrev pub word_tcv : List ℕ
word_tcv = 84 ∷ 67 ∷ 86 ∷ []

-- FCV
abbrev pub word_fcv : List ℕ
word_fcv = 70 ∷ 67 ∷ 86 ∷ []

-- PRV
abbrev pub word_prv : List ℕ
word_prv = 80 ∷ 82 ∷ 86 ∷ []

-- PSV
abbrev pub word_psv : List ℕ
word_psv = 80 ∷ 83 ∷ 86 ∷ []

-- PBV
abbrev pub word_pbv : List ℕ
word_pbv = 80 ∷ 66 ∷ 86 ∷ []

-- PCV
abbrev pub word_pcv : List ℕ
word_pcv = 80 ∷ 67 ∷ 86 ∷ []

-- STATISTIC
abbrev pub word_statistic : List ℕ
word_statistic = 83 ∷ 84 ∷ 65 ∷ 84 ∷ 73 ∷ 83 ∷ 84 ∷ 73 ∷ 67 ∷ []

-- DURATION
abbrev pub word_duration : List ℕ
word_duration = 68 ∷ 85 ∷ 82 ∷ 65 ∷ 84 ∷ 73 ∷ 79 ∷ 78 ∷ []

-- HYDRAULIC
abbrev pub word_hydraulic : List ℕ
word_hydraulic = 72 ∷ 89 ∷ 68 ∷ 82 ∷ 65 ∷ 85 ∷ 76 ∷ 73 ∷ 67 ∷ []

-- TIMESTEP
abbrev pub word_timestep : List ℕ
word_timestep = 84 ∷ 73 ∷ 77 ∷ 69 ∷ 83 ∷ 84 ∷ 69 ∷ 80 ∷ []

-- PATTERN
abbrev pub word_pattern : List ℕ
word_pattern = 80 ∷ 65 ∷ 84 ∷ 84 ∷ 69 ∷ 82 ∷ 78 ∷ []

-- REPORT
abbrev pub word_report : List ℕ
word_report = 82 ∷ 69 ∷ 80 ∷ 79 ∷ 82 ∷ 84 ∷ []

-- START
abbrev pub word_start : List ℕ
word_start = 83 ∷ 84 ∷ 65 ∷ 82 ∷ 84 ∷ []

-- CLOCKTIME
abbrev pub word_clocktime : List ℕ
word_clocktime = 67 ∷ 76 ∷ 79 ∷ 67 ∷ 75 ∷ 84 ∷ 73 ∷ 77 ∷ 69 ∷ []

-- RULE
abbrev pub word_rule : List ℕ
word_rule = 82 ∷ 85 ∷ 76 ∷ 69 ∷ []

-- IF
abbrev pub word_if : List ℕ
word_if = 73 ∷ 70 ∷ []

-- AND
abbrev pub word_and : List ℕ
word_and = 65 ∷ 78 ∷ 68 ∷ []

-- OR
abbrev pub word_or : List ℕ
word_or = 79 ∷ 82 ∷ []

-- THEN
abbrev pub word_then : List ℕ
word_then = 84 ∷ 72 ∷ 69 ∷ 78 ∷ []

-- ELSE
abbrev pub word_else : List ℕ
word_else = 69 ∷ 76 ∷ 83 ∷ 69 ∷ []

-- PRIORITY
abbrev pub word_priority : List ℕ
word_priority = 80 ∷ 82 ∷ 73 ∷ 79 ∷ 82 ∷ 73 ∷ 84 ∷ 89 ∷ []

-- SYSTEM
abbrev pub word_system : List ℕ
word_system = 83 ∷ 89 ∷ 83 ∷ 84 ∷ 69 ∷ 77 ∷ []

-- NODE
abbrev pub word_node : List ℕ
word_node = 78 ∷ 79 ∷ 68 ∷ 69 ∷ []

-- TANK
abbrev pub word_tank : List ℕ
word_tank = 84 ∷ 65 ∷ 78 ∷ 75 ∷ []

-- LINK
abbrev pub word_link : List ℕ
word_link = 76 ∷ 73 ∷ 78 ∷ 75 ∷ []

-- PIPE
abbrev pub word_pipe : List ℕ
word_pipe = 80 ∷ 73 ∷ 80 ∷ 69 ∷ []

-- VALVE
abbrev pub word_valve : List ℕ
word_valve = 86 ∷ 65 ∷ 76 ∷ 86 ∷ 69 ∷ []

-- PUMP
abbrev pub word_pump : List ℕ
word_pump = 80 ∷ 85 ∷ 77 ∷ 80 ∷ []

-- DEMAND
abbrev pub word_demand : List ℕ
word_demand = 68 ∷ 69 ∷ 77 ∷ 65 ∷ 78 ∷ 68 ∷ []

-- TIME
abbrev pub word_time : List ℕ
word_time = 84 ∷ 73 ∷ 77 ∷ 69 ∷ []

-- PRESSURE
abbrev pub word_pressure : List ℕ
word_pressure = 80 ∷ 82 ∷ 69 ∷ 83 ∷ 83 ∷ 85 ∷ 82 ∷ 69 ∷ []

-- LEVEL
abbrev pub word_level : List ℕ
word_level = 76 ∷ 69 ∷ 86 ∷ 69 ∷ 76 ∷ []

-- FILLTIME
abbrev pub word_filltime : List ℕ
word_filltime = 70 ∷ 73 ∷ 76 ∷ 76 ∷ 84 ∷ 73 ∷ 77 ∷ 69 ∷ []

-- DRAINTIME
abbrev pub word_draintime : List ℕ
word_draintime = 68 ∷ 82 ∷ 65 ∷ 73 ∷ 78 ∷ 84 ∷ 73 ∷ 77 ∷ 69 ∷ []

-- FLOW
abbrev pub word_flow : List ℕ
word_flow = 70 ∷ 76 ∷ 79 ∷ 87 ∷ []

-- STATUS
abbrev pub word_status : List ℕ
word_status = 83 ∷ 84 ∷ 65 ∷ 84 ∷ 85 ∷ 83 ∷ []

-- SETTING
abbrev pub word_setting : List ℕ
word_setting = 83 ∷ 69 ∷ 84 ∷ 84 ∷ 73 ∷ 78 ∷ 71 ∷ []

-- IS
abbrev pub word_is : List ℕ
word_is = 73 ∷ 83 ∷ []

-- =
abbrev pub sign_equals : List ℕ
sign_equals = 61 ∷ []

-- NOT
abbrev pub word_not : List ℕ
word_not = 78 ∷ 79 ∷ 84 ∷ []

-- <>
abbrev pub sign_unequal : List ℕ
sign_unequal = 60 ∷ 62 ∷ []

-- ABOVE
abbrev pub word_above : List ℕ
word_above = 65 ∷ 66 ∷ 79 ∷ 86 ∷ 69 ∷ []

-- >
abbrev pub sign_above : List ℕ
sign_above = 62 ∷ []

-- BELOW
abbrev pub word_below : List ℕ
word_below = 66 ∷ 69 ∷ 76 ∷ 79 ∷ 87 ∷ []

-- <
abbrev pub sign_below : List ℕ
sign_below = 60 ∷ []

-- >=
abbrev pub sign_at_least : List ℕ
sign_at_least = 62 ∷ 61 ∷ []

-- <=
abbrev pub sign_at_most : List ℕ
sign_at_most = 60 ∷ 61 ∷ []

-- OPEN
abbrev pub word_open : List ℕ
word_open = 79 ∷ 80 ∷ 69 ∷ 78 ∷ []

-- ACTIVE
abbrev pub word_active : List ℕ
word_active = 65 ∷ 67 ∷ 84 ∷ 73 ∷ 86 ∷ 69 ∷ []
