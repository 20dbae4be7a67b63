-- Document 01, "Sections read and sections passed over": which header opens which section, and the room of each table. Assumes nothing.
use Rattle.std.specs.Prelude.{ℕ, Bool, true, false, cond, List}
use Rattle.leaf_letters.specs.Words.{same}
use Rattle.scope.specs.declared.Section.{Section}
use Rattle.scope.specs.declared.Section.TheVariants.{Junctions, Reservoirs, Tanks, Pipes, Pumps, Valves, Curves, Patterns, Demands, Emitters, Coordinates, Times, Rules, Passed}
use Rattle.scope.specs.Spelling.{header_junctions, header_reservoirs, header_tanks, header_pipes, header_pumps, header_valves, header_curves, header_patterns}
use Rattle.scope.specs.Spelling.{header_demands, header_emitters, header_coordinates, header_times, header_rules}

-- "a header, matched exactly with its capitals": w is the trimmed line. TITLE, OPTIONS, STATUS, CONTROLS, VERTICES and an unknown header are passed over alike.
unfoldable pub section_of : List ℕ → Section
section_of w =
    cond (same w header_junctions) Junctions
    (cond (same w header_reservoirs) Reservoirs
    (cond (same w header_tanks) Tanks
    (cond (same w header_pipes) Pipes
    (cond (same w header_pumps) Pumps
    (cond (same w header_valves) Valves
    (cond (same w header_curves) Curves
    (cond (same w header_patterns) Patterns
    (cond (same w header_demands) Demands
    (cond (same w header_emitters) Emitters
    (cond (same w header_coordinates) Coordinates
    (cond (same w header_times) Times
    (cond (same w header_rules) Rules Passed))))))))))))

abbrev pub is_rules : Section → Bool
is_rules Junctions = false
is_rules Reservoirs = false
is_rules Tanks = false
is_rules Pipes = false
is_rules Pumps = false
is_rules Valves = false
is_rules Curves = false
is_rules Patterns = false
is_rules Demands = false
is_rules Emitters = false
is_rules Coordinates = false
is_rules Times = false
is_rules Rules = true
is_rules Passed = false

-- "Room"
abbrev pub room_text : ℕ
room_text = 65536

abbrev pub room_nodes : ℕ
room_nodes = 256

abbrev pub room_links : ℕ
room_links = 256

abbrev pub room_curves : ℕ
room_curves = 64

abbrev pub room_points : ℕ
room_points = 1024

abbrev pub room_patterns : ℕ
room_patterns = 64

abbrev pub room_multipliers : ℕ
room_multipliers = 2048

abbrev pub room_demands : ℕ
room_demands = 512

abbrev pub room_rules : ℕ
room_rules = 64

abbrev pub room_clauses : ℕ
room_clauses = 512

-- a class and a reason for each line
abbrev pub room_lines : ℕ
room_lines = 65536
