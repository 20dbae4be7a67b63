-- Which sections are passed over; and the end of scope's `section_of` in the three parts in which the code has it: `section_of` is its tests of the nodes' sections and
-- then `link_section`. Assumes nothing.
use Rattle.std.specs.Prelude.{ℕ, Bool, true, false, cond, List}
use Rattle.leaf_letters.specs.Words.{same}
use Rattle.scope.specs.declared.Section.{Section}
use Rattle.scope.specs.declared.Section.TheVariants.{Junctions, Reservoirs, Tanks, Pipes, Pumps, Valves, Curves, Patterns, Demands, Emitters, Coordinates, Times, Rules, Passed}
use Rattle.scope.specs.Spelling.{header_pipes, header_pumps, header_valves, header_curves, header_patterns, header_demands, header_emitters, header_coordinates, header_times, header_rules}

-- the sections whose lines are passed over
abbrev pub passes_over : Section → Bool
passes_over Junctions = false
passes_over Reservoirs = false
passes_over Tanks = false
passes_over Pipes = false
passes_over Pumps = false
passes_over Valves = false
passes_over Curves = false
passes_over Patterns = false
passes_over Demands = false
passes_over Emitters = false
passes_over Coordinates = false
passes_over Times = false
passes_over Rules = false
passes_over Passed = true

unfoldable pub other_section : List ℕ → Section
other_section w =
    cond (same w header_emitters) Emitters
    (cond (same w header_coordinates) Coordinates
    (cond (same w header_times) Times
    (cond (same w header_rules) Rules Passed)))

unfoldable pub series_section : List ℕ → Section
series_section w =
    cond (same w header_curves) Curves
    (cond (same w header_patterns) Patterns
    (cond (same w header_demands) Demands (other_section w)))

unfoldable pub link_section : List ℕ → Section
link_section w =
    cond (same w header_pipes) Pipes
    (cond (same w header_pumps) Pumps
    (cond (same w header_valves) Valves (series_section w)))
