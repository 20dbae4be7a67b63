-- A whole record by its words a and its numbers b, as the code reads it: only laws speak of it. Assumes nothing.
use Prim.Native.Nat.{ℕ, ◌+◌}
use lib.Dec.{eqb}
use lib.Ieee.{Float}
use Rattle.scope.specs.Layout.{id_place, id_length, name_length, demand_node, demand_own, demand_name, demand_index, point_x, point_y}
use Rattle.stored_words.specs.Words.{span_from, field_from, found_from}
use Rattle.stored_series.specs.declared.Curve as curveOut
use Rattle.stored_series.specs.declared.Pattern as patternOut
use Rattle.stored_series.specs.declared.Point as pointOut
use Rattle.stored_series.specs.declared.Multiplier as multiplierOut
use Rattle.stored_series.specs.declared.Demand as demandOut

abbrev pub curve_by : (ℕ → ℕ) → curveOut.Curve
curve_by a = record { id = span_from (a id_place) (a id_length) }

abbrev pub pattern_by : (ℕ → ℕ) → patternOut.Pattern
pattern_by a = record { id = span_from (a id_place) (a id_length) }

abbrev pub point_by : ℕ → (ℕ → Float) → pointOut.Point
point_by curve b = record { curve = curve; x = b point_x; y = b point_y }

abbrev pub multiplier_by : ℕ → Float → multiplierOut.Multiplier
multiplier_by pattern x = record { pattern = pattern; value = x }

abbrev pub demand_by : (ℕ → ℕ) → Float → demandOut.Demand
demand_by a x = record { node = a demand_node; own = eqb (a demand_own) 1; base = x; pattern = field_from (a demand_name) (a (demand_name + name_length)); index = found_from (a demand_index) }
