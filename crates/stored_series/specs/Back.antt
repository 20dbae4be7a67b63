-- A curve, point, pattern, multiplier or demand read back from the tables: what the code has for each record of the network. Assumes nothing.
use Rattle.leaf_fields.specs.Fields.{Name}
use Rattle.scope.specs.Records as R
use Rattle.stored_words.specs.Words.{name_span, name_field, place_found}
use Rattle.stored_series.specs.declared.Curve as curveOut
use Rattle.stored_series.specs.declared.Pattern as patternOut
use Rattle.stored_series.specs.declared.Point as pointOut
use Rattle.stored_series.specs.declared.Multiplier as multiplierOut
use Rattle.stored_series.specs.declared.Demand as demandOut

-- ---- a record of the network, as the code has it
abbrev pub curve_back : Name → curveOut.Curve
curve_back n = record { id = name_span n }

abbrev pub pattern_back : Name → patternOut.Pattern
pattern_back n = record { id = name_span n }

abbrev pub point_back : R.Point → pointOut.Point
point_back p = record { curve = p.curve; x = p.x; y = p.y }

abbrev pub multiplier_back : R.Multiplier → multiplierOut.Multiplier
multiplier_back p = record { pattern = p.pattern; value = p.value }

abbrev pub demand_back : R.Demand → demandOut.Demand
demand_back d = record { node = d.node; own = d.own; base = d.base; pattern = name_field d.pattern; index = place_found d.index }
