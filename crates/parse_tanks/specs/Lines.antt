-- A tank's curve, and the code's answer as that; what its whole line says is with parse_nodes. Assumes nothing.
use Rattle.leaf_fields.specs.declared.Span.{Span}
use Rattle.std.specs.Prelude.{ℕ, ◌≡◌, List, Option}
use Rattle.leaf_fields.specs.Fields.{Name}
use Rattle.parse_fields.specs.Taking.{opt_in, MayFit}

abbrev pub CurveAs : List ℕ → Option Name → Option Span → Type 0
CurveAs l c f = (c ≡ opt_in l f) × MayFit l f
