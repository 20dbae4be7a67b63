-- The code's answers as what scope says of a line of EMITTERS, COORDINATES or CURVES. Assumes nothing.
use Rattle.scope.specs.declared.Reason.{Reason}
use Rattle.std.specs.Prelude.{ℕ, List, Result}
use Rattle.leaf_fields.specs.Fields.{name_in, Fits}
use Rattle.scope.specs.Values.{Read, PairFields}
use Rattle.scope.specs.Nodes.{EmitterFields}
use Rattle.parse_fields.specs.Taking.{ReadAs}
use Rattle.parse_pairs.specs.declared.EmitterLine.{EmitterLine}
use Rattle.parse_pairs.specs.declared.PairLine.{PairLine}

abbrev pub emitter_in : List ℕ → EmitterLine → EmitterFields
emitter_in l e = record { id = name_in l e.id; coefficient = e.coefficient }

abbrev pub EmitterAs : List ℕ → Read EmitterFields → Result EmitterLine Reason → Type 0
EmitterAs l = ReadAs (emitter_in l) (λ e. Fits l e.id)

-- ---- an id and two numbers
abbrev pub pair_in : List ℕ → PairLine → PairFields
pair_in l p = record { id = name_in l p.id; x = p.x; y = p.y }

abbrev pub PairAs : List ℕ → Read PairFields → Result PairLine Reason → Type 0
PairAs l = ReadAs (pair_in l) (λ p. Fits l p.id)
