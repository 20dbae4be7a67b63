-- The code's answers as what scope says of a line of PATTERNS or DEMANDS. Assumes nothing.
use Rattle.scope.specs.declared.Reason.{Reason}
use Rattle.std.specs.Prelude.{ℕ, ◌≡◌, List, length, take, drop, Float, Err, Ok, Result}
use Rattle.leaf_fields.specs.Fields.{fields_at, name_in, Fits}
use Rattle.scope.specs.Values.{Read, good, bad}
use Rattle.scope.specs.Series.{multipliers_of, PatternFields, DemandFields}
use Rattle.parse_fields.specs.Taking.{opt_in, MayFit, ReadAs}
use Rattle.parse_series.specs.declared.PatternLine.{PatternLine}
use Rattle.parse_series.specs.declared.DemandLine.{DemandLine}

-- ---- a pattern's line
-- the multipliers xs of a line l: how many there are, the first of them, as many as a slice has room for, and the place where the others start
pub record Multipliers (l : List ℕ) (first : List Float) (count rest : ℕ) (xs : List Float) : Type 0 where
  pub long : length xs ≡ count
  pub kept : take count first ≡ take (length first) xs
  pub left : multipliers_of (fields_at l rest) ≡ good (drop (length first) xs)

-- the multipliers, or the reason of a refusal
abbrev pub CountedAs : List ℕ → List Float → Read (List Float) → Result (ℕ × ℕ) Reason → Type 0
CountedAs l first o (Ok (n, rest)) = (xs : List Float) × (o ≡ good xs) × Multipliers l first n rest xs
CountedAs l first o (Err why) = o ≡ bad why

-- the id and the multipliers
pub record PatternIs (l : List ℕ) (first : List Float) (o : Read PatternFields) (p : PatternLine) : Type 0 where
  pub values : List Float
  pub whole : o ≡ good (record { id = name_in l p.id; values = values })
  pub read : Multipliers l first p.count p.rest values
  pub fits : Fits l p.id

abbrev pub PatternAs : List ℕ → List Float → Read PatternFields → Result PatternLine Reason → Type 0
PatternAs l first o (Ok p) = PatternIs l first o p
PatternAs l first o (Err why) = o ≡ bad why

-- ---- a demand
abbrev pub demand_in : List ℕ → DemandLine → DemandFields
demand_in l d = record { id = name_in l d.id; base = d.base; pattern = opt_in l d.pattern }

abbrev pub DemandAs : List ℕ → Read DemandFields → Result DemandLine Reason → Type 0
DemandAs l = ReadAs (demand_in l) (λ d. Fits l d.id × MayFit l d.pattern)
