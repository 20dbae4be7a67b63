-- The code's answers as what document 01 says of the pairs of a pump. Assumes nothing.
use Rattle.scope.specs.declared.Pump.{Pump}
use Rattle.scope.specs.declared.Reason.{Reason}
use Rattle.std.specs.Prelude.{ℕ, List, [], Float, Err, Ok, Result}
use Rattle.scope.specs.Records as records
use Rattle.scope.specs.Values.{Read, Took, took, refused}
use Rattle.parse_fields.specs.Taking.{MayFit, ReadAs}
use Rattle.parse_pipes.specs.Lines.{pump_in}

-- the number of a value, after which no field is looked for
abbrev pub taken : Result Float Reason → Took Float
taken (Ok x) = took x []
taken (Err why) = refused why

abbrev pub PumpAs : List ℕ → Read records.Pump → Result Pump Reason → Type 0
PumpAs l = ReadAs (pump_in l) (λ p. MayFit l p.head)
