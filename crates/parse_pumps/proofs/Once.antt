-- No second answer fits: two answers of `read_pairs` that fit one line are the same, the place of the curve too. Assumes nothing.
use Rattle.scope.specs.declared.Pump.{Pump}
use Rattle.scope.specs.declared.Reason.{Reason}
use Rattle.std.specs.Prelude.{Result}
use Prim.Native.Nat.{ℕ}
use mathlib.Core.Path.{◌≡◌}
use mathlib.Core.List.{List}
use Rattle.scope.specs.Records as records
use Rattle.scope.specs.Values.{Read}
use Rattle.parse_fields.proofs.Once.{read-once}
use Rattle.parse_pipes.proofs.Once.{pump-same}
use Rattle.parse_pumps.specs.Lines.{PumpAs}

pub pump-once : (l : List ℕ) (o : Read records.Pump) (r s : Result Pump Reason) → PumpAs l o r → PumpAs l o s → r ≡ s
pump-once l = read-once (pump-same l)
