-- What was read of a line of DEMANDS, in the text's own names. Assumes nothing.
use Rattle.parse_series.specs.declared.DemandLine.{DemandLine}
use Rattle.scope.specs.declared.Reason.{Reason}
use Rattle.std.specs.Prelude.{Result}
use Prim.Native.Nat.{ℕ}
use mathlib.Core.List.{List}
use lib.ListN.{take}
use Rattle.scope.specs.Values.{Read}
use Rattle.scope.specs.Series.{DemandFields}
use Rattle.parse_fields.proofs.TextLaws.{fits-text, may-fit-text, name-text, opt-text, read-text}
use Rattle.parse_series.specs.Lines.{DemandAs}

module _ (text : List ℕ) (end : ℕ) where
  pub demand-text : (o : Read DemandFields) (r : Result DemandLine Reason) → DemandAs (take end text) o r → DemandAs text o r
  demand-text = read-text (λ d (fit, may).
      (rw (name-text text end d.id fit, opt-text text end d.pattern may), (fits-text text end d.id fit, may-fit-text text end d.pattern may)))
