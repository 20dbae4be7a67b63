-- What was read of a line, in the text's own names. Assumes nothing.
use Rattle.parse_pairs.specs.declared.EmitterLine.{EmitterLine}
use Rattle.parse_pairs.specs.declared.PairLine.{PairLine}
use Rattle.scope.specs.declared.Reason.{Reason}
use Rattle.std.specs.Prelude.{Result}
use Prim.Native.Nat.{ℕ}
use mathlib.Core.List.{List}
use lib.ListN.{take}
use Rattle.scope.specs.Values.{Read, PairFields}
use Rattle.scope.specs.Nodes.{EmitterFields}
use Rattle.parse_fields.proofs.TextLaws.{fits-text, name-text, read-text}
use Rattle.parse_pairs.specs.Lines.{EmitterAs, PairAs}

module _ (text : List ℕ) (end : ℕ) where
  pub emitter-text : (o : Read EmitterFields) (r : Result EmitterLine Reason) → EmitterAs (take end text) o r → EmitterAs text o r
  emitter-text = read-text (λ e fit. (rw (name-text text end e.id fit), fits-text text end e.id fit))

  pub pair-text : (o : Read PairFields) (r : Result PairLine Reason) → PairAs (take end text) o r → PairAs text o r
  pair-text = read-text (λ p fit. (rw (name-text text end p.id fit), fits-text text end p.id fit))
