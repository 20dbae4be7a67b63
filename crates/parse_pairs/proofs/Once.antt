-- No second answer fits: two answers of `read_emitter`, or of `read_pair`, that fit one line are the same, the place of the id too. Assumes nothing.
use Rattle.parse_pairs.specs.declared.PairLine.{PairLine}
use Rattle.parse_pairs.specs.declared.EmitterLine.{EmitterLine}
use Rattle.scope.specs.declared.Reason.{Reason}
use Rattle.std.specs.Prelude.{Result}
use Prim.Native.Nat.{ℕ}
use mathlib.Core.Path.{◌≡◌, ap}
use mathlib.Core.List.{List}
use Rattle.leaf_fields.proofs.FieldLaws.{span-once}
use Rattle.scope.specs.Values.{Read, PairFields}
use Rattle.scope.specs.Nodes.{EmitterFields}
use Rattle.parse_fields.proofs.Once.{read-once}
use Rattle.parse_pairs.specs.Lines.{EmitterAs, PairAs}

pub emitter-once : (l : List ℕ) (o : Read EmitterFields) (r s : Result EmitterLine Reason) → EmitterAs l o r → EmitterAs l o s → r ≡ s
emitter-once l = read-once (λ x y k j h. λ i. record { id = span-once l k j (ap EmitterFields.id h) i; coefficient = (h i).coefficient })

pub pair-once : (l : List ℕ) (o : Read PairFields) (r s : Result PairLine Reason) → PairAs l o r → PairAs l o s → r ≡ s
pair-once l = read-once (λ p q k j h. λ i. record { id = span-once l k j (ap PairFields.id h) i; x = (h i).x; y = (h i).y })
