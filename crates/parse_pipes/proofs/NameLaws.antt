-- The three names with which a link's line starts, and lines that lack one. Assumes nothing.
use Prim.Native.Nat.{◌<◌}
use native.Mathlib.Omega.{arith}
use mathlib.Core.Path.{◌≡◌, refl}
use mathlib.Core.List.{List, [], ◌∷◌}
use lib.ListN.{length}
use Rattle.leaf_fields.specs.Fields.{Name}
use Rattle.scope.specs.declared.Reason.TheVariants.{Missing}
use Rattle.scope.specs.Values.{Read, bad, on_took, name_from}

-- fewer than three fields, whatever is made of three
pub few : {B : Type 0} (k : Name → Name → Name → List Name → Read B) (fs : List Name) → length fs < 3
    → on_took (name_from fs) (λ id fs. on_took (name_from fs) (λ start fs. on_took (name_from fs) (λ end fs. k id start end fs))) ≡ bad Missing
few k [] h = refl
few k (a ∷ []) h = refl
few k (a ∷ b ∷ []) h = refl
few k (a ∷ b ∷ c ∷ fs) h = absurd (omega arith)
