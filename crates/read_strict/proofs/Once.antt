-- No second answer fits: two answers that keep the promise of `read_strict` for one text and the same lent tables are one answer, and leave the same in every table. Assumes nothing.
use Prim.Native.Nat.{ℕ}
use mathlib.Core.Path.{◌≡◌, sym, ◌∙◌}
use mathlib.Core.List.{List}
use lib.Ieee.{Float}
use Rattle.scope.specs.declared.Answer.{Answer}
use Rattle.read_strict.proofs.StrictLaws.{Read}

pub strict-once : (text w : List ℕ) (f : List Float) {a b : Answer} {w₁ w₂ : List ℕ} {f₁ f₂ : List Float}
    → Read text w f a w₁ f₁ → Read text w f b w₂ f₂ → (a ≡ b) × (w₁ ≡ w₂) × (f₁ ≡ f₂)
strict-once text w f p q = (p.0 ∙ sym q.0, p.1 ∙ sym q.1, p.2 ∙ sym q.2)
