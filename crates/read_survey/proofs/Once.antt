-- No second answer fits: two answers that keep the promise of `read_survey` for one text and the same lent tables are one answer, and leave the same in every table. Assumes nothing.
use Prim.Native.Nat.{ℕ}
use mathlib.Core.Path.{◌≡◌, sym, ◌∙◌}
use mathlib.Core.List.{List}
use lib.Ieee.{Float}
use Rattle.scope.specs.declared.Survey.{Survey}
use Rattle.read_survey.proofs.RoomLaws.{Seen}

pub survey-once : (text w : List ℕ) (f : List Float) (c r : List ℕ) {a b : Survey} {w₁ w₂ c₁ c₂ r₁ r₂ : List ℕ} {f₁ f₂ : List Float}
    → Seen text w f c r a w₁ f₁ c₁ r₁ → Seen text w f c r b w₂ f₂ c₂ r₂ → (a ≡ b) × (w₁ ≡ w₂) × (f₁ ≡ f₂) × (c₁ ≡ c₂) × (r₁ ≡ r₂)
survey-once text w f c r p q = (p.0 ∙ sym q.0, p.1 ∙ sym q.1, p.2 ∙ sym q.2, p.3 ∙ sym q.3, p.4 ∙ sym q.4)
