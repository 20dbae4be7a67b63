-- What the sketch with one line more tells of the line. Assumes nothing.
use Rattle.std.specs.Prelude.{Err, Ok, Result}
use Prim.Native.Nat.{ℕ}
use native.Mathlib.Omega.{arith}
use mathlib.Core.Path.{◌≡◌, refl, sym, subst}
use mathlib.Core.List.{List}
use Rattle.scope.specs.declared.Reason.{Reason}
use Rattle.scope.specs.Values.{Read, good, bad, on_read}
use Rattle.scope.specs.Rules.{Draft}
use Rattle.rule_lines.specs.declared.Saying.{Saying}
use Rattle.rule_lines.specs.Lines.{with_said, said_in, said_read}
use Rattle.rule_groups.specs.declared.Sketch.{Sketch}
use Rattle.rule_groups.specs.Sketches.{Sketched, SketchAs}

module _ (text : List ℕ) (d : Draft) where
  -- there is a sketch: so the line says something
  pub seen-one : (r : Result Saying Reason) (v : Result Sketch Reason) → SketchAs text (on_read (said_read text r) (λ s. good (with_said s d))) v → (next : Sketch) → v ≡ Ok next
      → (said : Saying) × (r ≡ Ok said) × Sketched text (with_said (said_in text said) d) next
  seen-one (Ok said) v h next e =
      let k : SketchAs text (good (with_said (said_in text said) d)) (Ok next) = subst (λ (x : Result Sketch Reason). SketchAs text (good (with_said (said_in text said) d)) x) e h in
      let z : with_said (said_in text said) d ≡ k.0 = cc in
      (said, refl, subst (λ (x : Draft). Sketched text x next) (sym z) k.2)
  seen-one (Err why) v h next e =
      let k : SketchAs text (bad why) (Ok next) = subst (λ (x : Result Sketch Reason). SketchAs text (bad why) x) e h in
      absurd (let z : ◌≡◌ {A = ℕ} 0 1 = cc in omega arith)

  -- there is none: so the line is refused, for that reason
  pub seen-none : (r : Result Saying Reason) (v : Result Sketch Reason) → SketchAs text (on_read (said_read text r) (λ s. good (with_said s d))) v → (why : Reason) → v ≡ Err why → r ≡ Err why
  seen-none (Ok said) v h why e =
      let k : SketchAs text (good (with_said (said_in text said) d)) (Err why) = subst (λ (x : Result Sketch Reason). SketchAs text (good (with_said (said_in text said) d)) x) e h in
      absurd (let z : ◌≡◌ {A = ℕ} 0 1 = cc in omega arith)
  seen-none (Err x) v h why e =
      let k : SketchAs text (bad x) (Err why) = subst (λ (y : Result Sketch Reason). SketchAs text (bad x) y) e h in cc
