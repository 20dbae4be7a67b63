-- Names of a line are names of the text. Assumes nothing.
use Rattle.std.specs.Prelude.{Err, None, Ok, Option, Result, Some}
use Prim.Native.Nat.{ℕ, ◌≤◌}
use native.Mathlib.Omega.{arith}
use mathlib.Core.Path.{◌≡◌, refl, ap, ◌∙◌}
use mathlib.Core.List.{List}
use lib.ListN.{take, length-take}
use Rattle.leaf_fields.specs.Fields.{name_in, Fits}
use Rattle.leaf_fields.specs.declared.Span.{Span}
use Rattle.leaf_fields.proofs.FieldLaws.{part-take}
use Rattle.scope.specs.declared.Reason.{Reason}
use Rattle.scope.specs.Values.{Read, good}
use Rattle.parse_fields.specs.Taking.{opt_in, MayFit, ReadAs}

-- a line is the text up to its end
module _ (text : List ℕ) (end : ℕ) where
  pub fits-text : (s : Span) → Fits (take end text) s → Fits text s
  fits-text s h = record { some = h.some; inside = omega (arith, h.inside, length-take end text) }

  pub may-fit-text : (f : Option Span) → MayFit (take end text) f → MayFit text f
  may-fit-text (Some s) h = fits-text s h
  may-fit-text None h = tt

  pub name-text : (s : Span) → Fits (take end text) s → name_in (take end text) s ≡ name_in text s
  name-text s h = let k : s.end ≤ end = omega (arith, h.inside, length-take end text) in rw (part-take s.at s.end end text k)

  pub opt-text : (f : Option Span) → MayFit (take end text) f → opt_in (take end text) f ≡ opt_in text f
  opt-text (Some s) h = rw (name-text s h)
  opt-text None h = refl

-- what was read, in the text's own names
pub read-text : {A B : Type 0} {into also : B → A} {Placed There : B → Type 0} → ((b : B) → Placed b → (into b ≡ also b) × There b)
    → (o : Read A) (r : Result B Reason) → ReadAs into Placed o r → ReadAs also There o r
read-text same o (Ok b) (e, p) = let (q, there) = same b p in (e ∙ ap good q, there)
read-text same o (Err why) e = e
