-- What must be there, as the id that a line begins with. Assumes nothing.
use Rattle.std.specs.Prelude.{◌≡◌, Err, Ok, Option, Result, Some, None, ok_or}
use Rattle.std.specs.Prelude.{IsErr, IsErrAnd}
use Prim.Native.Nat.{ℕ}
use mathlib.Core.Path.{ap, refl, ◌∙◌}
use mathlib.Core.List.{List}
use Rattle.leaf_fields.specs.declared.Span.{Span}
use Rattle.leaf_fields.specs.Fields.{Next, Fits, fields_at, name_in}
use Rattle.scope.specs.declared.Reason.{Reason}
use Rattle.scope.specs.declared.Reason.TheVariants.{Missing}
use Rattle.parse_fields.proofs.TakeLaws.{handed-on}
use Rattle.scope.specs.Values.{took, refused, name_from}

module _ {l : List ℕ} {at : ℕ} where
  pub named : (f : Option Span) → Next l at f → {s : Span} → Ok s ≡ ok_or f Missing → (name_from (fields_at l at) ≡ took (name_in l s) (fields_at l s.end)) × Fits l s
  named (Some t) n {s} e = let is : t ≡ s = cc in let (k, fit) = n.taken s (ap Some is) in (ap name_from k, fit)
  named None n {s} e = absurd (cc)

  pub unnamed : (f : Option Span) → Next l at f → {why : Reason} → Err why ≡ ok_or f Missing → name_from (fields_at l at) ≡ refused why
  unnamed (Some t) n {why} e = absurd (cc)
  unnamed None n {why} e = let is : Missing ≡ why = cc in ap name_from (n.nothing refl) ∙ ap refused is

-- what `?` hands on where there is nothing
pub handed-none : {A B : Type 0} (o : Option A) (e : Reason) {why : Reason} {r : Result B Reason} → Err why ≡ ok_or o e → IsErr r × IsErrAnd r (λ x. x ≡ why) → r ≡ Err e
handed-none (Some a) e k h = absurd (cc)
handed-none None e {why} k h = let is : why ≡ e = cc in handed-on h ∙ ap Err is
