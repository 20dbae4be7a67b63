-- What a line says in the text's own names, and what a line of each section does. Assumes nothing.
use Rattle.std.specs.Prelude.{Ok, Result, IsErr, IsErrAnd}
use lib.Ieee.{Float}
use Prim.Native.Nat.{ℕ, ◌<◌}
use mathlib.Core.Path.{◌≡◌, refl, sym, ap, ◌∙◌}
use mathlib.Core.List.{List, ◌∷◌}
use lib.ListN.{length, take}
use Rattle.leaf_fields.specs.Fields.{Name, name_in}
use Rattle.scope.specs.declared.Pump.{Pump}
use Rattle.scope.specs.declared.LinkKind.{LinkKind}
use Rattle.scope.specs.declared.LinkKind.TheVariants as kind
use Rattle.scope.specs.declared.Reason.{Reason}
use Rattle.scope.specs.declared.Reason.TheVariants.{Missing}
use Rattle.scope.specs.Records.{Network}
use Rattle.scope.specs.Records as records
use Rattle.scope.specs.Values.{Read, good, bad}
use Rattle.scope.specs.Links.{LinkFields, pump_step}
use Rattle.parse_fields.specs.Taking.{MayFit}
use Rattle.scope.specs.declared.Counts.{Counts}
use Rattle.table_rows.specs.Holding.{After}
use Rattle.parse_fields.proofs.TakeLaws.{handed-on}
use Rattle.parse_fields.proofs.TextLaws.{name-text, opt-text}
use Rattle.parse_pipes.specs.Lines.{NamesFit, pump_in, kind_in, KindFits, line_in, LinkAs}
use Rattle.parse_pipes.specs.declared.LinkNames.{LinkNames}
use Rattle.parse_pipes.specs.declared.LinkLine.{LinkLine}
use Rattle.parse_pipes.proofs.NameLaws.{few}

-- a line is the text up to its end
module _ (text : List ℕ) (end : ℕ) where
  pub kind-text : (k : LinkKind) → KindFits (take end text) k → kind_in (take end text) k ≡ kind_in text k
  kind-text (kind.Pipe p) h = refl
  kind-text (kind.Pump p) h = rw (opt-text text end p.head h)
  kind-text (kind.Valve v) h = rw (opt-text text end v.curve h)

  pub names-text : {fs gs : List Name} (n : LinkNames) → (fs ≡ name_in (take end text) n.id ∷ name_in (take end text) n.start ∷ name_in (take end text) n.end ∷ gs) × NamesFit (take end text) n
      → fs ≡ name_in text n.id ∷ name_in text n.start ∷ name_in text n.end ∷ gs
  names-text n (e, f) = e ∙ rw (name-text text end n.id f.id, name-text text end n.start f.start, name-text text end n.end f.end)

  pub pump-text : {o : Read records.Pump} (p : Pump) → (o ≡ good (pump_in (take end text) p)) × MayFit (take end text) p.head → o ≡ good (pump_in text p)
  pump-text p (e, f) = e ∙ rw (opt-text text end p.head f)

  -- a line of PIPES or VALVES, as it was read
  pub line-text : {o : Read LinkFields} (x : LinkLine) → LinkAs (take end text) o (Ok x) → o ≡ good (line_in text x)
  line-text x (e, (n, k)) =
      e ∙ rw (name-text text end x.names.id n.id, name-text text end x.names.start n.start, name-text text end x.names.end n.end, kind-text x.kind k)

-- a pump's line has fewer than three fields
pub few-pump : (fs : List Name) (m : Network) {why : Reason} → (why ≡ Missing) × (length fs < 3) → pump_step fs m ≡ bad why
unfolding pump_step
few-pump fs m (e, h) = few _ fs h ∙ ap bad (sym e)

-- a line that is refused changes nothing
pub line-refused : (text w : List ℕ) (f : List Float) {o : Read Network} {why : Reason} (r : Result Counts Reason) → o ≡ bad why → IsErr r × IsErrAnd r (λ x. x ≡ why) → After text o r w f w f
line-refused text w f r e h = rw e (handed-on h, refl, refl)
