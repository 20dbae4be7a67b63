-- No second answer fits: two answers that fit one line are the same, where what was read is told by what it says and by where it lies. Assumes nothing.
use Rattle.std.specs.Prelude.{Err, Ok, Result}
use mathlib.Core.Path.{◌≡◌, ap}
use Rattle.scope.specs.declared.Reason.{Reason}
use Rattle.scope.specs.Values.{Read}
use Rattle.parse_fields.specs.Taking.{ReadAs}

module _ {A B : Type 0} {into : B → A} {Placed : B → Type 0} (same : (a b : B) → Placed a → Placed b → into a ≡ into b → a ≡ b) where
  pub read-once : (o : Read A) (r s : Result B Reason) → ReadAs into Placed o r → ReadAs into Placed o s → r ≡ s
  read-once o (Ok a) (Ok b) (e, n) (f, m) = ap Ok (same a b n m (cc))
  read-once o (Ok a) (Err why) (e, n) f = cc
  read-once o (Err why) (Ok b) e (f, m) = cc
  read-once o (Err why) (Err also) e f = cc
