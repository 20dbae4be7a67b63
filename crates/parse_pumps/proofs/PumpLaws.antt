-- The pairs of a pump. Assumes nothing.
use Prim.Native.Nat.{ℕ}
use mathlib.Core.Path.{◌≡◌, ◌∙◌}
use mathlib.Core.List.{List, ◌∷◌}
use Rattle.leaf_fields.specs.Fields.{Name}
use Rattle.scope.specs.declared.Reason.{Reason}
use Rattle.scope.specs.Values.{good, bad}
use Rattle.scope.specs.Links.{no_pump, with_pair, pump_from}
use Rattle.parse_fields.specs.Taking.{MayFit}
use Rattle.parse_pipes.specs.Lines.{pump_in}
use Rattle.scope.specs.declared.Pump.{Pump}

-- how far the loop has come: the pump of all the fields is the pump of those that are left, from what was read
pub record Pairing (l : List ℕ) (fs gs : List Name) (p : Pump) : Type 0 where
  pub whole : pump_from no_pump fs ≡ pump_from (pump_in l p) gs
  pub fits : MayFit l p.head

module _ {l : List ℕ} {fs gs hs js : List Name} {p : Pump} (g : Pairing l fs gs p) {w v : Name} (one : gs ≡ w ∷ hs) (two : hs ≡ v ∷ js) where
  pub one_more : (q : Pump) → (with_pair (pump_in l p) w v ≡ good (pump_in l q)) × MayFit l q.head → Pairing l fs js q
  unfolding pump_from
  one_more q (e, k) = record { whole = g.whole ∙ rw (one, two, e); fits = k }

  pub pair-refused : {why : Reason} → with_pair (pump_in l p) w v ≡ bad why → pump_from no_pump fs ≡ bad why
  unfolding pump_from
  pair-refused e = g.whole ∙ rw (one, two, e)
