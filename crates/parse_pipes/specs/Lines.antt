-- The code's answers as what document 01 says of a line of PIPES, PUMPS or VALVES; what the readers of pumps and of valves answer besides is in their crates. Assumes nothing.
use Rattle.scope.specs.declared.Reason.{Reason}
use Rattle.scope.specs.declared.Reason.TheVariants.{Missing}
use Rattle.std.specs.Prelude.{ℕ, ◌<◌, ◌≡◌, List, ◌∷◌, length, Err, Ok, Result}
use Rattle.leaf_fields.specs.Fields.{Name, fields_at, name_in, Fits}
use Rattle.scope.specs.declared.Pipe.{Pipe}
use Rattle.scope.specs.declared.Pump.{Pump}
use Rattle.scope.specs.declared.Valve.{Valve}
use Rattle.scope.specs.declared.LinkKind.{LinkKind}
use Rattle.scope.specs.declared.LinkKind.TheVariants as kind
use Rattle.scope.specs.Records as records
use Rattle.scope.specs.Values.{Read}
use Rattle.scope.specs.Links as scope
use Rattle.parse_fields.specs.Taking.{opt_in, MayFit, ReadAs}
use Rattle.parse_pipes.specs.declared.LinkNames.{LinkNames}
use Rattle.parse_pipes.specs.declared.LinkLine.{LinkLine}

-- ---- the id and the two nodes
pub record NamesFit (l : List ℕ) (n : LinkNames) : Type 0 where
  pub id : Fits l n.id
  pub start : Fits l n.start
  pub end : Fits l n.end

-- the first three of the fields; or there are fewer
abbrev pub NamesAs : List ℕ → List Name → Result LinkNames Reason → Type 0
NamesAs l fs (Ok n) = (fs ≡ name_in l n.id ∷ name_in l n.start ∷ name_in l n.end ∷ fields_at l n.end.end) × NamesFit l n
NamesAs l fs (Err why) = (why ≡ Missing) × (length fs < 3)

-- ---- what kind a link is
abbrev pub pipe_in : Pipe → records.Pipe
pipe_in p = record { long = p.long; diameter = p.diameter; roughness = p.roughness; minor = p.minor; status = p.status }

abbrev pub pump_in : List ℕ → Pump → records.Pump
pump_in l p = record { speed = p.speed; head = opt_in l p.head; power = p.power }

abbrev pub valve_in : List ℕ → Valve → records.Valve
valve_in l v = record { type = v.valve_type; diameter = v.diameter; setting = v.setting; minor = v.minor; curve = opt_in l v.curve }

abbrev pub kind_in : List ℕ → LinkKind → records.LinkKind
kind_in l (kind.Pipe p) = records.pipe (pipe_in p)
kind_in l (kind.Pump p) = records.pump (pump_in l p)
kind_in l (kind.Valve v) = records.valve (valve_in l v)

-- its curve, where it has one, lies in l
abbrev pub KindFits : List ℕ → LinkKind → Type 0
KindFits l (kind.Pipe p) = Unit
KindFits l (kind.Pump p) = MayFit l p.head
KindFits l (kind.Valve v) = MayFit l v.curve

-- ---- a line of PIPES or VALVES
abbrev pub line_in : List ℕ → LinkLine → scope.LinkFields
line_in l x = scope.link_fields (name_in l x.names.id) (name_in l x.names.start) (name_in l x.names.end) (kind_in l x.kind)

abbrev pub LinkAs : List ℕ → Read scope.LinkFields → Result LinkLine Reason → Type 0
LinkAs l = ReadAs (line_in l) (λ x. NamesFit l x.names × KindFits l x.kind)
