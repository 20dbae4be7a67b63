-- Document 01, "Records by section": pipes, pumps and valves. Assumes nothing.
use Rattle.std.specs.Prelude.{ℕ, false, cond, List, [], ◌∷◌, ◌++◌, length, pos, ltb, Float, None, Option, Some}
use Rattle.std.specs.Float.{fin}
use Rattle.leaf_decimals.specs.Numbers.{number_of}
use Rattle.leaf_fields.specs.Fields.{Name}
use Rattle.leaf_letters.specs.Words.{same, spelled}
use Rattle.scope.specs.declared.Reason.TheVariants.{Used, NotFound, UnknownWord, NoRoom}
use Rattle.scope.specs.declared.PipeStatus.{PipeStatus}
use Rattle.scope.specs.declared.PipeStatus.TheVariants.{Open, Closed, CheckValve}
use Rattle.scope.specs.declared.ValveType.{ValveType}
use Rattle.scope.specs.declared.ValveType.TheVariants.{Gpv, Tcv, Fcv, Prv, Psv, Pbv, Pcv}
use Rattle.scope.specs.Spelling.{word_cv, word_closed, word_speed, word_head, word_power, word_gpv, word_tcv, word_fcv, word_prv, word_psv, word_pbv, word_pcv}
use Rattle.scope.specs.Sections.{room_links}
use Rattle.scope.specs.Records.{Network, Link, LinkKind, pipe, pump, valve, Pump, zero_f, with_links, node_ids, link_ids, lookup}
use Rattle.scope.specs.Values.{Read, good, bad, on_read, Took, took, refused, on_took, on_found, name_from, optional_from, number_from, as_swallowed, swallowed_from}

-- ---- any link
-- the places of the two nodes
pub record Ends : Type 0 where
  pub start : ℕ
  pub end : ℕ

-- 4 where the start or the end is no node
unfoldable pub ends_of : Name → Name → Network → Read Ends
ends_of start end m =
    on_found (lookup (node_ids m) start.letters) (λ a.
    on_found (lookup (node_ids m) end.letters) (λ b. good (record { start = a; end = b }))
    (bad NotFound))
    (bad NotFound)

abbrev pub new_link : Name → Ends → LinkKind → Link
new_link id e k = record { id = id; start = e.start; end = e.end; kind = k }

abbrev pub with_link : Name → Ends → LinkKind → Network → Network
with_link id e k m = with_links (m.links ++ (new_link id e k ∷ [])) m

-- "here a used id is 3, else the link is appended"; 23 where the links are full
unfoldable pub add_link : Name → Ends → LinkKind → Network → Read Network
add_link id e k m =
    on_found (lookup (link_ids m) id.letters) (λ i. bad Used)
    (cond (ltb (length m.links) room_links) (good (with_link id e k m)) (bad NoRoom))

-- a link's line: its id, its two nodes, and what kind it is
pub record LinkFields : Type 0 where
  pub id : Name
  pub start : Name
  pub end : Name
  pub kind : LinkKind

abbrev pub link_fields : Name → Name → Name → LinkKind → LinkFields
link_fields id start end k = record { id = id; start = start; end = end; kind = k }

-- "Pipes and valves look nodes up after all fields"
unfoldable pub store_link : LinkFields → Network → Read Network
store_link l m = on_read (ends_of l.start l.end m) (λ e. add_link l.id e l.kind m)

-- ---- "Pipe: id, two nodes, length, diameter, roughness, minor loss, status (CV or CLOSED in any case, else open)."
abbrev pub status_in : List Name → PipeStatus
status_in [] = Open
status_in (f ∷ fs) = cond (spelled f.letters word_cv) CheckValve (cond (spelled f.letters word_closed) Closed Open)

unfoldable pub pipe_of : List Name → Read LinkFields
pipe_of fs =
    on_took (name_from fs) (λ id fs.
    on_took (name_from fs) (λ start fs.
    on_took (name_from fs) (λ end fs.
    on_took (number_from fs) (λ long fs.
    on_took (number_from fs) (λ diameter fs.
    on_took (number_from fs) (λ roughness fs.
    on_took (swallowed_from zero_f fs) (λ minor fs.
    good (link_fields id start end (pipe (record { long = long; diameter = diameter; roughness = roughness; minor = minor; status = status_in fs }))))))))))

unfoldable pub pipe_step : List Name → Network → Read Network
pipe_step fs m = on_read (pipe_of fs) (λ l. store_link l m)

-- ---- "Pump: id, two nodes, then pairs under SPEED (1 if malformed or absent), HEAD, POWER (0 likewise); an unknown word consumes its value too; a lone last word is ignored."
abbrev pub one_f : Float
one_f = fin false 1 (pos 0)

abbrev pub no_pump : Pump
no_pump = record { speed = one_f; head = None; power = zero_f }

abbrev pub with_speed : Pump → Took Float → Read Pump
with_speed p (took x fs) = good (record { speed = x; head = p.head; power = p.power })
with_speed p (refused r) = bad r

abbrev pub with_power : Pump → Took Float → Read Pump
with_power p (took x fs) = good (record { speed = p.speed; head = p.head; power = x })
with_power p (refused r) = bad r

abbrev pub with_head : Pump → Name → Read Pump
with_head p v = good (record { speed = p.speed; head = Some v; power = p.power })

unfoldable pub with_pair : Pump → Name → Name → Read Pump
with_pair p w v =
    cond (same w.letters word_speed) (with_speed p (as_swallowed one_f (number_of v.letters) []))
    (cond (same w.letters word_head) (with_head p v)
    (cond (same w.letters word_power) (with_power p (as_swallowed zero_f (number_of v.letters) []))
    (good p)))

unfoldable pub pump_from : Pump → List Name → Read Pump
pump_from p [] = good p
pump_from p (w ∷ []) = good p
pump_from p (w ∷ v ∷ fs) = on_read (with_pair p w v) (λ q. pump_from q fs)

-- "pumps before the pairs"
unfoldable pub pump_step : List Name → Network → Read Network
pump_step fs m =
    on_took (name_from fs) (λ id fs.
    on_took (name_from fs) (λ start fs.
    on_took (name_from fs) (λ end fs.
    on_read (ends_of start end m) (λ e.
    on_read (pump_from no_pump fs) (λ p.
    add_link id e (pump p) m)))))

-- ---- "Valve: id, two nodes, diameter, type in any case, setting (for GPV a curve), minor loss, a curve that overrides."
unfoldable pub type_of : List ℕ → Read ValveType
type_of w =
    cond (spelled w word_gpv) (good Gpv)
    (cond (spelled w word_tcv) (good Tcv)
    (cond (spelled w word_fcv) (good Fcv)
    (cond (spelled w word_prv) (good Prv)
    (cond (spelled w word_psv) (good Psv)
    (cond (spelled w word_pbv) (good Pbv)
    (cond (spelled w word_pcv) (good Pcv) (bad UnknownWord)))))))

-- the setting, and the curve that stands in its place
pub record Setting : Type 0 where
  pub value : Float
  pub curve : Option Name

abbrev pub setting_took : Took Float → Took Setting
setting_took (took x fs) = took (record { value = x; curve = None }) fs
setting_took (refused r) = refused r

abbrev pub curve_took : Took (Option Name) → Took Setting
curve_took (took c fs) = took (record { value = zero_f; curve = c }) fs
curve_took (refused r) = refused r

unfoldable pub setting_from : ValveType → List Name → Took Setting
setting_from Gpv fs = curve_took (optional_from fs)
setting_from Tcv fs = setting_took (swallowed_from zero_f fs)
setting_from Fcv fs = setting_took (swallowed_from zero_f fs)
setting_from Prv fs = setting_took (swallowed_from zero_f fs)
setting_from Psv fs = setting_took (swallowed_from zero_f fs)
setting_from Pbv fs = setting_took (swallowed_from zero_f fs)
setting_from Pcv fs = setting_took (swallowed_from zero_f fs)

abbrev pub overriding : List Name → Option Name → Option Name
overriding [] c = c
overriding (f ∷ fs) c = Some f

unfoldable pub valve_of : List Name → Read LinkFields
valve_of fs =
    on_took (name_from fs) (λ id fs.
    on_took (name_from fs) (λ start fs.
    on_took (name_from fs) (λ end fs.
    on_took (number_from fs) (λ diameter fs.
    on_took (name_from fs) (λ word fs.
    on_read (type_of word.letters) (λ type.
    on_took (setting_from type fs) (λ setting fs.
    on_took (swallowed_from zero_f fs) (λ minor fs.
    good (link_fields id start end (valve (record {
      type = type;
      diameter = diameter;
      setting = setting.value;
      minor = minor;
      curve = overriding fs setting.curve;
    })))))))))))

unfoldable pub valve_step : List Name → Network → Read Network
valve_step fs m = on_read (valve_of fs) (λ l. store_link l m)
