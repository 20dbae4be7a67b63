-- Pipes, pumps and valves are read alike where places are forgotten. Assumes nothing.
use Rattle.leaf_decimals.specs.declared.NumberError.{NumberError}
use Rattle.std.specs.Prelude.{Err, Ok, Result, Option}
use Prim.Native.Nat.{ℕ}
use mathlib.Core.Path.{◌≡◌, refl, ap, sym}
use mathlib.Core.List.{List, [], ◌∷◌, map, map-append}
use lib.ListN.{length, length-map}
use lib.Dec.{ltb}
use lib.Ieee.{Float}
use Rattle.leaf_decimals.specs.Numbers.{number_of}
use Rattle.leaf_decimals.specs.declared.NumberError.TheVariants as number
use Rattle.leaf_fields.specs.Fields.{Name}
use Rattle.leaf_letters.specs.Words.{same}
use Rattle.scope.specs.declared.ValveType.{ValveType}
use Rattle.scope.specs.declared.ValveType.TheVariants.{Gpv, Tcv, Fcv, Prv, Psv, Pbv, Pcv}
use Rattle.scope.specs.Spelling.{word_speed, word_head, word_power}
use Rattle.scope.specs.Sections.{room_links}
use Rattle.scope.specs.Records.{Network, LinkKind, pipe, pump, valve, Pump, zero_f, with_links, link_ids, lookup}
use Rattle.scope.specs.Values.{Took, as_swallowed}
use Rattle.scope.specs.Links.{Ends, new_link, ends_of, add_link, LinkFields, link_fields, store_link, status_in, pipe_of, pipe_step, one_f, no_pump, with_speed}
use Rattle.scope.specs.Links.{with_power, with_pair, pump_from, pump_step, type_of, Setting, setting_took, curve_took, setting_from, overriding, valve_of}
use Rattle.scope.specs.Links.{valve_step}
use Rattle.scope.specs.Bare.{forget, forget_maybe, forget_link, forget_link_kind, bare}
use Rattle.scope.proofs.Carry.{ReadLike, goods, bads, TookLike, tooks, refuseds, itself, same_read, on-took, on_read-law, on-found, on-cond, on-if, name}
use Rattle.scope.proofs.Carry.{optional, number-from, swallowed, lookup-ids}
use Rattle.scope.proofs.NodeLaws.{node-found}

-- ---- any link
pub link-found : (m : Network) (w : List ℕ) → lookup (link_ids m) w ≡ lookup (link_ids (bare m)) w
link-found m w = lookup-ids (λ l. l.id) forget_link (λ l. refl) m.links w

links-long : (m : Network) → length m.links ≡ length (bare m).links
links-long m = sym (length-map m.links forget_link)

ends_of-law : (start end : Name) (m : Network) → ReadLike itself (ends_of start end m) (ends_of (forget start) (forget end) (bare m))
unfolding ends_of
ends_of-law start end m = on-found _ (node-found m start.letters) (λ a. on-found _ (node-found m end.letters) (λ b. goods refl) bads) bads

add-link : (id : Name) (e : Ends) (k : LinkKind) (m : Network) → ReadLike bare (add_link id e k m) (add_link (forget id) e (forget_link_kind k) (bare m))
unfolding add_link
add-link id e k m =
    on-found _ (link-found m id.letters) (λ i. bads)
    (on-cond _ (ap (λ a. ltb a room_links) (links-long m))
    (goods (ap (λ x. with_links x (bare m)) (map-append forget_link m.links (new_link id e k ∷ [])))) bads)

abbrev forget_fields : LinkFields → LinkFields
forget_fields l = link_fields (forget l.id) (forget l.start) (forget l.end) (forget_link_kind l.kind)

store-link : (l : LinkFields) (m : Network) → ReadLike bare (store_link l m) (store_link (forget_fields l) (bare m))
unfolding store_link
store-link l m = on_read-law _ (ends_of-law l.start l.end m) (λ e. add-link l.id e l.kind m)

-- ---- pipes
status-in : (fs : List Name) → status_in fs ≡ status_in (map forget fs)
status-in [] = refl
status-in (f ∷ fs) = refl

pipe-of : (fs : List Name) → ReadLike forget_fields (pipe_of fs) (pipe_of (map forget fs))
unfolding pipe_of
pipe-of fs =
    on-took _ (name fs) (λ id fs.
    on-took _ (name fs) (λ start fs.
    on-took _ (name fs) (λ end fs.
    on-took _ (number-from fs) (λ long fs.
    on-took _ (number-from fs) (λ diameter fs.
    on-took _ (number-from fs) (λ roughness fs.
    on-took _ (swallowed zero_f fs) (λ minor fs.
    goods (ap (λ s. link_fields (forget id) (forget start) (forget end) (pipe (record { long = long; diameter = diameter; roughness = roughness; minor = minor; status = s })))
    (status-in fs)))))))))

pub pipe-step : (fs : List Name) (m : Network) → ReadLike bare (pipe_step fs m) (pipe_step (map forget fs) (bare m))
unfolding pipe_step
pipe-step fs m = on_read-law _ (pipe-of fs) (λ l. store-link l m)

-- ---- pumps
abbrev forget_pump : Pump → Pump
forget_pump p = record { speed = p.speed; head = forget_maybe p.head; power = p.power }

with-speed : (p : Pump) (d : Float) (n : Result Float NumberError) → ReadLike forget_pump (with_speed p (as_swallowed d n [])) (with_speed (forget_pump p) (as_swallowed d n []))
with-speed p d (Ok x) = goods refl
with-speed p d (Err number.Malformed) = goods refl
with-speed p d (Err number.Beyond) = bads

with-power : (p : Pump) (d : Float) (n : Result Float NumberError) → ReadLike forget_pump (with_power p (as_swallowed d n [])) (with_power (forget_pump p) (as_swallowed d n []))
with-power p d (Ok x) = goods refl
with-power p d (Err number.Malformed) = goods refl
with-power p d (Err number.Beyond) = bads

with_pair-law : (p : Pump) (w v : Name) → ReadLike forget_pump (with_pair p w v) (with_pair (forget_pump p) (forget w) (forget v))
unfolding with_pair
with_pair-law p w v =
    on-if (same w.letters word_speed) (with-speed p one_f (number_of v.letters))
    (on-if (same w.letters word_head) (goods refl)
    (on-if (same w.letters word_power) (with-power p zero_f (number_of v.letters)) (goods refl)))

pump-from : (p : Pump) (fs : List Name) → ReadLike forget_pump (pump_from p fs) (pump_from (forget_pump p) (map forget fs))
unfolding pump_from
pump-from p [] = goods refl
pump-from p (w ∷ []) = goods refl
pump-from p (w ∷ v ∷ fs) = on_read-law _ (with_pair-law p w v) (λ q. pump-from q fs)

pub pump-step : (fs : List Name) (m : Network) → ReadLike bare (pump_step fs m) (pump_step (map forget fs) (bare m))
unfolding pump_step
pump-step fs m =
    on-took _ (name fs) (λ id fs.
    on-took _ (name fs) (λ start fs.
    on-took _ (name fs) (λ end fs.
    on_read-law _ (ends_of-law start end m) (λ e.
    on_read-law _ (pump-from no_pump fs) (λ p. add-link id e (pump p) m)))))

-- ---- valves
abbrev forget_setting : Setting → Setting
forget_setting s = record { value = s.value; curve = forget_maybe s.curve }

setting-took : {t t' : Took Float} → TookLike itself t t' → TookLike forget_setting (setting_took t) (setting_took t')
setting-took tooks = tooks
setting-took refuseds = refuseds

curve-took : {t t' : Took (Option Name)} → TookLike forget_maybe t t' → TookLike forget_setting (curve_took t) (curve_took t')
curve-took tooks = tooks
curve-took refuseds = refuseds

setting-from : (type : ValveType) (fs : List Name) → TookLike forget_setting (setting_from type fs) (setting_from type (map forget fs))
unfolding setting_from
setting-from Gpv fs = curve-took (optional fs)
setting-from Tcv fs = setting-took (swallowed zero_f fs)
setting-from Fcv fs = setting-took (swallowed zero_f fs)
setting-from Prv fs = setting-took (swallowed zero_f fs)
setting-from Psv fs = setting-took (swallowed zero_f fs)
setting-from Pbv fs = setting-took (swallowed zero_f fs)
setting-from Pcv fs = setting-took (swallowed zero_f fs)

overrides : (fs : List Name) (c : Option Name) → forget_maybe (overriding fs c) ≡ overriding (map forget fs) (forget_maybe c)
overrides [] c = refl
overrides (f ∷ fs) c = refl

valve-of : (fs : List Name) → ReadLike forget_fields (valve_of fs) (valve_of (map forget fs))
unfolding valve_of
valve-of fs =
    on-took _ (name fs) (λ id fs.
    on-took _ (name fs) (λ start fs.
    on-took _ (name fs) (λ end fs.
    on-took _ (number-from fs) (λ diameter fs.
    on-took _ (name fs) (λ word fs.
    on_read-law _ (same_read (type_of word.letters)) (λ type.
    on-took _ (setting-from type fs) (λ setting fs.
    on-took _ (swallowed zero_f fs) (λ minor fs.
    goods (ap (λ c. link_fields (forget id) (forget start) (forget end) (valve (record {
      type = type;
      diameter = diameter;
      setting = setting.value;
      minor = minor;
      curve = c;
    }))) (overrides fs setting.curve))))))))))

pub valve-step : (fs : List Name) (m : Network) → ReadLike bare (valve_step fs m) (valve_step (map forget fs) (bare m))
unfolding valve_step
valve-step fs m = on_read-law _ (valve-of fs) (λ l. store-link l m)
