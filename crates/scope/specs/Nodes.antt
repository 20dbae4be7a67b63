-- Document 01, "Records by section": junctions, reservoirs and tanks; emitters and coordinates. Assumes nothing.
use Rattle.std.specs.Prelude.{ℕ, Bool, true, false, cond, ◌&&◌, List, [], ◌∷◌, ◌++◌, length, set, get_or, ltb, Float, None, Option, Some}
use Rattle.leaf_fields.specs.Fields.{Name, rest}
use Rattle.leaf_letters.specs.Words.{same, spelled}
use Rattle.scope.specs.declared.Reason.TheVariants.{Used, NotFound, WrongKind, NoRoom}
use Rattle.scope.specs.Spelling.{zero_text, sign_star, word_yes}
use Rattle.scope.specs.Sections.{room_nodes, room_demands}
use Rattle.scope.specs.Records.{Network, Node, NodeKind, junction, reservoir, tank, Junction, Tank, Place, Demand, zero_f, no_node, with_nodes, with_demands, node_ids, lookup}
use Rattle.scope.specs.Values.{Read, good, bad, on_read, on_took, on_found, name_from, optional_from, number_from, number_or, swallowed_from, flag_from, pair_of}

-- ---- "Junction: id, elevation, demand, pattern, disabled."
pub record JunctionFields : Type 0 where
  pub id : Name
  pub elevation : Float
  pub demand : Float
  pub pattern : Option Name
  pub disabled : Bool

-- "A missing elevation is read from the default text 0 instead. A malformed demand is 0. Disabled is exactly true or false. Absent, demand is 0 and disabled is false."
unfoldable pub junction_of : List Name → Read JunctionFields
junction_of fs =
    on_took (name_from fs) (λ id fs.
    on_took (number_or zero_text fs) (λ elevation fs.
    on_took (swallowed_from zero_f fs) (λ demand fs.
    on_took (optional_from fs) (λ pattern fs.
    on_took (flag_from fs) (λ disabled fs.
    good (record { id = id; elevation = elevation; demand = demand; pattern = pattern; disabled = disabled }))))))

abbrev pub junction_node : JunctionFields → Node
junction_node j = record { id = j.id; kind = junction (record { elevation = j.elevation; emitter = zero_f; disabled = j.disabled }); place = None }

abbrev pub junction_demand : ℕ → JunctionFields → Demand
junction_demand n j = record { node = n; own = true; base = j.demand; pattern = j.pattern; index = None }

abbrev pub with_junction : JunctionFields → Network → Network
with_junction j m = with_demands (m.demands ++ (junction_demand (length m.nodes) j ∷ [])) (with_nodes (m.nodes ++ (junction_node j ∷ [])) m)

-- 3 where the id is used, 23 where the nodes or the demands are full
unfoldable pub add_junction : JunctionFields → Network → Read Network
add_junction j m =
    on_found (lookup (node_ids m) j.id.letters) (λ i. bad Used)
    (cond (ltb (length m.nodes) room_nodes && ltb (length m.demands) room_demands) (good (with_junction j m)) (bad NoRoom))

unfoldable pub junction_step : List Name → Network → Read Network
junction_step fs m = on_read (junction_of fs) (λ j. add_junction j m)

-- ---- reservoirs and tanks
-- 3 where the id is used, 23 where the nodes are full
unfoldable pub add_node : Node → Network → Read Network
add_node n m =
    on_found (lookup (node_ids m) n.id.letters) (λ i. bad Used)
    (cond (ltb (length m.nodes) room_nodes) (good (with_nodes (m.nodes ++ (n ∷ [])) m)) (bad NoRoom))

abbrev pub reservoir_node : Name → Float → Option Name → Node
reservoir_node id elevation pattern = record { id = id; kind = reservoir (record { elevation = elevation; pattern = pattern; index = None }); place = None }

-- "Reservoir: id, elevation, optional pattern."
unfoldable pub reservoir_of : List Name → Read Node
reservoir_of fs =
    on_took (name_from fs) (λ id fs.
    on_took (number_from fs) (λ elevation fs.
    on_took (optional_from fs) (λ pattern fs.
    good (reservoir_node id elevation pattern))))

unfoldable pub reservoir_step : List Name → Network → Read Network
reservoir_step fs m = on_read (reservoir_of fs) (λ n. add_node n m)

-- "then a curve (* is none) and overflow (YES in any case)"
abbrev pub curve_in : List Name → Option Name
curve_in [] = None
curve_in (f ∷ fs) = cond (same f.letters sign_star) None (Some f)

abbrev pub overflow_in : List Name → Bool
overflow_in [] = false
overflow_in (f ∷ fs) = spelled f.letters word_yes

abbrev pub tank_node : Name → Tank → Node
tank_node id t = record { id = id; kind = tank t; place = None }

-- "A tank holds six numbers: elevation, initial level, minimum level, maximum level, diameter, minimum volume (0 if absent)": those after the elevation
unfoldable pub levels_of : Name → Float → List Name → Read Node
levels_of id elevation fs =
    on_took (number_from fs) (λ initial fs.
    on_took (number_from fs) (λ minimum fs.
    on_took (number_from fs) (λ maximum fs.
    on_took (number_from fs) (λ diameter fs.
    on_took (number_or zero_text fs) (λ volume fs.
    good (tank_node id (record {
      elevation = elevation;
      initial = initial;
      minimum = minimum;
      maximum = maximum;
      diameter = diameter;
      volume = volume;
      curve = curve_in fs;
      overflow = overflow_in (rest fs);
    })))))))

-- "Id and elevation alone make a reservoir."
abbrev pub reservoir_or : Name → Float → List Name → Read Node
reservoir_or id elevation [] = good (reservoir_node id elevation None)
reservoir_or id elevation (f ∷ fs) = levels_of id elevation (f ∷ fs)

unfoldable pub tank_of : List Name → Read Node
tank_of fs =
    on_took (name_from fs) (λ id fs.
    on_took (number_from fs) (λ elevation fs.
    reservoir_or id elevation fs))

unfoldable pub tank_step : List Name → Network → Read Network
tank_step fs m = on_read (tank_of fs) (λ n. add_node n m)

-- ---- "Emitter: junctions only."
abbrev pub on_junction : {B : Type 0} → NodeKind → (Junction → B) → B → B
on_junction (junction j) k b = k j
on_junction (reservoir r) k b = b
on_junction (tank t) k b = b

abbrev pub change_node : ℕ → Node → Network → Network
change_node i n m = with_nodes (set m.nodes i n) m

abbrev pub emitting : Node → Junction → Float → Node
emitting n j x = record { id = n.id; kind = junction (record { elevation = j.elevation; emitter = x; disabled = j.disabled }); place = n.place }

pub record EmitterFields : Type 0 where
  pub id : Name
  pub coefficient : Float

unfoldable pub emitter_of : List Name → Read EmitterFields
emitter_of fs =
    on_took (name_from fs) (λ id fs.
    on_took (number_from fs) (λ coefficient fs.
    good (record { id = id; coefficient = coefficient })))

-- 4 where there is no such node, 5 where it is no junction
unfoldable pub set_emitter : Name → Float → Network → Read Network
set_emitter id x m =
    on_found (lookup (node_ids m) id.letters) (λ i.
    on_junction (get_or m.nodes i no_node).kind (λ j. good (change_node i (emitting (get_or m.nodes i no_node) j x) m)) (bad WrongKind))
    (bad NotFound)

unfoldable pub emitter_step : List Name → Network → Read Network
emitter_step fs m = on_read (emitter_of fs) (λ e. set_emitter e.id e.coefficient m)

-- ---- "Coordinates: any node."
abbrev pub standing : Node → Place → Node
standing n p = record { id = n.id; kind = n.kind; place = Some p }

unfoldable pub set_place : Name → Place → Network → Read Network
set_place id p m =
    on_found (lookup (node_ids m) id.letters) (λ i. good (change_node i (standing (get_or m.nodes i no_node) p) m)) (bad NotFound)

unfoldable pub coordinates_step : List Name → Network → Read Network
coordinates_step fs m = on_read (pair_of fs) (λ p. set_place p.id (record { x = p.x; y = p.y }) m)
