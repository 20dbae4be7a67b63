-- Junctions, reservoirs, tanks, emitters and coordinates are read alike where places are forgotten. Assumes nothing.
use Rattle.std.specs.Prelude.{None, Some}
use Prim.Native.Nat.{ℕ}
use mathlib.Core.Path.{◌≡◌, refl, ap, ap₂, sym, ◌∙◌, subst}
use mathlib.Core.Bool.{Bool, true, false, cond, ◌&&◌}
use mathlib.Core.List.{List, [], ◌∷◌, ◌++◌, map, map-append}
use lib.ListN.{length, get_or, length-map, get_or-map}
use lib.Dec.{ltb}
use lib.Ieee.{Float}
use Rattle.leaf_fields.specs.Fields.{Name, rest}
use Rattle.leaf_letters.specs.Words.{same}
use Rattle.scope.specs.declared.Reason.TheVariants.{WrongKind}
use Rattle.scope.specs.Spelling.{zero_text, sign_star}
use Rattle.scope.specs.Sections.{room_nodes, room_demands}
use Rattle.scope.specs.Records.{Network, Node, NodeKind, junction, reservoir, tank, Place, Demand, no_node, zero_f, with_nodes, with_demands, node_ids, lookup}
use Rattle.scope.specs.Values.{good, bad}
use Rattle.scope.specs.Nodes.{JunctionFields, junction_of, junction_node, junction_demand, with_junction, add_junction, junction_step, add_node, reservoir_of}
use Rattle.scope.specs.Nodes.{reservoir_step, curve_in, overflow_in, tank_node, levels_of, reservoir_or, tank_of, tank_step, on_junction, change_node, emitting}
use Rattle.scope.specs.Nodes.{EmitterFields, emitter_of, set_emitter, emitter_step, standing, set_place, coordinates_step}
use Rattle.scope.specs.Bare.{forget, forget_maybe, forget_node, forget_node_kind, forget_demand, bare}
use Rattle.scope.proofs.Carry.{ReadLike, goods, bads, on-took, on_read-law, on-found, on-cond, name, optional, number-from, number-or, swallowed, flag-from, pair-of, lookup-ids, map-set}

pub node-found : (m : Network) (w : List ℕ) → lookup (node_ids m) w ≡ lookup (node_ids (bare m)) w
node-found m w = lookup-ids (λ n. n.id) forget_node (λ n. refl) m.nodes w

pub nodes-long : (m : Network) → length m.nodes ≡ length (bare m).nodes
nodes-long m = sym (length-map m.nodes forget_node)

pub demands-long : (m : Network) → length m.demands ≡ length (bare m).demands
demands-long m = sym (length-map m.demands forget_demand)

pub node_at-law : (m : Network) (i : ℕ) → forget_node (get_or m.nodes i no_node) ≡ get_or (bare m).nodes i no_node
node_at-law m i = sym (get_or-map forget_node m.nodes i no_node)

-- ---- junctions
abbrev forget_fields : JunctionFields → JunctionFields
forget_fields j = record { id = forget j.id; elevation = j.elevation; demand = j.demand; pattern = forget_maybe j.pattern; disabled = j.disabled }

junction-of : (fs : List Name) → ReadLike forget_fields (junction_of fs) (junction_of (map forget fs))
unfolding junction_of
junction-of fs =
    on-took _ (name fs) (λ id fs.
    on-took _ (number-or zero_text fs) (λ elevation fs.
    on-took _ (swallowed zero_f fs) (λ demand fs.
    on-took _ (optional fs) (λ pattern fs.
    on-took _ (flag-from fs) (λ disabled fs. goods refl)))))

junction-added : (j : JunctionFields) (m : Network) → bare (with_junction j m) ≡ with_junction (forget_fields j) (bare m)
junction-added j m =
    ap₂ (λ (x : List Node) (y : List Demand). with_demands y (with_nodes x (bare m)))
    (map-append forget_node m.nodes (junction_node j ∷ []))
    (map-append forget_demand m.demands (junction_demand (length m.nodes) j ∷ [])
    ∙ ap (λ n. map forget_demand m.demands ++ (junction_demand n (forget_fields j) ∷ [])) (nodes-long m))

add-junction : (j : JunctionFields) (m : Network) → ReadLike bare (add_junction j m) (add_junction (forget_fields j) (bare m))
unfolding add_junction
add-junction j m =
    on-found _ (node-found m j.id.letters) (λ i. bads)
    (on-cond _ (ap₂ (λ a b. ltb a room_nodes && ltb b room_demands) (nodes-long m) (demands-long m)) (goods (junction-added j m)) bads)

pub junction-step : (fs : List Name) (m : Network) → ReadLike bare (junction_step fs m) (junction_step (map forget fs) (bare m))
unfolding junction_step
junction-step fs m = on_read-law _ (junction-of fs) (λ j. add-junction j m)

-- ---- reservoirs and tanks
add-node : (n : Node) (m : Network) → ReadLike bare (add_node n m) (add_node (forget_node n) (bare m))
unfolding add_node
add-node n m =
    on-found _ (node-found m n.id.letters) (λ i. bads)
    (on-cond _ (ap (λ a. ltb a room_nodes) (nodes-long m)) (goods (ap (λ x. with_nodes x (bare m)) (map-append forget_node m.nodes (n ∷ [])))) bads)

reservoir-of : (fs : List Name) → ReadLike forget_node (reservoir_of fs) (reservoir_of (map forget fs))
unfolding reservoir_of
reservoir-of fs =
    on-took _ (name fs) (λ id fs.
    on-took _ (number-from fs) (λ elevation fs.
    on-took _ (optional fs) (λ pattern fs. goods refl)))

pub reservoir-step : (fs : List Name) (m : Network) → ReadLike bare (reservoir_step fs m) (reservoir_step (map forget fs) (bare m))
unfolding reservoir_step
reservoir-step fs m = on_read-law _ (reservoir-of fs) (λ n. add-node n m)

curve-in : (fs : List Name) → forget_maybe (curve_in fs) ≡ curve_in (map forget fs)
curve-in [] = refl
curve-in (f ∷ fs) = go (same f.letters sign_star)
  where
    go : (t : Bool) → forget_maybe (cond t None (Some f)) ≡ cond t None (Some (forget f))
    go true = refl
    go false = refl

overflow-in : (fs : List Name) → overflow_in (rest fs) ≡ overflow_in (rest (map forget fs))
overflow-in [] = refl
overflow-in (f ∷ []) = refl
overflow-in (f ∷ g ∷ fs) = refl

levels-of : (id : Name) (elevation : Float) (fs : List Name) → ReadLike forget_node (levels_of id elevation fs) (levels_of (forget id) elevation (map forget fs))
unfolding levels_of
levels-of id elevation fs =
    on-took _ (number-from fs) (λ initial fs.
    on-took _ (number-from fs) (λ minimum fs.
    on-took _ (number-from fs) (λ maximum fs.
    on-took _ (number-from fs) (λ diameter fs.
    on-took _ (number-or zero_text fs) (λ volume fs.
    goods (ap₂ (λ c o. tank_node (forget id) (record {
      elevation = elevation;
      initial = initial;
      minimum = minimum;
      maximum = maximum;
      diameter = diameter;
      volume = volume;
      curve = c;
      overflow = o;
    })) (curve-in fs) (overflow-in fs)))))))

reservoir-or : (id : Name) (elevation : Float) (fs : List Name) → ReadLike forget_node (reservoir_or id elevation fs) (reservoir_or (forget id) elevation (map forget fs))
reservoir-or id elevation [] = goods refl
reservoir-or id elevation (f ∷ fs) = levels-of id elevation (f ∷ fs)

tank-of : (fs : List Name) → ReadLike forget_node (tank_of fs) (tank_of (map forget fs))
unfolding tank_of
tank-of fs =
    on-took _ (name fs) (λ id fs.
    on-took _ (number-from fs) (λ elevation fs. reservoir-or id elevation fs))

pub tank-step : (fs : List Name) (m : Network) → ReadLike bare (tank_step fs m) (tank_step (map forget fs) (bare m))
unfolding tank_step
tank-step fs m = on_read-law _ (tank-of fs) (λ n. add-node n m)

-- ---- emitters and coordinates
node-changed : (i : ℕ) (n : Node) (m : Network) → bare (change_node i n m) ≡ change_node i (forget_node n) (bare m)
node-changed i n m = ap (λ x. with_nodes x (bare m)) (map-set forget_node m.nodes i n)

emits : (x : Float) (m : Network) (i : ℕ) (n : Node) (k : NodeKind)
    → ReadLike bare (on_junction k (λ j. good (change_node i (emitting n j x) m)) (bad WrongKind))
    (on_junction (forget_node_kind k) (λ j. good (change_node i (emitting (forget_node n) j x) (bare m))) (bad WrongKind))
emits x m i n (junction j) = goods (node-changed i (emitting n j x) m)
emits x m i n (reservoir r) = bads
emits x m i n (tank t) = bads

set-emitter : (id : Name) (x : Float) (m : Network) → ReadLike bare (set_emitter id x m) (set_emitter (forget id) x (bare m))
unfolding set_emitter
set-emitter id x m =
    on-found _ (node-found m id.letters)
    (λ i. let n : Node = get_or m.nodes i no_node in
    subst (λ (y : Node). ReadLike bare (on_junction n.kind (λ j. good (change_node i (emitting n j x) m)) (bad WrongKind))
    (on_junction y.kind (λ j. good (change_node i (emitting y j x) (bare m))) (bad WrongKind))) (node_at-law m i) (emits x m i n n.kind))
    bads

abbrev forget_emitter : EmitterFields → EmitterFields
forget_emitter e = record { id = forget e.id; coefficient = e.coefficient }

emitter-of : (fs : List Name) → ReadLike forget_emitter (emitter_of fs) (emitter_of (map forget fs))
unfolding emitter_of
emitter-of fs =
    on-took _ (name fs) (λ id fs.
    on-took _ (number-from fs) (λ coefficient fs. goods refl))

pub emitter-step : (fs : List Name) (m : Network) → ReadLike bare (emitter_step fs m) (emitter_step (map forget fs) (bare m))
unfolding emitter_step
emitter-step fs m = on_read-law _ (emitter-of fs) (λ e. set-emitter e.id e.coefficient m)

set-place : (id : Name) (p : Place) (m : Network) → ReadLike bare (set_place id p m) (set_place (forget id) p (bare m))
unfolding set_place
set-place id p m =
    on-found _ (node-found m id.letters)
    (λ i. goods (node-changed i (standing (get_or m.nodes i no_node) p) m ∙ ap (λ (n : Node). change_node i (standing n p) (bare m)) (node_at-law m i))) bads

pub coordinates-step : (fs : List Name) (m : Network) → ReadLike bare (coordinates_step fs m) (coordinates_step (map forget fs) (bare m))
unfolding coordinates_step
coordinates-step fs m = on_read-law _ (pair-of fs) (λ p. set-place p.id (record { x = p.x; y = p.y }) m)
