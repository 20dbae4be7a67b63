-- Curves, patterns and demands are read alike where places are forgotten, and the patterns' places are worked out alike. Assumes nothing.
use Rattle.std.specs.Prelude.{Some, None, Option}
use Prim.Native.Nat.{ℕ, suc}
use mathlib.Core.Path.{◌≡◌, refl, ap, ap₂, sym, subst}
use mathlib.Core.Bool.{cond, ◌&&◌}
use mathlib.Core.List.{List, [], ◌∷◌, map, map-append}
use lib.ListN.{length, get_or, length-map}
use lib.Dec.{ltb, eqb}
use lib.Ieee.{Float}
use Rattle.leaf_decimals.specs.Numbers.{number_of}
use Rattle.leaf_fields.specs.Fields.{Name}
use Rattle.scope.specs.declared.Reason.TheVariants.{WrongKind}
use Rattle.scope.specs.Sections.{room_curves, room_points, room_patterns, room_demands}
use Rattle.scope.specs.Records.{Network, Node, NodeKind, junction, reservoir, tank, Demand, no_node, with_nodes, with_curves, with_patterns, with_demands}
use Rattle.scope.specs.Values.{bad}
use Rattle.scope.specs.Nodes.{on_junction}
use Rattle.scope.specs.Series.{last_x, falls, with_point, add_point, curve_step, multipliers_of, PatternFields, pattern_of, with_values, fitting, add_pattern}
use Rattle.scope.specs.Series.{pattern_step, own_from, DemandFields, demand_of, demand_at, add_demand, set_demand, demand_step, place_in, index_of, resolved_kind}
use Rattle.scope.specs.Series.{resolved_node, resolved_demand, resolved}
use Rattle.scope.specs.Bare.{forget, forget_maybe, forget_node, forget_node_kind, forget_demand, bare}
use Rattle.scope.proofs.Carry.{ReadLike, goods, bads, itself, on-took, on_read-law, on-found, on-cond, on-if, name, optional, number-from, as-number, pair-of, lookup-forget, map-square, map-set}
use Rattle.scope.proofs.NodeLaws.{node-found, node_at-law, demands-long}

-- ---- curves
curves-long : (m : Network) → length m.curves ≡ length (bare m).curves
curves-long m = sym (length-map m.curves forget)

add-point : (id : Name) (x y : Float) (m : Network) → ReadLike bare (add_point id x y m) (add_point (forget id) x y (bare m))
unfolding add_point
add-point id x y m =
    on-found _ (lookup-forget 0 m.curves id.letters)
    (λ i. on-if (falls x (last_x i m.points)) bads (on-if (ltb (length m.points) room_points) (goods refl) bads))
    (on-cond _ (ap (λ a. ltb a room_curves && ltb (length m.points) room_points) (curves-long m))
    (goods (ap₂ (λ n c. with_point n x y (with_curves c (bare m))) (curves-long m) (map-append forget m.curves (id ∷ [])))) bads)

pub curve-step : (fs : List Name) (m : Network) → ReadLike bare (curve_step fs m) (curve_step (map forget fs) (bare m))
unfolding curve_step
curve-step fs m = on_read-law _ (pair-of fs) (λ p. add-point p.id p.x p.y m)

-- ---- patterns
patterns-long : (m : Network) → length m.patterns ≡ length (bare m).patterns
patterns-long m = sym (length-map m.patterns forget)

multipliers-of : (fs : List Name) → ReadLike itself (multipliers_of fs) (multipliers_of (map forget fs))
unfolding multipliers_of
multipliers-of [] = goods refl
multipliers-of (f ∷ fs) = on-took _ (as-number (number_of f.letters) fs) (λ x rest. on_read-law _ (multipliers-of fs) (λ xs. goods refl))

add-pattern : (id : Name) (xs : List Float) (m : Network) → ReadLike bare (add_pattern id xs m) (add_pattern (forget id) xs (bare m))
unfolding add_pattern
add-pattern id xs m =
    on-found _ (lookup-forget 0 m.patterns id.letters) (λ i. on-if (fitting m xs) (goods refl) bads)
    (on-cond _ (ap (λ a. ltb a room_patterns && fitting m xs) (patterns-long m))
    (goods (ap₂ (λ n p. with_values n xs (with_patterns p (bare m))) (patterns-long m) (map-append forget m.patterns (id ∷ [])))) bads)

abbrev forget_pattern : PatternFields → PatternFields
forget_pattern p = record { id = forget p.id; values = p.values }

pattern-of : (fs : List Name) → ReadLike forget_pattern (pattern_of fs) (pattern_of (map forget fs))
unfolding pattern_of
pattern-of fs =
    on-took _ (name fs) (λ id fs.
    on_read-law _ (multipliers-of fs) (λ values. goods refl))

pub pattern-step : (fs : List Name) (m : Network) → ReadLike bare (pattern_step fs m) (pattern_step (map forget fs) (bare m))
unfolding pattern_step
pattern-step fs m = on_read-law _ (pattern-of fs) (λ p. add-pattern p.id p.values m)

-- ---- demands
own-from : (k i : ℕ) (ds : List Demand) → own_from k i ds ≡ own_from k i (map forget_demand ds)
unfolding own_from
own-from k i [] = refl
own-from k i (d ∷ ds) = ap (cond (eqb d.node i && d.own) (Some k)) (own-from (suc k) i ds)

add-demand : (i : ℕ) (x : Float) (p : Option Name) (m : Network) → ReadLike bare (add_demand i x p m) (add_demand i x (forget_maybe p) (bare m))
unfolding add_demand
add-demand i x p m =
    on-found _ (own-from 0 i m.demands) (λ k. goods (ap (λ ds. with_demands ds (bare m)) (map-set forget_demand m.demands k (demand_at i x p))))
    (on-cond _ (ap (λ a. ltb a room_demands) (demands-long m))
    (goods (ap (λ ds. with_demands ds (bare m)) (map-append forget_demand m.demands (demand_at i x p ∷ [])))) bads)

demand-on : (i : ℕ) (x : Float) (p : Option Name) (m : Network) (k : NodeKind)
    → ReadLike bare (on_junction k (λ j. add_demand i x p m) (bad WrongKind)) (on_junction (forget_node_kind k) (λ j. add_demand i x (forget_maybe p) (bare m)) (bad WrongKind))
demand-on i x p m (junction j) = add-demand i x p m
demand-on i x p m (reservoir r) = bads
demand-on i x p m (tank t) = bads

set-demand : (id : Name) (x : Float) (p : Option Name) (m : Network) → ReadLike bare (set_demand id x p m) (set_demand (forget id) x (forget_maybe p) (bare m))
unfolding set_demand
set-demand id x p m =
    on-found _ (node-found m id.letters)
    (λ i. let n : Node = get_or m.nodes i no_node in
    subst (λ (y : Node). ReadLike bare (on_junction n.kind (λ j. add_demand i x p m) (bad WrongKind))
    (on_junction y.kind (λ j. add_demand i x (forget_maybe p) (bare m)) (bad WrongKind))) (node_at-law m i) (demand-on i x p m n.kind))
    bads

abbrev forget_demand_fields : DemandFields → DemandFields
forget_demand_fields d = record { id = forget d.id; base = d.base; pattern = forget_maybe d.pattern }

demand-of : (fs : List Name) → ReadLike forget_demand_fields (demand_of fs) (demand_of (map forget fs))
unfolding demand_of
demand-of fs =
    on-took _ (name fs) (λ id fs.
    on-took _ (number-from fs) (λ base fs.
    on-took _ (optional fs) (λ pattern fs. goods refl)))

pub demand-step : (fs : List Name) (m : Network) → ReadLike bare (demand_step fs m) (demand_step (map forget fs) (bare m))
unfolding demand_step
demand-step fs m = on_read-law _ (demand-of fs) (λ d. set-demand d.id d.base d.pattern m)

-- ---- the patterns' places
index-of : (ps : List Name) (n : Option Name) → index_of ps n ≡ index_of (map forget ps) (forget_maybe n)
index-of ps None = refl
index-of ps (Some n) = ap place_in (lookup-forget 0 ps n.letters)

resolved-kind : (ps : List Name) (k : NodeKind) → forget_node_kind (resolved_kind ps k) ≡ resolved_kind (map forget ps) (forget_node_kind k)
resolved-kind ps (junction j) = refl
resolved-kind ps (reservoir r) = ap (λ i. reservoir (record { elevation = r.elevation; pattern = forget_maybe r.pattern; index = i })) (index-of ps r.pattern)
resolved-kind ps (tank t) = refl

resolved-node : (ps : List Name) (n : Node) → forget_node (resolved_node ps n) ≡ resolved_node (map forget ps) (forget_node n)
resolved-node ps n = ap (λ k. record { id = forget n.id; kind = k; place = n.place }) (resolved-kind ps n.kind)

resolved-demand : (ps : List Name) (d : Demand) → forget_demand (resolved_demand ps d) ≡ resolved_demand (map forget ps) (forget_demand d)
resolved-demand ps d = ap (λ i. record { node = d.node; own = d.own; base = d.base; pattern = forget_maybe d.pattern; index = i }) (index-of ps d.pattern)

pub bare-resolved : (m : Network) → bare (resolved m) ≡ resolved (bare m)
unfolding resolved
bare-resolved m =
    let ps : List Name = m.patterns in
    ap₂ (λ ns ds. with_demands ds (with_nodes ns (bare m)))
    (map-square forget_node (resolved_node ps) forget_node (resolved_node (map forget ps)) (resolved-node ps) m.nodes)
    (map-square forget_demand (resolved_demand ps) forget_demand (resolved_demand (map forget ps)) (resolved-demand ps) m.demands)
