-- Document 01, "Records by section": curves, patterns and demands; and the patterns' places, worked out once the text is read to its end. Assumes nothing.
use Rattle.std.specs.Prelude.{ℕ, suc, ◌+◌, Bool, false, cond, ◌&&◌, List, [], ◌∷◌, ◌++◌, map, length, set, get_or, ltb, leb, eqb, Float, None, Option, Some}
use Rattle.std.specs.Float.Ieee.{lt}
use Rattle.leaf_decimals.specs.Numbers.{number_of}
use Rattle.leaf_fields.specs.Fields.{Name}
use Rattle.scope.specs.declared.Reason.TheVariants.{NotFound, WrongKind, XFalls, NoRoom}
use Rattle.scope.specs.Sections.{room_curves, room_points, room_patterns, room_multipliers, room_demands}
use Rattle.scope.specs.Records.{Network, Node, NodeKind, junction, reservoir, tank, Point, Multiplier, Demand, no_node, with_nodes, with_curves, with_points}
use Rattle.scope.specs.Records.{with_patterns, with_multipliers, with_demands, node_ids, lookup}
use Rattle.scope.specs.Values.{Read, good, bad, on_read, on_took, on_found, name_from, optional_from, number_from, as_number, pair_of}
use Rattle.scope.specs.Nodes.{on_junction}

-- ---- "Curve: id, x, y." "x equal to the last is taken, smaller 6, NaN taken."
abbrev pub or_else : {A : Type 0} → Option A → Option A → Option A
or_else None b = b
or_else (Some a) b = Some a

-- the last x of curve number i
unfoldable pub last_x : ℕ → List Point → Option Float
last_x i [] = None
last_x i (p ∷ ps) = or_else (last_x i ps) (cond (eqb p.curve i) (Some p.x) None)

abbrev pub falls : Float → Option Float → Bool
falls x None = false
falls x (Some y) = lt x y

abbrev pub with_point : ℕ → Float → Float → Network → Network
with_point i x y m = with_points (m.points ++ (record { curve = i; x = x; y = y } ∷ [])) m

-- a curve that is there goes on, another is added; 23 where it does not fit
unfoldable pub add_point : Name → Float → Float → Network → Read Network
add_point id x y m =
    on_found (lookup m.curves id.letters) (λ i.
    cond (falls x (last_x i m.points)) (bad XFalls)
    (cond (ltb (length m.points) room_points) (good (with_point i x y m)) (bad NoRoom)))
    (cond (ltb (length m.curves) room_curves && ltb (length m.points) room_points)
    (good (with_point (length m.curves) x y (with_curves (m.curves ++ (id ∷ [])) m))) (bad NoRoom))

unfoldable pub curve_step : List Name → Network → Read Network
curve_step fs m = on_read (pair_of fs) (λ p. add_point p.id p.x p.y m)

-- ---- "Pattern: id and any count of multipliers, none included; all or nothing."
unfoldable pub multipliers_of : List Name → Read (List Float)
multipliers_of [] = good []
multipliers_of (f ∷ fs) = on_took (as_number (number_of f.letters) fs) (λ x rest. on_read (multipliers_of fs) (λ xs. good (x ∷ xs)))

pub record PatternFields : Type 0 where
  pub id : Name
  pub values : List Float

unfoldable pub pattern_of : List Name → Read PatternFields
pattern_of fs =
    on_took (name_from fs) (λ id fs.
    on_read (multipliers_of fs) (λ values.
    good (record { id = id; values = values })))

abbrev pub multiplier_of : ℕ → Float → Multiplier
multiplier_of i x = record { pattern = i; value = x }

abbrev pub with_values : ℕ → List Float → Network → Network
with_values i xs m = with_multipliers (m.multipliers ++ map (multiplier_of i) xs) m

abbrev pub fitting : Network → List Float → Bool
fitting m xs = leb (length m.multipliers + length xs) room_multipliers

-- a pattern that is there goes on, another is added; 23 where it does not fit
unfoldable pub add_pattern : Name → List Float → Network → Read Network
add_pattern id xs m =
    on_found (lookup m.patterns id.letters) (λ i. cond (fitting m xs) (good (with_values i xs m)) (bad NoRoom))
    (cond (ltb (length m.patterns) room_patterns && fitting m xs)
    (good (with_values (length m.patterns) xs (with_patterns (m.patterns ++ (id ∷ [])) m))) (bad NoRoom))

unfoldable pub pattern_step : List Name → Network → Read Network
pattern_step fs m = on_read (pattern_of fs) (λ p. add_pattern p.id p.values m)

-- ---- "A junction's first demand line replaces its demands; its room is used again."
pub record DemandFields : Type 0 where
  pub id : Name
  pub base : Float
  pub pattern : Option Name

unfoldable pub demand_of : List Name → Read DemandFields
demand_of fs =
    on_took (name_from fs) (λ id fs.
    on_took (number_from fs) (λ base fs.
    on_took (optional_from fs) (λ pattern fs.
    good (record { id = id; base = base; pattern = pattern }))))

-- the place of the demand of junction number i's own line, if it stands still; the demands start at number k
unfoldable pub own_from : ℕ → ℕ → List Demand → Option ℕ
own_from k i [] = None
own_from k i (d ∷ ds) = cond (eqb d.node i && d.own) (Some k) (own_from (suc k) i ds)

abbrev pub demand_at : ℕ → Float → Option Name → Demand
demand_at i x p = record { node = i; own = false; base = x; pattern = p; index = None }

unfoldable pub add_demand : ℕ → Float → Option Name → Network → Read Network
add_demand i x p m =
    on_found (own_from 0 i m.demands) (λ k. good (with_demands (set m.demands k (demand_at i x p)) m))
    (cond (ltb (length m.demands) room_demands) (good (with_demands (m.demands ++ (demand_at i x p ∷ [])) m)) (bad NoRoom))

-- 4 where there is no such node, 5 where it is no junction
unfoldable pub set_demand : Name → Float → Option Name → Network → Read Network
set_demand id x p m =
    on_found (lookup (node_ids m) id.letters) (λ i.
    on_junction (get_or m.nodes i no_node).kind (λ j. add_demand i x p m) (bad WrongKind))
    (bad NotFound)

unfoldable pub demand_step : List Name → Network → Read Network
demand_step fs m = on_read (demand_of fs) (λ d. set_demand d.id d.base d.pattern m)

-- ---- "`resolve_pattern_indices` stays and runs only once the text is read to its end": the place of each pattern that is named
abbrev pub place_in : Option ℕ → Option ℕ
place_in (Some i) = Some i
place_in None = None

abbrev pub index_of : List Name → Option Name → Option ℕ
index_of ps None = None
index_of ps (Some n) = place_in (lookup ps n.letters)

abbrev pub resolved_kind : List Name → NodeKind → NodeKind
resolved_kind ps (junction j) = junction j
resolved_kind ps (reservoir r) = reservoir (record { elevation = r.elevation; pattern = r.pattern; index = index_of ps r.pattern })
resolved_kind ps (tank t) = tank t

abbrev pub resolved_node : List Name → Node → Node
resolved_node ps n = record { id = n.id; kind = resolved_kind ps n.kind; place = n.place }

abbrev pub resolved_demand : List Name → Demand → Demand
resolved_demand ps d = record { node = d.node; own = d.own; base = d.base; pattern = d.pattern; index = index_of ps d.pattern }

unfoldable pub resolved : Network → Network
resolved m = with_demands (map (resolved_demand m.patterns) m.demands) (with_nodes (map (resolved_node m.patterns) m.nodes) m)
