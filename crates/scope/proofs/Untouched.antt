-- No section but RULES touches the rules and the clauses, and none takes a link away: what depends on these alone is kept. Assumes nothing.
use Prim.Native.Nat.{ℕ}
use mathlib.Core.Bool.{◌&&◌}
use mathlib.Core.List.{List, [], ◌∷◌, ◌++◌}
use lib.ListN.{length, get_or}
use lib.Dec.{ltb}
use Rattle.leaf_fields.specs.Fields.{Name}
use Rattle.scope.specs.declared.Section.{Section}
use Rattle.scope.specs.declared.Section.TheVariants.{Junctions, Reservoirs, Tanks, Pipes, Pumps, Valves, Curves, Patterns, Demands, Emitters, Coordinates, Times, Rules, Passed}
use Rattle.scope.specs.declared.TimeOption.{TimeOption}
use Rattle.scope.specs.declared.TimeOption.TheVariants.{Duration, HydraulicTimestep, PatternTimestep, ReportTimestep, PatternStart, StartClocktime, Dropped}
use Rattle.scope.specs.Sections.{room_nodes, room_demands, room_links, room_curves, room_points, room_patterns}
use Rattle.scope.specs.Records as R
use Rattle.scope.specs.Records.{Network, Node, LinkKind, pump, Rule, Clause, no_node, node_ids, link_ids, lookup}
use Rattle.scope.specs.Values.{Read, good, bad, on_read, Took, took, refused, on_took, name_from, pair_of}
use Rattle.scope.specs.Nodes.{junction_of, add_junction, junction_step, add_node, reservoir_of, reservoir_step, tank_of, tank_step, emitter_of, set_emitter, emitter_step, set_place, coordinates_step}
use Rattle.scope.specs.Links.{new_link, Ends, ends_of, add_link, LinkFields, store_link, pipe_of, pipe_step, no_pump, pump_from, pump_step, valve_of, valve_step}
use Rattle.scope.specs.Series.{last_x, falls, add_point, curve_step, pattern_of, fitting, add_pattern, pattern_step, demand_of, own_from, add_demand, set_demand, demand_step, resolved}
use Rattle.scope.specs.Times.{set_time, times_of, times_step}
use Rattle.scope.specs.Lines.{verdict, step_of}
use Rattle.scope.proofs.WrittenLaws.{Fine, goodly, badly, from_found, from-if, from-junction}
use Rattle.scope.proofs.Kept.{VerdictKeeps, keeps, refuses, StoredKeeps, passes, judges}

-- ---- of what is read first, nothing matters
module _ {B : Type 0} {P : B → Type 0} where
  pub from-read : {A : Type 0} (t : Read A) {k : A → Read B} → ((a : A) → Fine P (k a)) → Fine P (on_read t k)
  from-read (good a) h = h a
  from-read (bad r) h = badly

  pub from-took : {A : Type 0} (t : Took A) {k : A → List Name → Read B} → ((a : A) (fs : List Name) → Fine P (k a fs)) → Fine P (on_took t k)
  from-took (took a fs) h = h a fs
  from-took (refused r) h = badly

module _ (P : List R.Link → List Rule → List Clause → Type 0)
    (link-more : (ks : List R.Link) (k : R.Link) (rs : List Rule) (cs : List Clause) → P ks rs cs → P (ks ++ (k ∷ [])) rs cs) where
  abbrev pub Keeping : Network → Type 0
  Keeping m = P m.links m.rules m.clauses

  -- ---- sections that store neither links nor rules
  junction-step : (fs : List Name) (m : Network) → Keeping m → Fine Keeping (junction_step fs m)
  unfolding junction_step add_junction
  junction-step fs m w =
      from-read (junction_of fs) (λ j.
      from_found (lookup (node_ids m) j.id.letters) (λ i. badly)
      (from-if (ltb (length m.nodes) room_nodes && ltb (length m.demands) room_demands) (goodly w) badly))

  add-node : (n : Node) (m : Network) → Keeping m → Fine Keeping (add_node n m)
  unfolding add_node
  add-node n m w = from_found (lookup (node_ids m) n.id.letters) (λ i. badly) (from-if (ltb (length m.nodes) room_nodes) (goodly w) badly)

  reservoir-step : (fs : List Name) (m : Network) → Keeping m → Fine Keeping (reservoir_step fs m)
  unfolding reservoir_step
  reservoir-step fs m w = from-read (reservoir_of fs) (λ n. add-node n m w)

  tank-step : (fs : List Name) (m : Network) → Keeping m → Fine Keeping (tank_step fs m)
  unfolding tank_step
  tank-step fs m w = from-read (tank_of fs) (λ n. add-node n m w)

  emitter-step : (fs : List Name) (m : Network) → Keeping m → Fine Keeping (emitter_step fs m)
  unfolding emitter_step set_emitter
  emitter-step fs m w =
      from-read (emitter_of fs) (λ f.
      from_found (lookup (node_ids m) f.id.letters) (λ i. from-junction (get_or m.nodes i no_node).kind (λ j. goodly w) badly) badly)

  coordinates-step : (fs : List Name) (m : Network) → Keeping m → Fine Keeping (coordinates_step fs m)
  unfolding coordinates_step set_place
  coordinates-step fs m w = from-read (pair_of fs) (λ p. from_found (lookup (node_ids m) p.id.letters) (λ i. goodly w) badly)

  curve-step : (fs : List Name) (m : Network) → Keeping m → Fine Keeping (curve_step fs m)
  unfolding curve_step add_point
  curve-step fs m w =
      from-read (pair_of fs) (λ p.
      from_found (lookup m.curves p.id.letters)
      (λ i. from-if (falls p.x (last_x i m.points)) badly (from-if (ltb (length m.points) room_points) (goodly w) badly))
      (from-if (ltb (length m.curves) room_curves && ltb (length m.points) room_points) (goodly w) badly))

  pattern-step : (fs : List Name) (m : Network) → Keeping m → Fine Keeping (pattern_step fs m)
  unfolding pattern_step add_pattern
  pattern-step fs m w =
      from-read (pattern_of fs) (λ p.
      from_found (lookup m.patterns p.id.letters) (λ i. from-if (fitting m p.values) (goodly w) badly)
      (from-if (ltb (length m.patterns) room_patterns && fitting m p.values) (goodly w) badly))

  demand-step : (fs : List Name) (m : Network) → Keeping m → Fine Keeping (demand_step fs m)
  unfolding demand_step set_demand add_demand
  demand-step fs m w =
      from-read (demand_of fs) (λ d.
      from_found (lookup (node_ids m) d.id.letters) (λ i.
      from-junction (get_or m.nodes i no_node).kind (λ j.
      from_found (own_from 0 i m.demands) (λ k. goodly w)
      (from-if (ltb (length m.demands) room_demands) (goodly w) badly)) badly) badly)

  time-set : (o : TimeOption) (n : ℕ) (m : Network) → Keeping m → Keeping (set_time o n m)
  time-set Duration n m w = w
  time-set HydraulicTimestep n m w = w
  time-set PatternTimestep n m w = w
  time-set ReportTimestep n m w = w
  time-set PatternStart n m w = w
  time-set StartClocktime n m w = w
  time-set Dropped n m w = w

  times-step : (fs : List Name) (m : Network) → Keeping m → Fine Keeping (times_step fs m)
  unfolding times_step
  times-step fs m w = from-read (times_of fs) (λ t. goodly (time-set t.option t.seconds m w))

  -- ---- links
  add-link : (id : Name) (e : Ends) (k : LinkKind) (m : Network) → Keeping m → Fine Keeping (add_link id e k m)
  unfolding add_link
  add-link id e k m w =
      from_found (lookup (link_ids m) id.letters) (λ i. badly)
      (from-if (ltb (length m.links) room_links) (goodly (link-more m.links (new_link id e k) m.rules m.clauses w)) badly)

  store-link : (l : LinkFields) (m : Network) → Keeping m → Fine Keeping (store_link l m)
  unfolding store_link
  store-link l m w = from-read (ends_of l.start l.end m) (λ e. add-link l.id e l.kind m w)

  pipe-step : (fs : List Name) (m : Network) → Keeping m → Fine Keeping (pipe_step fs m)
  unfolding pipe_step
  pipe-step fs m w = from-read (pipe_of fs) (λ l. store-link l m w)

  pump-step : (fs : List Name) (m : Network) → Keeping m → Fine Keeping (pump_step fs m)
  unfolding pump_step
  pump-step fs m w =
      from-took (name_from fs) (λ id fs.
      from-took (name_from fs) (λ start fs.
      from-took (name_from fs) (λ end fs.
      from-read (ends_of start end m) (λ e.
      from-read (pump_from no_pump fs) (λ p. add-link id e (pump p) m w)))))

  valve-step : (fs : List Name) (m : Network) → Keeping m → Fine Keeping (valve_step fs m)
  unfolding valve_step
  valve-step fs m w = from-read (valve_of fs) (λ l. store-link l m w)

  -- ---- any line outside RULES
  pub verdict-keeps : {r : Read Network} → Fine Keeping r → VerdictKeeps Keeping (verdict r)
  verdict-keeps (goodly w) = keeps w
  verdict-keeps badly = refuses

  pub steps : (s : Section) (fs : List Name) (m : Network) → Keeping m → StoredKeeps Keeping (step_of s fs m)
  unfolding step_of
  steps Junctions fs m w = judges (verdict-keeps (junction-step fs m w))
  steps Reservoirs fs m w = judges (verdict-keeps (reservoir-step fs m w))
  steps Tanks fs m w = judges (verdict-keeps (tank-step fs m w))
  steps Pipes fs m w = judges (verdict-keeps (pipe-step fs m w))
  steps Pumps fs m w = judges (verdict-keeps (pump-step fs m w))
  steps Valves fs m w = judges (verdict-keeps (valve-step fs m w))
  steps Curves fs m w = judges (verdict-keeps (curve-step fs m w))
  steps Patterns fs m w = judges (verdict-keeps (pattern-step fs m w))
  steps Demands fs m w = judges (verdict-keeps (demand-step fs m w))
  steps Emitters fs m w = judges (verdict-keeps (emitter-step fs m w))
  steps Coordinates fs m w = judges (verdict-keeps (coordinates-step fs m w))
  steps Times fs m w = judges (verdict-keeps (times-step fs m w))
  steps Rules fs m w = passes
  steps Passed fs m w = passes

  pub resolved-keeps : (m : Network) → Keeping m → Keeping (resolved m)
  unfolding resolved
  resolved-keeps m w = w
