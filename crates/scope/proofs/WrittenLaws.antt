-- Every network that a reading gives has its names written in the text. Assumes nothing.
use Rattle.leaf_decimals.specs.declared.NumberError.{NumberError}
use Rattle.std.specs.Prelude.{Err, None, Ok, Result, Some, Option}
use Prim.{Unit, tt}
use Prim.Native.Nat.{ℕ, zero, suc, ◌+◌, ◌-◌, ◌≤◌}
use native.Mathlib.Omega.{arith}
use mathlib.Core.Path.{◌≡◌, ap, sym, ◌∙◌, subst}
use mathlib.Core.Bool.{Bool, true, false, cond, ◌&&◌}
use mathlib.Core.List.{List, [], ◌∷◌, ◌++◌, map}
use lib.ListN.{length, take, drop, set, get_or, length-set, length-take}
use lib.Seq.{take-take}
use lib.Dec.{ltb, leb}
use lib.Ieee.{Float}
use Rattle.leaf_decimals.specs.Numbers.{number_of}
use Rattle.leaf_decimals.specs.declared.NumberError.TheVariants as number
use Rattle.leaf_fields.specs.Fields.{Name, fields_of}
use Rattle.leaf_scans.specs.Lines.{cut_of}
use Rattle.leaf_letters.specs.Words.{same}
use Rattle.leaf_fields.proofs.FieldLaws.{StandsFrom, Ordered, ordered, drop-take, part-take}
use Rattle.leaf_scans.proofs.LineLaws.{cut-prefix}
use Rattle.scope_lines.specs.Text.{Line, Each, nothing, each}
use Rattle.scope.specs.declared.Reason.{Reason}
use Rattle.scope.specs.declared.Target.{Target}
use Rattle.scope.specs.declared.Operator.{Operator}
use Rattle.scope.specs.declared.Operator.TheVariants.{And, Or}
use Rattle.scope.specs.declared.TimeOption.{TimeOption}
use Rattle.scope.specs.declared.TimeOption.TheVariants.{Duration, HydraulicTimestep, PatternTimestep, ReportTimestep, PatternStart, StartClocktime, Dropped}
use Rattle.scope.specs.declared.ValveType.{ValveType}
use Rattle.scope.specs.declared.ValveType.TheVariants.{Gpv, Tcv, Fcv, Prv, Psv, Pbv, Pcv}
use Rattle.scope.specs.Spelling.{zero_text, sign_star, word_true, word_false, word_speed, word_head, word_power, word_system, word_node, word_tank, word_is, word_rule}
use Rattle.scope.specs.Spelling.{word_if, word_and, word_or, word_then, word_else, word_priority}
use Rattle.scope.specs.Sections.{room_nodes, room_demands, room_links, room_curves, room_points, room_patterns, room_rules, room_clauses}
use Rattle.scope.specs.Records as R
use Rattle.scope.specs.Records.{Network, Node, NodeKind, junction, reservoir, tank, LinkKind, pump, Pump, Demand, Condition, Action, no_node, zero_f, node_ids, link_ids, rule_ids, lookup, no_link}
use Rattle.scope.specs.Values.{Read, good, bad, on_read, Took, took, refused, on_took, on_found, name_from, optional_from, as_number, number_from, number_or}
use Rattle.scope.specs.Values.{as_swallowed, swallowed_from, flag_from, count_from, PairFields, pair_of}
use Rattle.scope.specs.Nodes.{JunctionFields, junction_of, add_junction, junction_step, add_node, reservoir_of, reservoir_step, curve_in, levels_of, reservoir_or}
use Rattle.scope.specs.Nodes.{tank_of, tank_step, on_junction, emitting, emitter_of, set_emitter, emitter_step, standing, set_place, coordinates_step}
use Rattle.scope.specs.Links.{Ends, ends_of, add_link, LinkFields, store_link, pipe_of, pipe_step, no_pump, with_speed, with_power, with_pair, one_f, pump_from}
use Rattle.scope.specs.Links.{pump_step, type_of, Setting, setting_took, curve_took, setting_from, overriding, valve_of, valve_step}
use Rattle.scope.specs.Series.{last_x, falls, add_point, curve_step, multipliers_of, PatternFields, pattern_of, fitting, add_pattern, pattern_step, own_from}
use Rattle.scope.specs.Series.{DemandFields, demand_of, add_demand, set_demand, demand_step, resolved_kind, resolved_node, resolved_demand, resolved}
use Rattle.scope.specs.Times.{set_time, times_of, times_step}
use Rattle.scope.specs.Rules.{system_target, node_target, tank_target, link_target, Aim, aimed, system_from, named_from, is_link_word, aim_from, comparison_of}
use Rattle.scope.specs.Rules.{value_of, condition_of, kind_fits, deed_of, action_of, Draft, no_draft, conditioned, acted, anded, line_of, lines_of, is_condition}
use Rattle.scope.specs.Rules.{is_action, some?, add_rule, named, judged, group_step}
use Rattle.scope.specs.Written.{Sits, SitsOr, NodeKindWritten, NodeWritten, LinkKindWritten, ClauseWritten, Written}

-- ---- what is read is fine
pub data Fine {A : Type 0} (P : A → Type 0) : Read A → Type 0 where
  goodly : {a : A} → P a → Fine P (good a)
  badly : {r : Reason} → Fine P (bad r)

abbrev Any : {A : Type 0} → A → Type 0
Any a = Unit {0}

any-read : {A : Type 0} (r : Read A) → Fine Any r
any-read (good a) = goodly tt
any-read (bad r) = badly

module _ {B : Type 0} {P : B → Type 0} where
  from-read : {A : Type 0} {Q : A → Type 0} {t : Read A} {k : A → Read B} → Fine Q t → ((a : A) → Q a → Fine P (k a)) → Fine P (on_read t k)
  from-read (goodly {a} q) h = h a q
  from-read badly h = badly

  pub from_found : (t : Option ℕ) {k : ℕ → Read B} {b : Read B} → ((i : ℕ) → Fine P (k i)) → Fine P b → Fine P (on_found t k b)
  from_found (Some i) h d = h i
  from_found None h d = d

  pub from-if : (t : Bool) {x y : Read B} → Fine P x → Fine P y → Fine P (cond t x y)
  from-if true p q = p
  from-if false p q = q

  pub from-junction : (k : NodeKind) {f : R.Junction → Read B} {b : Read B} → ((j : R.Junction) → Fine P (f j)) → Fine P b → Fine P (on_junction k f b)
  from-junction (junction j) h d = h j
  from-junction (reservoir r) h d = d
  from-junction (tank t) h d = d

-- ---- lists
each_append : {X : Type 0} {P : X → Type 0} {xs ys : List X} → Each P xs → Each P ys → Each P (xs ++ ys)
each_append nothing qs = qs
each_append (each p ps) qs = each p (each_append ps qs)

each_set : {X : Type 0} {P : X → Type 0} {xs : List X} (i : ℕ) {x : X} → Each P xs → P x → Each P (set xs i x)
each_set i nothing q = nothing
each_set zero (each p ps) q = each q ps
each_set (suc i) (each p ps) q = each p (each_set i ps q)

-- a member that is changed so that it stays fine; past the end nothing changes
each-change : {X : Type 0} {P : X → Type 0} {xs : List X} (i : ℕ) (d : X) (f : X → X) → ((x : X) → P x → P (f x)) → Each P xs → Each P (set xs i (f (get_or xs i d)))
each-change i d f h nothing = nothing
each-change zero d f h (each {x} p ps) = each (h x p) ps
each-change (suc i) d f h (each p ps) = each p (each-change i d f h ps)

each_map : {X : Type 0} {P : X → Type 0} {xs : List X} (f : X → X) → ((x : X) → P x → P (f x)) → Each P xs → Each P (map f xs)
each_map f h nothing = nothing
each_map f h (each {x} p ps) = each (h x p) (each_map f h ps)

one : {X : Type 0} {P : X → Type 0} {x : X} → P x → Each P (x ∷ [])
one p = each p nothing

module _ (text : List ℕ) where
  abbrev All : List Name → Type 0
  All fs = Each (Sits text) fs

  data Fresh {A : Type 0} (P : A → Type 0) : Took A → Type 0 where
    fresh : {a : A} {fs : List Name} → P a → All fs → Fresh P (took a fs)
    stale : {r : Reason} → Fresh P (refused r)

  from-took : {A B : Type 0} {Q : A → Type 0} {P : B → Type 0} {t : Took A} {k : A → List Name → Read B} → Fresh Q t
      → ((a : A) (fs : List Name) → Q a → All fs → Fine P (k a fs)) → Fine P (on_took t k)
  from-took (fresh {a} {fs} q s) h = h a fs q s
  from-took stale h = badly

  took-if : {A : Type 0} {P : A → Type 0} (t : Bool) {x y : Took A} → Fresh P x → Fresh P y → Fresh P (cond t x y)
  took-if true p q = p
  took-if false p q = q

  -- ---- the takers
  name : {fs : List Name} → All fs → Fresh (Sits text) (name_from fs)
  name nothing = stale
  name (each p ps) = fresh p ps

  optional : {fs : List Name} → All fs → Fresh (SitsOr text) (optional_from fs)
  optional nothing = fresh tt nothing
  optional (each p ps) = fresh p ps

  as-number : (n : Result Float NumberError) {fs : List Name} → All fs → Fresh Any (as_number n fs)
  as-number (Ok x) s = fresh tt s
  as-number (Err e) s = stale

  as-swallowed : (d : Float) (n : Result Float NumberError) {fs : List Name} → All fs → Fresh Any (as_swallowed d n fs)
  as-swallowed d (Ok x) s = fresh tt s
  as-swallowed d (Err number.Malformed) s = fresh tt s
  as-swallowed d (Err number.Beyond) s = stale

  number-from : {fs : List Name} → All fs → Fresh Any (number_from fs)
  number-from nothing = stale
  number-from (each {x} p ps) = as-number (number_of x.letters) ps

  number-or : (other : List ℕ) {fs : List Name} → All fs → Fresh Any (number_or other fs)
  number-or other nothing = as-number (number_of other) nothing
  number-or other (each {x} p ps) = as-number (number_of x.letters) ps

  swallowed : (d : Float) {fs : List Name} → All fs → Fresh Any (swallowed_from d fs)
  swallowed d nothing = fresh tt nothing
  swallowed d (each {x} p ps) = as-swallowed d (number_of x.letters) ps

  flag-from : {fs : List Name} → All fs → Fresh Any (flag_from fs)
  flag-from nothing = fresh tt nothing
  flag-from (each {x} p ps) = took-if (same x.letters word_true) (fresh tt ps) (took-if (same x.letters word_false) (fresh tt ps) stale)

  -- ---- a network with more in one of its lists
  with-nodes : {m : Network} {xs : List Node} → Written text m → Each (NodeWritten text) xs → Written text (R.with_nodes xs m)
  with-nodes w s = record { nodes = s; links = w.links; curves = w.curves; patterns = w.patterns; demands = w.demands; rules = w.rules; clauses = w.clauses; times = w.times }

  with-demands : {m : Network} {xs : List Demand} → Written text m → Each (λ (d : Demand). SitsOr text d.pattern) xs → Written text (R.with_demands xs m)
  with-demands w s = record { nodes = w.nodes; links = w.links; curves = w.curves; patterns = w.patterns; demands = s; rules = w.rules; clauses = w.clauses; times = w.times }

  -- ---- nodes
  pub record JunctionFine (j : JunctionFields) : Type 0 where
    pub id : Sits text j.id
    pub pattern : SitsOr text j.pattern

  junction-of : {fs : List Name} → All fs → Fine JunctionFine (junction_of fs)
  unfolding junction_of
  junction-of s =
      from-took (name s) (λ id fs p s.
      from-took (number-or zero_text s) (λ elevation fs x s.
      from-took (swallowed zero_f s) (λ demand fs x s.
      from-took (optional s) (λ pattern fs q s.
      from-took (flag-from s) (λ disabled fs x s. goodly (record { id = p; pattern = q }))))))

  pub junction-step : (fs : List Name) (m : Network) → All fs → Written text m → Fine (Written text) (junction_step fs m)
  unfolding junction_step add_junction
  junction-step fs m s w =
      from-read (junction-of s) (λ j f.
      from_found (lookup (node_ids m) j.id.letters) (λ i. badly)
      (from-if (ltb (length m.nodes) room_nodes && ltb (length m.demands) room_demands)
      (goodly (with-demands (with-nodes w (each_append w.nodes (one (record { id = f.id; kind = tt })))) (each_append w.demands (one f.pattern)))) badly))

  add-node : (n : Node) (m : Network) → NodeWritten text n → Written text m → Fine (Written text) (add_node n m)
  unfolding add_node
  add-node n m f w =
      from_found (lookup (node_ids m) n.id.letters) (λ i. badly)
      (from-if (ltb (length m.nodes) room_nodes) (goodly (with-nodes w (each_append w.nodes (one f)))) badly)

  pub reservoir-step : (fs : List Name) (m : Network) → All fs → Written text m → Fine (Written text) (reservoir_step fs m)
  unfolding reservoir_step reservoir_of
  reservoir-step fs m s w =
      from-read {Q = NodeWritten text}
      (from-took (name s) (λ id fs p s.
      from-took (number-from s) (λ elevation fs x s.
      from-took (optional s) (λ pattern fs q s. goodly (record { id = p; kind = q })))))
      (λ n f. add-node n m f w)

  curve-in : {fs : List Name} → All fs → SitsOr text (curve_in fs)
  curve-in nothing = tt
  curve-in (each {x} p ps) = go (same x.letters sign_star)
    where
      go : (t : Bool) → SitsOr text (cond t None (Some x))
      go true = tt
      go false = p

  levels-of : (id : Name) (elevation : Float) {fs : List Name} → Sits text id → All fs → Fine (NodeWritten text) (levels_of id elevation fs)
  unfolding levels_of
  levels-of id elevation p s =
      from-took (number-from s) (λ a fs x s.
      from-took (number-from s) (λ b fs x s.
      from-took (number-from s) (λ c fs x s.
      from-took (number-from s) (λ d fs x s.
      from-took (number-or zero_text s) (λ e fs x s. goodly (record { id = p; kind = curve-in s }))))))

  reservoir-or : (id : Name) (elevation : Float) {fs : List Name} → Sits text id → All fs → Fine (NodeWritten text) (reservoir_or id elevation fs)
  reservoir-or id elevation p nothing = goodly (record { id = p; kind = tt })
  reservoir-or id elevation p (each q s) = levels-of id elevation p (each q s)

  pub tank-step : (fs : List Name) (m : Network) → All fs → Written text m → Fine (Written text) (tank_step fs m)
  unfolding tank_step tank_of
  tank-step fs m s w =
      from-read {Q = NodeWritten text}
      (from-took (name s) (λ id fs p s.
      from-took (number-from s) (λ elevation fs x s. reservoir-or id elevation p s)))
      (λ n f. add-node n m f w)

  pub emitter-step : (fs : List Name) (m : Network) → All fs → Written text m → Fine (Written text) (emitter_step fs m)
  unfolding emitter_step set_emitter
  emitter-step fs m s w =
      from-read (any-read (emitter_of fs)) (λ e u.
      from_found (lookup (node_ids m) e.id.letters) (λ i.
      from-junction (get_or m.nodes i no_node).kind (λ j.
      goodly (with-nodes w (each-change i no_node (λ n. emitting n j e.coefficient) (λ n f. record { id = f.id; kind = tt }) w.nodes))) badly) badly)

  pub coordinates-step : (fs : List Name) (m : Network) → All fs → Written text m → Fine (Written text) (coordinates_step fs m)
  unfolding coordinates_step set_place
  coordinates-step fs m s w =
      from-read (any-read (pair_of fs)) (λ p u.
      from_found (lookup (node_ids m) p.id.letters) (λ i.
      goodly (with-nodes w (each-change i no_node (λ n. standing n (record { x = p.x; y = p.y })) (λ n f. record { id = f.id; kind = f.kind }) w.nodes))) badly)

  -- ---- links
  pub record LinkFine (l : LinkFields) : Type 0 where
    pub id : Sits text l.id
    pub kind : LinkKindWritten text l.kind

  add-link : (id : Name) (e : Ends) (k : LinkKind) (m : Network) → Sits text id → LinkKindWritten text k → Written text m → Fine (Written text) (add_link id e k m)
  unfolding add_link
  add-link id e k m p q w =
      from_found (lookup (link_ids m) id.letters) (λ i. badly)
      (from-if (ltb (length m.links) room_links)
      (goodly (record {
        nodes = w.nodes;
        links = each_append w.links (one (record { id = p; kind = q }));
        curves = w.curves;
        patterns = w.patterns;
        demands = w.demands;
        rules = w.rules;
        clauses = w.clauses;
        times = w.times;
      })) badly)

  store-link : (l : LinkFields) (m : Network) → LinkFine l → Written text m → Fine (Written text) (store_link l m)
  unfolding store_link
  store-link l m f w = from-read (any-read (ends_of l.start l.end m)) (λ e x. add-link l.id e l.kind m f.id f.kind w)

  pub pipe-step : (fs : List Name) (m : Network) → All fs → Written text m → Fine (Written text) (pipe_step fs m)
  unfolding pipe_step pipe_of
  pipe-step fs m s w =
      from-read {Q = LinkFine}
      (from-took (name s) (λ id fs p s.
      from-took (name s) (λ start fs x s.
      from-took (name s) (λ end fs x s.
      from-took (number-from s) (λ long fs x s.
      from-took (number-from s) (λ diameter fs x s.
      from-took (number-from s) (λ roughness fs x s.
      from-took (swallowed zero_f s) (λ minor fs x s. goodly (record { id = p; kind = tt })))))))))
      (λ l f. store-link l m f w)

  abbrev PumpFine : Pump → Type 0
  PumpFine p = SitsOr text p.head

  with-speed : (p : Pump) (d : Float) (n : Result Float NumberError) → PumpFine p → Fine PumpFine (with_speed p (as_swallowed d n []))
  with-speed p d (Ok x) h = goodly h
  with-speed p d (Err number.Malformed) h = goodly h
  with-speed p d (Err number.Beyond) h = badly

  with-power : (p : Pump) (d : Float) (n : Result Float NumberError) → PumpFine p → Fine PumpFine (with_power p (as_swallowed d n []))
  with-power p d (Ok x) h = goodly h
  with-power p d (Err number.Malformed) h = goodly h
  with-power p d (Err number.Beyond) h = badly

  with_pair-law : (p : Pump) (w v : Name) → PumpFine p → Sits text v → Fine PumpFine (with_pair p w v)
  unfolding with_pair
  with_pair-law p w v h q =
      from-if (same w.letters word_speed) (with-speed p one_f (number_of v.letters) h)
      (from-if (same w.letters word_head) (goodly q)
      (from-if (same w.letters word_power) (with-power p zero_f (number_of v.letters) h) (goodly h)))

  pump-from : (p : Pump) {fs : List Name} → PumpFine p → All fs → Fine PumpFine (pump_from p fs)
  unfolding pump_from
  pump-from p h nothing = goodly h
  pump-from p h (each q nothing) = goodly h
  pump-from p h (each {x = x} q (each {x = y} r s)) = from-read (with_pair-law p x y h r) (λ p h. pump-from p h s)

  pub pump-step : (fs : List Name) (m : Network) → All fs → Written text m → Fine (Written text) (pump_step fs m)
  unfolding pump_step
  pump-step fs m s w =
      from-took (name s) (λ id fs p s.
      from-took (name s) (λ start fs x s.
      from-took (name s) (λ end fs x s.
      from-read (any-read (ends_of start end m)) (λ e x.
      from-read (pump-from no_pump tt s) (λ u h. add-link id e (pump u) m p h w)))))

  abbrev SettingFine : Setting → Type 0
  SettingFine c = SitsOr text c.curve

  setting-took : {t : Took Float} → Fresh Any t → Fresh SettingFine (setting_took t)
  setting-took (fresh x s) = fresh tt s
  setting-took stale = stale

  curve-took : {t : Took (Option Name)} → Fresh (SitsOr text) t → Fresh SettingFine (curve_took t)
  curve-took (fresh x s) = fresh x s
  curve-took stale = stale

  setting-from : (type : ValveType) {fs : List Name} → All fs → Fresh SettingFine (setting_from type fs)
  unfolding setting_from
  setting-from Gpv s = curve-took (optional s)
  setting-from Tcv s = setting-took (swallowed zero_f s)
  setting-from Fcv s = setting-took (swallowed zero_f s)
  setting-from Prv s = setting-took (swallowed zero_f s)
  setting-from Psv s = setting-took (swallowed zero_f s)
  setting-from Pbv s = setting-took (swallowed zero_f s)
  setting-from Pcv s = setting-took (swallowed zero_f s)

  overrides : {fs : List Name} (c : Option Name) → All fs → SitsOr text c → SitsOr text (overriding fs c)
  overrides c nothing h = h
  overrides c (each p ps) h = p

  pub valve-step : (fs : List Name) (m : Network) → All fs → Written text m → Fine (Written text) (valve_step fs m)
  unfolding valve_step valve_of
  valve-step fs m s w =
      from-read {Q = LinkFine}
      (from-took (name s) (λ id fs p s.
      from-took (name s) (λ start fs x s.
      from-took (name s) (λ end fs x s.
      from-took (number-from s) (λ diameter fs x s.
      from-took (name s) (λ word fs x s.
      from-read (any-read (type_of word.letters)) (λ type x.
      from-took (setting-from type s) (λ setting fs h s.
      from-took (swallowed zero_f s) (λ minor fs x s. goodly (record { id = p; kind = overrides setting.curve s h }))))))))))
      (λ l f. store-link l m f w)

  -- ---- series
  with-curves : {m : Network} {xs : List Name} → Written text m → All xs → Written text (R.with_curves xs m)
  with-curves w s = record { nodes = w.nodes; links = w.links; curves = s; patterns = w.patterns; demands = w.demands; rules = w.rules; clauses = w.clauses; times = w.times }

  with-patterns : {m : Network} {xs : List Name} → Written text m → All xs → Written text (R.with_patterns xs m)
  with-patterns w s = record { nodes = w.nodes; links = w.links; curves = w.curves; patterns = s; demands = w.demands; rules = w.rules; clauses = w.clauses; times = w.times }

  with-points : {m : Network} (xs : List R.Point) → Written text m → Written text (R.with_points xs m)
  with-points xs w = record { nodes = w.nodes; links = w.links; curves = w.curves; patterns = w.patterns; demands = w.demands; rules = w.rules; clauses = w.clauses; times = w.times }

  with-multipliers : {m : Network} (xs : List R.Multiplier) → Written text m → Written text (R.with_multipliers xs m)
  with-multipliers xs w = record { nodes = w.nodes; links = w.links; curves = w.curves; patterns = w.patterns; demands = w.demands; rules = w.rules; clauses = w.clauses; times = w.times }

  pair-of : (fs : List Name) → All fs → Fine (λ (p : PairFields). Sits text p.id) (pair_of fs)
  unfolding pair_of
  pair-of fs s =
      from-took (name s) (λ id fs p s.
      from-took (number-from s) (λ x fs u s.
      from-took (number-from s) (λ y fs u s. goodly p)))

  pub curve-step : (fs : List Name) (m : Network) → All fs → Written text m → Fine (Written text) (curve_step fs m)
  unfolding curve_step add_point
  curve-step fs m s w =
      from-read (pair-of fs s) (λ p q.
      from_found (lookup m.curves p.id.letters)
      (λ i. from-if (falls p.x (last_x i m.points)) badly (from-if (ltb (length m.points) room_points) (goodly (with-points _ w)) badly))
      (from-if (ltb (length m.curves) room_curves && ltb (length m.points) room_points)
      (goodly (with-points _ (with-curves w (each_append w.curves (one q))))) badly))

  pattern-of : (fs : List Name) → All fs → Fine (λ (p : PatternFields). Sits text p.id) (pattern_of fs)
  unfolding pattern_of
  pattern-of fs s =
      from-took (name s) (λ id fs p s.
      from-read (any-read (multipliers_of fs)) (λ values u. goodly p))

  pub pattern-step : (fs : List Name) (m : Network) → All fs → Written text m → Fine (Written text) (pattern_step fs m)
  unfolding pattern_step add_pattern
  pattern-step fs m s w =
      from-read (pattern-of fs s) (λ p q.
      from_found (lookup m.patterns p.id.letters) (λ i. from-if (fitting m p.values) (goodly (with-multipliers _ w)) badly)
      (from-if (ltb (length m.patterns) room_patterns && fitting m p.values)
      (goodly (with-multipliers _ (with-patterns w (each_append w.patterns (one q))))) badly))

  demand-of : (fs : List Name) → All fs → Fine (λ (d : DemandFields). SitsOr text d.pattern) (demand_of fs)
  unfolding demand_of
  demand-of fs s =
      from-took (name s) (λ id fs p s.
      from-took (number-from s) (λ base fs u s.
      from-took (optional s) (λ pattern fs q s. goodly q)))

  pub demand-step : (fs : List Name) (m : Network) → All fs → Written text m → Fine (Written text) (demand_step fs m)
  unfolding demand_step set_demand add_demand
  demand-step fs m s w =
      from-read (demand-of fs s) (λ d q.
      from_found (lookup (node_ids m) d.id.letters) (λ i.
      from-junction (get_or m.nodes i no_node).kind (λ j.
      from_found (own_from 0 i m.demands) (λ k. goodly (with-demands w (each_set k w.demands q)))
      (from-if (ltb (length m.demands) room_demands) (goodly (with-demands w (each_append w.demands (one q)))) badly)) badly) badly)

  resolved-kind : (ps : List Name) (k : NodeKind) → NodeKindWritten text k → NodeKindWritten text (resolved_kind ps k)
  resolved-kind ps (junction j) h = h
  resolved-kind ps (reservoir r) h = h
  resolved-kind ps (tank t) h = h

  pub resolved-written : (m : Network) → Written text m → Written text (resolved m)
  unfolding resolved
  resolved-written m w =
      with-demands (with-nodes w (each_map (resolved_node m.patterns) (λ n f. record { id = f.id; kind = resolved-kind m.patterns n.kind f.kind }) w.nodes))
      (each_map (resolved_demand m.patterns) (λ d f. f) w.demands)

  -- ---- times
  with-times : {m : Network} (xs : List (Option ℕ)) → Written text m → length xs ≡ 6 → Written text (R.with_times xs m)
  with-times xs w l = record { nodes = w.nodes; links = w.links; curves = w.curves; patterns = w.patterns; demands = w.demands; rules = w.rules; clauses = w.clauses; times = l }

  time-set : (o : TimeOption) (n : ℕ) (m : Network) → Written text m → Written text (set_time o n m)
  time-set Duration n m w = with-times _ w (length-set m.times 0 (Some n) ∙ w.times)
  time-set HydraulicTimestep n m w = with-times _ w (length-set m.times 1 (Some n) ∙ w.times)
  time-set PatternTimestep n m w = with-times _ w (length-set m.times 2 (Some n) ∙ w.times)
  time-set ReportTimestep n m w = with-times _ w (length-set m.times 3 (Some n) ∙ w.times)
  time-set PatternStart n m w = with-times _ w (length-set m.times 4 (Some n) ∙ w.times)
  time-set StartClocktime n m w = with-times _ w (length-set m.times 5 (Some n) ∙ w.times)
  time-set Dropped n m w = w

  pub times-step : (fs : List Name) (m : Network) → Written text m → Fine (Written text) (times_step fs m)
  unfolding times_step
  times-step fs m w = from-read (any-read (times_of fs)) (λ t x. goodly (time-set t.option t.seconds m w))

  -- ---- rules
  abbrev AimFine : Aim → Type 0
  AimFine a = SitsOr text a.name

  aims : (n : Option Name) (t : Option Target) {fs : List Name} → SitsOr text n → All fs → Fresh AimFine (aimed n t fs)
  aims n None h s = stale
  aims n (Some t) h s = fresh h s

  system-from : {fs : List Name} → All fs → Fresh AimFine (system_from fs)
  system-from nothing = stale
  system-from (each {x} p ps) = aims None (system_target x.letters) tt ps

  named-from : (target : List ℕ → Option Target) {fs : List Name} → All fs → Fresh AimFine (named_from target fs)
  named-from target nothing = stale
  named-from target (each p nothing) = stale
  named-from target (each {x = x} p (each {x = y} q s)) = aims (Some x) (target y.letters) p s

  aim-from : {fs : List Name} → All fs → Fresh AimFine (aim_from fs)
  unfolding aim_from
  aim-from nothing = stale
  aim-from (each {x} p s) =
      took-if (same x.letters word_system) (system-from s)
      (took-if (same x.letters word_node) (named-from node_target s)
      (took-if (same x.letters word_tank) (named-from tank_target s)
      (took-if (is_link_word x.letters) (named-from link_target s) stale)))

  condition-of : (o : Operator) {fs : List Name} → All fs → Fine (λ (c : Condition). SitsOr text c.name) (condition_of o fs)
  unfolding condition_of
  condition-of o s =
      from-took (aim-from s) (λ aim fs h s.
      from-took (name s) (λ word fs x s.
      from-read (any-read (comparison_of word.letters)) (λ comparison x.
      from-read (any-read (value_of aim.target fs)) (λ value x. goodly h))))

  action-of : (otherwise : Bool) (m : Network) {fs : List Name} → All fs → Fine (λ (a : Action). Sits text a.name) (action_of otherwise m fs)
  unfolding action_of
  action-of otherwise m s =
      from-took (name s) (λ kind fs x s.
      from-took (name s) (λ id fs p s.
      from_found (lookup (link_ids m) id.letters) (λ i.
      from-read (any-read (kind_fits kind.letters (get_or m.links i no_link).kind)) (λ fits x.
      from-took (name s) (λ what fs x s.
      from-took (name s) (λ is fs x s.
      from-if (same is.letters word_is)
      (from-took (name s) (λ v fs x s.
      from-read (any-read (deed_of what.letters v)) (λ value x. goodly p)))
      badly))))
      badly))

  pub record DraftFine (d : Draft) : Type 0 where
    pub id : SitsOr text d.id
    pub clauses : Each (ClauseWritten text) d.clauses

  conditions : (o : Operator) {fs : List Name} (d : Draft) → All fs → DraftFine d → Fine DraftFine (conditioned o fs d)
  conditions o d s f = from-read (condition-of o s) (λ c h. goodly (record { id = f.id; clauses = each_append f.clauses (one h) }))

  acts : (acting otherwise marked : Bool) (m : Network) {fs : List Name} (d : Draft) → All fs → DraftFine d → Fine DraftFine (acted acting otherwise marked m fs d)
  acts acting otherwise marked m d s f = from-read (action-of marked m s) (λ a h. goodly (record { id = f.id; clauses = each_append f.clauses (one h) }))

  ands : (acting : Bool) (m : Network) {fs : List Name} (d : Draft) → All fs → DraftFine d → Fine DraftFine (anded acting m fs d)
  ands false m d s f = conditions And d s f
  ands true m d s f = acts true d.otherwise d.otherwise m d s f

  line-of : (m : Network) (d : Draft) {fs : List Name} → All fs → DraftFine d → Fine DraftFine (line_of m d fs)
  unfolding line_of
  line-of m d nothing f = badly
  line-of m d (each {x = x} {xs = fs} p s) f =
      from-if (same x.letters word_rule) (from-took (name s) (λ n fs q s. goodly (record { id = q; clauses = f.clauses })))
      (from-if (same x.letters word_if) (conditions And d s f)
      (from-if (same x.letters word_or) (conditions Or d s f)
      (from-if (same x.letters word_then) (acts true d.otherwise false m d s f)
      (from-if (same x.letters word_and) (ands d.acting m d s f)
      (from-if (same x.letters word_else) (acts d.acting true true m d s f)
      (from-if (same x.letters word_priority) (from-read (any-read (count_from fs)) (λ n y. goodly (record { id = f.id; clauses = f.clauses }))) badly))))))

  lines-of : (m : Network) (d : Draft) {ls : List (List Name)} → Each All ls → DraftFine d → Fine DraftFine (lines_of m d ls)
  unfolding lines_of
  lines-of m d nothing f = goodly f
  lines-of m d (each s ss) f = from-read (line-of m d s f) (λ e g. lines-of m e ss g)

  add-rule : (id : Name) (d : Draft) (m : Network) → Sits text id → DraftFine d → Written text m → Fine (Written text) (add_rule id d m)
  unfolding add_rule
  add-rule id d m p f w =
      from_found (lookup (rule_ids m) id.letters) (λ i. badly)
      (from-if (ltb (length m.rules) room_rules && leb (length m.clauses + length d.clauses) room_clauses)
      (goodly (record {
        nodes = w.nodes;
        links = w.links;
        curves = w.curves;
        patterns = w.patterns;
        demands = w.demands;
        rules = each_append w.rules (one p);
        clauses = each_append w.clauses f.clauses;
        times = w.times;
      })) badly)

  names : (id : Option Name) (d : Draft) (m : Network) → SitsOr text id → DraftFine d → Written text m → Fine (Written text) (named id d m)
  names None d m h f w = badly
  names (Some id) d m h f w = add-rule id d m h f w

  pub group-written : (ls : List (List Name)) (m : Network) → Each All ls → Written text m → Fine (Written text) (group_step ls m)
  unfolding group_step judged
  group-written ls m s w =
      from-read (lines-of m no_draft s (record { id = tt; clauses = nothing })) (λ d f.
      from-if (some? is_condition d.clauses) (from-if (some? is_action d.clauses) (names d.id d m f.id f w) badly) badly)

  -- ---- the fields of a line: the bytes c stand in the text at the place `at`
  abbrev Stood : ℕ → List ℕ → Type 0
  Stood at c = take (length c) (drop at text) ≡ c

  sits : (e from : ℕ) (n : Name) → StandsFrom (take e text) from n → Sits text n
  sits e from n s =
      let a : ℕ = n.at in
      let j : ℕ = length n.letters in
      let k : a + j - a ≡ j = omega arith in
      let b : a + j ≤ e = omega (arith, s.inside, length-take e text) in
      let p : take j (drop a (take e text)) ≡ take j (drop a text) = subst (λ x. take x (drop a (take e text)) ≡ take x (drop a text)) k (part-take a (a + j) e text b) in
      record { there = sym p ∙ s.there; some = s.some }

  sit-all : (e from : ℕ) (ns : List Name) → Ordered (take e text) from ns → All ns
  sit-all e from [] o = nothing
  sit-all e from (n ∷ ns) (s, o) = each (sits e from n s) (sit-all e (suc (n.at + length n.letters)) ns o)

  fields-sit : (at : ℕ) (c : List ℕ) → Stood at c → All (fields_of at c)
  fields-sit at c h =
      let e : ℕ = at + length c in
      let k : e - at ≡ length c = omega arith in
      let d : drop at (take e text) ≡ c = drop-take at e text ∙ ap (λ x. take x (drop at text)) k ∙ h in
      sit-all e at (fields_of at c) (ordered (take e text) at c d)

  pub rule-sit : (l : Line) → Stood l.start l.body → All (fields_of l.start l.body)
  rule-sit l h = fields-sit l.start l.body h

  pub section-sit : (l : Line) → Stood l.start l.body → All (fields_of l.start (cut_of l.body))
  section-sit l h =
      let b : List ℕ = l.body in
      let c : List ℕ = cut_of b in
      let p : take (length c) b ≡ c = cut-prefix b in
      let n : length c ≤ length b = omega (arith, ap length p, length-take (length c) b) in
      fields-sit l.start c (sym (take-take (length c) (length b) (drop l.start text) n) ∙ ap (take (length c)) h ∙ p)
