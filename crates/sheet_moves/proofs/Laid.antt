-- In every network that is read the rules lie end to end over the clauses, and each action's link is one of the links. Assumes nothing.
use Rattle.std.specs.Prelude.{None, Option, Some}
use Prim.{Unit, tt}
use Prim.Native.Nat.{ℕ, ◌+◌, ◌<◌, ◌≤◌}
use native.Mathlib.Omega.{arith}
use mathlib.Core.Path.{◌≡◌, refl, sym, ap, ◌∙◌}
use mathlib.Core.Bool.{Bool, true, false, cond, ◌&&◌}
use mathlib.Core.List.{List, [], ◌∷◌, ◌++◌, map}
use lib.ListN.{length, get_or, length-append, length-map}
use lib.Dec.{ltb, leb}
use Rattle.leaf_fields.specs.Fields.{Name}
use Rattle.leaf_letters.specs.Words.{same}
use Rattle.scope_lines.specs.Reader as L
use Rattle.scope_lines.specs.Text.{Line, lines_of, Each, nothing, each}
use Rattle.scope.specs.declared.Section.{Section}
use Rattle.scope.specs.declared.Section.TheVariants.{Junctions, Reservoirs, Tanks, Pipes, Pumps, Valves, Curves, Patterns, Demands, Emitters, Coordinates, Times, Rules, Passed}
use Rattle.scope.specs.declared.Operator.{Operator}
use Rattle.scope.specs.declared.Operator.TheVariants.{And, Or}
use Rattle.scope.specs.declared.TimeOption.{TimeOption}
use Rattle.scope.specs.declared.TimeOption.TheVariants.{Duration, HydraulicTimestep, PatternTimestep, ReportTimestep, PatternStart, StartClocktime, Dropped}
use Rattle.scope.specs.Spelling.{word_is, word_rule, word_if, word_and, word_or, word_then, word_else, word_priority}
use Rattle.scope.specs.Sections.{room_text, room_nodes, room_demands, room_links, room_curves, room_points, room_patterns, room_rules, room_clauses}
use Rattle.scope.specs.Records as R
use Rattle.scope.specs.Records.{Network, no_network, Node, NodeKind, junction, reservoir, tank, LinkKind, pump, Rule, Clause, condition, action, Action, no_node}
use Rattle.scope.specs.Records.{node_ids, link_ids, rule_ids, lookup, no_link}
use Rattle.scope.specs.Values.{Read, good, bad, on_read, Took, took, refused, on_took, on_found, name_from, count_from, pair_of}
use Rattle.scope.specs.Nodes.{junction_of, add_junction, junction_step, add_node, reservoir_of, reservoir_step, tank_of, tank_step, on_junction, emitter_of, set_emitter, emitter_step, set_place, coordinates_step}
use Rattle.scope.specs.Links.{new_link, Ends, ends_of, add_link, LinkFields, store_link, pipe_of, pipe_step, no_pump, pump_from, pump_step, valve_of, valve_step}
use Rattle.scope.specs.Series.{last_x, falls, add_point, curve_step, pattern_of, fitting, add_pattern, pattern_step, demand_of, own_from, add_demand, set_demand, demand_step, resolved}
use Rattle.scope.specs.Times.{set_time, times_of, times_step}
use Rattle.scope.specs.Rules.{condition_of, kind_fits, deed_of, action_of, Draft, no_draft, conditioned, acted, anded, line_of, is_condition, is_action, some?, add_rule, named, judged, group_step}
use Rattle.scope.specs.Rules as G
use Rattle.scope.specs.Lines.{section_fields, rule_fields, verdict, step_of, inp}
use Rattle.scope.specs.Reading.{at_start, strict_of, surveyed, network_in, all_low, strict_network, survey_network}
use Rattle.scope.proofs.WrittenLaws.{Fine, goodly, badly}
use Rattle.scope.proofs.Kept.{VerdictKeeps, keeps, refuses, StoredKeeps, passes, judges, Keeps, recs_in, survey-keeps, strict-keeps}
use Rattle.table_find.proofs.LookLaws.{found_below}

-- the rules' clauses are those from the place k up to the place n, one rule's after another's
pub data EndToEnd : ℕ → List Rule → ℕ → Type 0 where
  ended : {k n : ℕ} → k ≡ n → EndToEnd k [] n
  goes_on : {k n : ℕ} {r : Rule} {rs : List Rule} → r.first ≡ k → EndToEnd (k + r.count) rs n → EndToEnd k (r ∷ rs) n

-- an action's link is one of n links
abbrev pub LinkBelow : ℕ → Clause → Type 0
LinkBelow n (condition c) = Unit {0}
LinkBelow n (action a) = a.link < n

pub record LaidOver (links : ℕ) (rs : List Rule) (cs : List Clause) : Type 0 where
  pub rules : EndToEnd 0 rs (length cs)
  pub actions : Each (LinkBelow links) cs

abbrev pub Laid : Network → Type 0
Laid m = LaidOver (length m.links) m.rules m.clauses

-- ---- lists
each_append : {X : Type 0} {P : X → Type 0} {xs ys : List X} → Each P xs → Each P ys → Each P (xs ++ ys)
each_append nothing qs = qs
each_append (each p ps) qs = each p (each_append ps qs)

each-also : {X : Type 0} {P Q : X → Type 0} {xs : List X} → ((x : X) → P x → Q x) → Each P xs → Each Q xs
each-also h nothing = nothing
each-also h (each {x} p ps) = each (h x p) (each-also h ps)

abbrev Any : {X : Type 0} → X → Type 0
Any x = Unit {0}

each-any : {X : Type 0} (xs : List X) → Each Any xs
each-any [] = nothing
each-any (x ∷ xs) = each tt (each-any xs)

-- ---- a rule more, a link more
rule-more : {k n : ℕ} {rs : List Rule} (r : Rule) → EndToEnd k rs n → r.first ≡ n → {e : ℕ} → n + r.count ≡ e → EndToEnd k (rs ++ (r ∷ [])) e
rule-more r (ended p) f q = goes_on (f ∙ sym p) (ended (ap (λ (j : ℕ). j + r.count) p ∙ q))
rule-more r (goes_on p rest) f q = goes_on p (rule-more r rest f q)

still-below : {n l : ℕ} → n ≤ l → (c : Clause) → LinkBelow n c → LinkBelow l c
still-below le (condition c) p = tt
still-below le (action a) p = omega arith

link-more : {n l : ℕ} {rs : List Rule} {cs : List Clause} → n ≤ l → LaidOver n rs cs → LaidOver l rs cs
link-more le w = record { rules = w.rules; actions = each-also (still-below le) w.actions }

-- ---- the ways in which a reader's definition is put together
module _ {B : Type 0} {P : B → Type 0} where
  from-read : {A : Type 0} (t : Read A) {k : A → Read B} → ((a : A) → Fine P (k a)) → Fine P (on_read t k)
  from-read (good a) h = h a
  from-read (bad r) h = badly

  from-fine : {A : Type 0} {Q : A → Type 0} {t : Read A} {k : A → Read B} → Fine Q t → ((a : A) → Q a → Fine P (k a)) → Fine P (on_read t k)
  from-fine (goodly {a} q) h = h a q
  from-fine badly h = badly

  from-took : {A : Type 0} (t : Took A) {k : A → List Name → Read B} → ((a : A) (fs : List Name) → Fine P (k a fs)) → Fine P (on_took t k)
  from-took (took a fs) h = h a fs
  from-took (refused r) h = badly

  from_found : (t : Option ℕ) {k : ℕ → Read B} {b : Read B} → ((i : ℕ) → t ≡ Some i → Fine P (k i)) → Fine P b → Fine P (on_found t k b)
  from_found (Some i) h d = h i refl
  from_found None h d = d

  from-if : (t : Bool) {x y : Read B} → Fine P x → Fine P y → Fine P (cond t x y)
  from-if true p q = p
  from-if false p q = q

  from-junction : (k : NodeKind) {f : R.Junction → Read B} {b : Read B} → ((j : R.Junction) → Fine P (f j)) → Fine P b → Fine P (on_junction k f b)
  from-junction (junction j) h d = h j
  from-junction (reservoir r) h d = d
  from-junction (tank t) h d = d

-- ---- sections that store neither links nor rules
junction-step : (fs : List Name) (m : Network) → Laid m → Fine Laid (junction_step fs m)
unfolding junction_step add_junction
junction-step fs m w =
    from-read (junction_of fs) (λ j.
    from_found (lookup (node_ids m) j.id.letters) (λ i e. badly)
    (from-if (ltb (length m.nodes) room_nodes && ltb (length m.demands) room_demands) (goodly w) badly))

add-node : (n : Node) (m : Network) → Laid m → Fine Laid (add_node n m)
unfolding add_node
add-node n m w = from_found (lookup (node_ids m) n.id.letters) (λ i e. badly) (from-if (ltb (length m.nodes) room_nodes) (goodly w) badly)

reservoir-step : (fs : List Name) (m : Network) → Laid m → Fine Laid (reservoir_step fs m)
unfolding reservoir_step
reservoir-step fs m w = from-read (reservoir_of fs) (λ n. add-node n m w)

tank-step : (fs : List Name) (m : Network) → Laid m → Fine Laid (tank_step fs m)
unfolding tank_step
tank-step fs m w = from-read (tank_of fs) (λ n. add-node n m w)

emitter-step : (fs : List Name) (m : Network) → Laid m → Fine Laid (emitter_step fs m)
unfolding emitter_step set_emitter
emitter-step fs m w =
    from-read (emitter_of fs) (λ f.
    from_found (lookup (node_ids m) f.id.letters) (λ i e. from-junction (get_or m.nodes i no_node).kind (λ j. goodly w) badly) badly)

coordinates-step : (fs : List Name) (m : Network) → Laid m → Fine Laid (coordinates_step fs m)
unfolding coordinates_step set_place
coordinates-step fs m w = from-read (pair_of fs) (λ p. from_found (lookup (node_ids m) p.id.letters) (λ i e. goodly w) badly)

curve-step : (fs : List Name) (m : Network) → Laid m → Fine Laid (curve_step fs m)
unfolding curve_step add_point
curve-step fs m w =
    from-read (pair_of fs) (λ p.
    from_found (lookup m.curves p.id.letters)
    (λ i e. from-if (falls p.x (last_x i m.points)) badly (from-if (ltb (length m.points) room_points) (goodly w) badly))
    (from-if (ltb (length m.curves) room_curves && ltb (length m.points) room_points) (goodly w) badly))

pattern-step : (fs : List Name) (m : Network) → Laid m → Fine Laid (pattern_step fs m)
unfolding pattern_step add_pattern
pattern-step fs m w =
    from-read (pattern_of fs) (λ p.
    from_found (lookup m.patterns p.id.letters) (λ i e. from-if (fitting m p.values) (goodly w) badly)
    (from-if (ltb (length m.patterns) room_patterns && fitting m p.values) (goodly w) badly))

demand-step : (fs : List Name) (m : Network) → Laid m → Fine Laid (demand_step fs m)
unfolding demand_step set_demand add_demand
demand-step fs m w =
    from-read (demand_of fs) (λ d.
    from_found (lookup (node_ids m) d.id.letters) (λ i e.
    from-junction (get_or m.nodes i no_node).kind (λ j.
    from_found (own_from 0 i m.demands) (λ k e. goodly w)
    (from-if (ltb (length m.demands) room_demands) (goodly w) badly)) badly) badly)

time-set : (o : TimeOption) (n : ℕ) (m : Network) → Laid m → Laid (set_time o n m)
time-set Duration n m w = w
time-set HydraulicTimestep n m w = w
time-set PatternTimestep n m w = w
time-set ReportTimestep n m w = w
time-set PatternStart n m w = w
time-set StartClocktime n m w = w
time-set Dropped n m w = w

times-step : (fs : List Name) (m : Network) → Laid m → Fine Laid (times_step fs m)
unfolding times_step
times-step fs m w = from-read (times_of fs) (λ t. goodly (time-set t.option t.seconds m w))

-- ---- links
add-link : (id : Name) (e : Ends) (k : LinkKind) (m : Network) → Laid m → Fine Laid (add_link id e k m)
unfolding add_link
add-link id e k m w =
    from_found (lookup (link_ids m) id.letters) (λ i x. badly)
    (from-if (ltb (length m.links) room_links) (goodly (link-more (omega (arith, length-append m.links (new_link id e k ∷ []))) w)) badly)

store-link : (l : LinkFields) (m : Network) → Laid m → Fine Laid (store_link l m)
unfolding store_link
store-link l m w = from-read (ends_of l.start l.end m) (λ e. add-link l.id e l.kind m w)

pipe-step : (fs : List Name) (m : Network) → Laid m → Fine Laid (pipe_step fs m)
unfolding pipe_step
pipe-step fs m w = from-read (pipe_of fs) (λ l. store-link l m w)

pump-step : (fs : List Name) (m : Network) → Laid m → Fine Laid (pump_step fs m)
unfolding pump_step
pump-step fs m w =
    from-took (name_from fs) (λ id fs.
    from-took (name_from fs) (λ start fs.
    from-took (name_from fs) (λ end fs.
    from-read (ends_of start end m) (λ e.
    from-read (pump_from no_pump fs) (λ p. add-link id e (pump p) m w)))))

valve-step : (fs : List Name) (m : Network) → Laid m → Fine Laid (valve_step fs m)
unfolding valve_step
valve-step fs m w = from-read (valve_of fs) (λ l. store-link l m w)

-- ---- rules: the link of each action is looked up, so it is one of the links
module _ (m : Network) where
  abbrev Linked : Clause → Type 0
  Linked c = LinkBelow (length m.links) c

  abbrev DraftLinked : Draft → Type 0
  DraftLinked d = Each Linked d.clauses

  action-of : (otherwise : Bool) (fs : List Name) → Fine (λ (a : Action). a.link < length m.links) (action_of otherwise m fs)
  unfolding action_of
  action-of otherwise fs =
      from-took (name_from fs) (λ kind fs.
      from-took (name_from fs) (λ id fs.
      from_found (lookup (link_ids m) id.letters) (λ i e.
      from-read (kind_fits kind.letters (get_or m.links i no_link).kind) (λ fits.
      from-took (name_from fs) (λ what fs.
      from-took (name_from fs) (λ is fs.
      from-if (same is.letters word_is)
      (from-took (name_from fs) (λ v fs.
      from-read (deed_of what.letters v) (λ value.
      goodly (omega (arith, found_below (link_ids m) id.letters e, length-map m.links (λ (l : R.Link). l.id))))))
      badly))))
      badly))

  conditions : (o : Operator) (fs : List Name) (d : Draft) → DraftLinked d → Fine DraftLinked (conditioned o fs d)
  conditions o fs d f = from-read (condition_of o fs) (λ c. goodly (each_append f (each tt nothing)))

  acts : (acting otherwise marked : Bool) (fs : List Name) (d : Draft) → DraftLinked d → Fine DraftLinked (acted acting otherwise marked m fs d)
  acts acting otherwise marked fs d f = from-fine (action-of marked fs) (λ a h. goodly (each_append f (each h nothing)))

  ands : (acting : Bool) (fs : List Name) (d : Draft) → DraftLinked d → Fine DraftLinked (anded acting m fs d)
  ands false fs d f = conditions And fs d f
  ands true fs d f = acts true d.otherwise d.otherwise fs d f

  line-of : (d : Draft) (fs : List Name) → DraftLinked d → Fine DraftLinked (line_of m d fs)
  unfolding line_of
  line-of d [] f = badly
  line-of d (w ∷ fs) f =
      from-if (same w.letters word_rule) (from-took (name_from fs) (λ n fs. goodly f))
      (from-if (same w.letters word_if) (conditions And fs d f)
      (from-if (same w.letters word_or) (conditions Or fs d f)
      (from-if (same w.letters word_then) (acts true d.otherwise false fs d f)
      (from-if (same w.letters word_and) (ands d.acting fs d f)
      (from-if (same w.letters word_else) (acts d.acting true true fs d f)
      (from-if (same w.letters word_priority) (from-read (count_from fs) (λ n. goodly f)) badly))))))

  lines-of : (d : Draft) (ls : List (List Name)) → DraftLinked d → Fine DraftLinked (G.lines_of m d ls)
  unfolding G.lines_of
  lines-of d [] f = goodly f
  lines-of d (l ∷ ls) f = from-fine (line-of d l f) (λ e g. lines-of e ls g)

  -- ..and the group's rule starts where the last one ends
  module _ (w : Laid m) where
    add-rule : (id : Name) (d : Draft) → DraftLinked d → Fine Laid (add_rule id d m)
    unfolding add_rule
    add-rule id d f =
        from_found (lookup (rule_ids m) id.letters) (λ i e. badly)
        (from-if (ltb (length m.rules) room_rules && leb (length m.clauses + length d.clauses) room_clauses)
        (goodly (record {
          rules = rule-more _ w.rules refl (omega (arith, length-append m.clauses d.clauses));
          actions = each_append w.actions f;
        })) badly)

    names : (id : Option Name) (d : Draft) → DraftLinked d → Fine Laid (named id d m)
    names None d f = badly
    names (Some id) d f = add-rule id d f

    group-step : (ls : List (List Name)) → Fine Laid (group_step ls m)
    unfolding group_step judged
    group-step ls =
        from-fine (lines-of no_draft ls nothing) (λ d f.
        from-if (some? is_condition d.clauses) (from-if (some? is_action d.clauses) (names d.id d f) badly) badly)

-- ---- a reading
verdict-keeps : {r : Read Network} → Fine Laid r → VerdictKeeps Laid (verdict r)
verdict-keeps (goodly w) = keeps w
verdict-keeps badly = refuses

steps : (s : Section) (fs : List Name) (m : Network) → Laid m → StoredKeeps Laid (step_of s fs m)
unfolding step_of
steps Junctions fs m w = judges (verdict-keeps (junction-step fs m w))
steps Reservoirs fs m w = judges (verdict-keeps (reservoir-step fs m w))
steps Tanks fs m w = judges (verdict-keeps (tank-step fs m w))
steps Pipes fs m w = judges (verdict-keeps (pipe-step fs m w))
steps Pumps fs m w = judges (verdict-keeps (pump-step fs m w))
steps Valves fs m w = judges (verdict-keeps (valve-step fs m w))
steps Curves fs m w = judges (verdict-keeps (curve-step fs m w))
steps Patterns fs m w = judges (verdict-keeps (pattern-step fs m w))
steps Demands fs m w = judges (verdict-keeps (demand-step fs m w))
steps Emitters fs m w = judges (verdict-keeps (emitter-step fs m w))
steps Coordinates fs m w = judges (verdict-keeps (coordinates-step fs m w))
steps Times fs m w = judges (verdict-keeps (times-step fs m w))
steps Rules fs m w = passes
steps Passed fs m w = passes

stores : (s : Section) (l : Line) (m : Network) → Any l → Laid m → StoredKeeps Laid (inp.store s l m)
unfolding inp
stores s l m p w = steps s (section_fields l) m w

shuts : (g : List Line) (m : Network) → Each Any g → Laid m → VerdictKeeps Laid (inp.close g m)
unfolding inp
shuts g m ps w = verdict-keeps (group-step m w (map rule_fields g))

ends : (m : Network) → Laid m → Laid (inp.finish m)
unfolding inp resolved
ends m w = w

empty : Laid no_network
empty = record { rules = ended refl; actions = nothing }

begins : Keeps inp Laid Any stores shuts ends at_start
begins = record { lines = nothing; recs = empty }

surveyed-laid : (text : List ℕ) → Laid (surveyed text)
unfolding surveyed
surveyed-laid text = survey-keeps inp Laid Any stores shuts ends at_start begins (each-any (lines_of text))

network_in-laid : (r : L.Reply Line Network) → Laid (recs_in r) → Laid (network_in r)
unfolding network_in
network_in-laid (L.accepted m) w = w
network_in-laid (L.stopped n p m) w = w

strictly-laid : (text : List ℕ) → Laid (network_in (strict_of text))
unfolding strict_of
strictly-laid text = network_in-laid _ (strict-keeps inp Laid Any stores shuts ends at_start begins (each-any (lines_of text)))

chosen : (a b : Bool) (m : Network) → Laid m → Laid (cond a no_network (cond b m no_network))
chosen true b m w = empty
chosen false true m w = w
chosen false false m w = empty

pub strict-laid : (text : List ℕ) → Laid (strict_network text)
unfolding strict_network
strict-laid text = chosen (ltb room_text (length text)) (all_low text) (network_in (strict_of text)) (strictly-laid text)

pub survey-laid : (text : List ℕ) → Laid (survey_network text)
unfolding survey_network
survey-laid text = chosen (ltb room_text (length text)) (all_low text) (surveyed text) (surveyed-laid text)
