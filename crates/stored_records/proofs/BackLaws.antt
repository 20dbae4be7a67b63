-- What is read from the words and numbers of a node, link, rule or clause is the record. Assumes nothing.
use Rattle.std.specs.Prelude.{None, Option, Some}
use Prim.Native.Nat.{ℕ, ◌+◌, ◌*◌, ◌≤◌, ◌<◌}
use native.Mathlib.Omega.{arith}
use mathlib.Core.Path.{◌≡◌, refl, sym, ◌∙◌}
use mathlib.Core.Logic.{inl, inr}
use mathlib.Core.Bool.{true}
use mathlib.Core.List.{List}
use lib.ListN.{length, get_or, take, drop, replicate, get_or-eq_default}
use lib.Seq.{get_or-take}
use lib.Ieee.{Float, nan}
use Rattle.leaf_fields.specs.Fields.{Name}
use Rattle.scope.specs.Records.{Network, Node, NodeKind, junction, reservoir, tank, Reservoir, Tank, Place, Link, LinkKind, pipe, pump, valve, Pump, Valve, Rule}
use Rattle.scope.specs.Records.{Clause, condition, action, Condition, no_node, zero_f, no_link, no_rule, no_clause}
use Rattle.scope.specs.Links.{new_link}
use Rattle.scope.specs.Tables.{packed, node_words, node_numbers, link_words, link_numbers, rule_words, clause_words, clause_numbers}
use Rattle.scope.specs.Sections.{room_nodes, room_links, room_rules, room_clauses}
use Rattle.scope.specs.Layout.{id_place, id_length, name_length, node_kind, node_name, node_detail, node_placed, link_start, link_end, link_kind, link_detail, link_name}
use Rattle.scope.specs.Layout.{rule_first, rule_count, rule_priority_set, rule_priority}
use Rattle.scope.specs.Layout.{clause_kind, condition_operator, condition_target, condition_comparison, action_else, action_link, clause_status, clause_name}
use Rattle.scope.specs.Layout.{node_elevation, junction_emitter, tank_initial, tank_minimum, tank_maximum, tank_diameter, tank_volume, node_x, node_y, pipe_length, pipe_diameter, pipe_roughness, pipe_minor}
use Rattle.scope.specs.Layout.{nodes_at, links_at, rules_at, clauses_at, nodes_width, links_width, rules_width, clauses_width, node_numbers_at, link_numbers_at}
use Rattle.scope.specs.Layout.{clause_numbers_at, node_numbers_width, link_numbers_width, record_words, room_numbers}
use Rattle.table_codes.specs.CodeLaws.{pipe_status_back, type_back, target_back, comparison_back, operator_back, value_back}
use Rattle.table_codes.proofs.CodeLaws.{flag-back}
use Rattle.stored_words.proofs.WordLaws.{found_back}
use Rattle.stored_counts.specs.Room.{has_room, have_room}
use Rattle.stored_counts.proofs.RoomLaws.{room-is, rooms-are}
use Rattle.stored_records.specs.Back.{Stands, words_in, numbers_in, clause_by, node_back, link_back, rule_back, clause_back}
use Rattle.stored_records.proofs.Whole.{node_by, link_by, rule_by}
use Rattle.leaf_decimals.proofs.Whole.{le-or-lt}
use Rattle.table_rows.proofs.SizeLaws.{node-words-lie, link-words-lie, rule-words-lie, clause-words-lie, node-numbers-lie, link-numbers-lie, clause-numbers-lie}
use Rattle.table_rows.proofs.ReadLaws.{one_place, node-word, link-word, clause-word, node-number, link-number, clause-number}
use Rattle.stored_records.proofs.PastLaws.{past_word, any_word, in_row, only}

-- ---- nodes
abbrev reservoir_of : Reservoir → Option Name → Option ℕ → NodeKind
reservoir_of r n o = reservoir (record { elevation = r.elevation; pattern = n; index = o })

abbrev tank_of : Tank → Option Name → NodeKind
tank_of t n = tank (record { elevation = t.elevation; initial = t.initial; minimum = t.minimum; maximum = t.maximum; diameter = t.diameter; volume = t.volume; curve = n; overflow = t.overflow })

module _ (id : Name) where
  abbrev with : NodeKind → Option Place → Node
  with k p = record { id = id; kind = k; place = p }

  abbrev Back : NodeKind → Option Place → Type 0
  Back k p = node_by (words_in (node_words (with k p))) (numbers_in (node_numbers (with k p))) ≡ node_back (with k p)

  reservoir-back : (r : Reservoir) (n : Option Name) (o : Option ℕ) (p : Option Place) → Back (reservoir_of r n o) p
  reservoir-back r None o None = rw (found_back o)
  reservoir-back r None o (Some q) = rw (found_back o)
  reservoir-back r (Some n) o None = rw (found_back o)
  reservoir-back r (Some n) o (Some q) = rw (found_back o)

  tank-back : (t : Tank) (n : Option Name) (p : Option Place) → Back (tank_of t n) p
  tank-back t None None = rw (flag-back t.overflow)
  tank-back t None (Some q) = rw (flag-back t.overflow)
  tank-back t (Some n) None = rw (flag-back t.overflow)
  tank-back t (Some n) (Some q) = rw (flag-back t.overflow)

  kind-back : (k : NodeKind) (p : Option Place) → Back k p
  kind-back (junction j) None = rw (flag-back j.disabled)
  kind-back (junction j) (Some q) = rw (flag-back j.disabled)
  kind-back (reservoir r) p = reservoir-back r r.pattern r.index p
  kind-back (tank t) p = tank-back t t.curve p

-- ---- links
abbrev pump_of : Pump → Option Name → LinkKind
pump_of p n = pump (record { speed = p.speed; head = n; power = p.power })

abbrev valve_of : Valve → Option Name → LinkKind
valve_of v n = valve (record { type = v.type; diameter = v.diameter; setting = v.setting; minor = v.minor; curve = n })

module _ (l : Link) where
  abbrev linked : LinkKind → Link
  linked k = new_link l.id (record { start = l.start; end = l.end }) k

  abbrev LinkBack : LinkKind → Type 0
  LinkBack k = link_by (words_in (link_words (linked k))) (numbers_in (link_numbers (linked k))) ≡ link_back (linked k)

  pump-back : (p : Pump) (n : Option Name) → LinkBack (pump_of p n)
  pump-back p None = refl
  pump-back p (Some n) = refl

  valve-back : (v : Valve) (n : Option Name) → LinkBack (valve_of v n)
  valve-back v None = rw (type_back v.type)
  valve-back v (Some n) = rw (type_back v.type)

  link-back : (k : LinkKind) → LinkBack k
  link-back (pipe p) = rw (pipe_status_back p.status)
  link-back (pump p) = pump-back p p.head
  link-back (valve v) = valve-back v v.curve

-- ---- rules and clauses
rule-back : (r : Rule) (o : Option ℕ) → rule_by (words_in (rule_words (record { id = r.id; priority = o; first = r.first; count = r.count })))
    ≡ rule_back (record { id = r.id; priority = o; first = r.first; count = r.count })
rule-back r None = refl
rule-back r (Some n) = refl

condition-back : (c : Condition) (n : Option Name) → let d : Clause = condition (record { operator = c.operator; target = c.target; name = n; comparison = c.comparison; value = c.value }) in
    clause_by (words_in (clause_words d)) (numbers_in (clause_numbers d) 0) ≡ clause_back d
condition-back c None = rw (operator_back c.operator, target_back c.target, comparison_back c.comparison, value_back c.value)
condition-back c (Some n) = rw (operator_back c.operator, target_back c.target, comparison_back c.comparison, value_back c.value)

clause-back : (c : Clause) → clause_by (words_in (clause_words c)) (numbers_in (clause_numbers c) 0) ≡ clause_back c
clause-back (condition c) = condition-back c c.name
clause-back (action a) = rw (value_back a.value, flag-back a.otherwise)

-- ---- what stands past the end is zeros
no-rule : rule_words no_rule ≡ replicate rules_width 0
unfolding packed
no-rule = refl

-- ---- record i of the tables
-- a place within the rooms, in tables that may be longer
pub word : (w : List ℕ) (at : ℕ) → at < record_words → get_or w at 0 ≡ get_or (take record_words w) at 0
word w at h = sym (get_or-take record_words w at 0 h)

pub number : (f : List Float) (at : ℕ) → at < room_numbers → get_or f at nan ≡ get_or (take room_numbers f) at nan
number f at h = sym (get_or-take room_numbers f at nan h)

module _ {m : Network} {w : List ℕ} {f : List Float} (g : Stands m w f) (i : ℕ) (row : List ℕ) (numbers : List Float) where
  abbrev NodeIs : Type 0
  NodeIs = node_by (words_in row) (numbers_in numbers) ≡ node_back (get_or m.nodes i no_node)

  node-here : row ≡ take nodes_width (drop (nodes_at + i * nodes_width) w) → numbers ≡ take node_numbers_width (drop (node_numbers_at + i * node_numbers_width) f) → i < room_nodes → i < length m.nodes → NodeIs
  node-here p q h hi =
      let a : (j : ℕ) → j < nodes_width → words_in row j ≡ words_in (node_words (get_or m.nodes i no_node)) j =
      λ j hj. in_row w (nodes_at + i * nodes_width) nodes_width p j 0 hj ∙ word w (nodes_at + i * nodes_width + j) (omega arith) ∙ node-word g.words i j no_node hi hj in
      let b : (j : ℕ) → j < node_numbers_width → numbers_in numbers j ≡ numbers_in (node_numbers (get_or m.nodes i no_node)) j =
      λ j hj. in_row f (node_numbers_at + i * node_numbers_width) node_numbers_width q j nan hj ∙ number f (node_numbers_at + i * node_numbers_width + j) (omega arith) ∙ node-number g.words.known g.numbers i j nan no_node hi hj in
      rw (
        a id_place (omega arith),
        a id_length (omega arith),
        a node_kind (omega arith),
        a node_name (omega arith),
        a (node_name + name_length) (omega arith),
        a node_detail (omega arith),
        a node_placed (omega arith),
        b node_elevation (omega arith),
        b tank_initial (omega arith),
        b tank_minimum (omega arith),
        b tank_maximum (omega arith),
        b tank_diameter (omega arith),
        b tank_volume (omega arith),
        b node_x (omega arith),
        b node_y (omega arith),
      )
      (kind-back (get_or m.nodes i no_node).id (get_or m.nodes i no_node).kind (get_or m.nodes i no_node).place)

  node-past : row ≡ take nodes_width (drop (nodes_at + i * nodes_width) w) → numbers ≡ take node_numbers_width (drop (node_numbers_at + i * node_numbers_width) f) → i < room_nodes → length m.nodes ≤ i → NodeIs
  node-past p q h past =
      let a : (j : ℕ) → j < nodes_width → words_in row j ≡ 0 =
      λ j hj. in_row w (nodes_at + i * nodes_width) nodes_width p j 0 hj ∙ word w (nodes_at + i * nodes_width + j) (omega arith) ∙ past_word (node-words-lie g.words.known) g.words.exact i j 0 past (omega arith) in
      let b : (j : ℕ) → j < node_numbers_width → numbers_in numbers j ≡ zero_f =
      λ j hj. in_row f (node_numbers_at + i * node_numbers_width) node_numbers_width q j nan hj ∙ number f (node_numbers_at + i * node_numbers_width + j) (omega arith) ∙ past_word (node-numbers-lie g.words.known) g.numbers.exact i j nan past (omega arith) in
      rw (
        a id_place (omega arith),
        a id_length (omega arith),
        a node_kind (omega arith),
        a node_detail (omega arith),
        a node_placed (omega arith),
        b node_elevation (omega arith),
        b junction_emitter (omega arith),
        get_or-eq_default m.nodes no_node past,
      )

  pub node-is : row ≡ take nodes_width (drop (nodes_at + i * nodes_width) w) → numbers ≡ take node_numbers_width (drop (node_numbers_at + i * node_numbers_width) f) → have_room (length w) (length f) room_nodes i ≡ true → NodeIs
  node-is p q e = let h = (rooms-are (length w) room_nodes i (length f) e).0 in elim (le-or-lt (length m.nodes) i) [ inl past ↦ node-past p q h past | inr hi ↦ node-here p q h hi ]

  abbrev LinkIs : Type 0
  LinkIs = link_by (words_in row) (numbers_in numbers) ≡ link_back (get_or m.links i no_link)

  link_here : row ≡ take links_width (drop (links_at + i * links_width) w) → numbers ≡ take link_numbers_width (drop (link_numbers_at + i * link_numbers_width) f) → i < room_links → i < length m.links → LinkIs
  link_here p q h hi =
      let a : (j : ℕ) → j < links_width → words_in row j ≡ words_in (link_words (get_or m.links i no_link)) j =
      λ j hj. in_row w (links_at + i * links_width) links_width p j 0 hj ∙ word w (links_at + i * links_width + j) (omega arith) ∙ link-word g.words i j no_link hi hj in
      let b : (j : ℕ) → j < link_numbers_width → numbers_in numbers j ≡ numbers_in (link_numbers (get_or m.links i no_link)) j =
      λ j hj. in_row f (link_numbers_at + i * link_numbers_width) link_numbers_width q j nan hj ∙ number f (link_numbers_at + i * link_numbers_width + j) (omega arith) ∙ link-number g.words.known g.numbers i j nan no_link hi hj in
      rw (
        a id_place (omega arith),
        a id_length (omega arith),
        a link_start (omega arith),
        a link_end (omega arith),
        a link_kind (omega arith),
        a link_detail (omega arith),
        a link_name (omega arith),
        a (link_name + name_length) (omega arith),
        b pipe_length (omega arith),
        b pipe_diameter (omega arith),
        b pipe_roughness (omega arith),
        b pipe_minor (omega arith),
      )
      (link-back (get_or m.links i no_link) (get_or m.links i no_link).kind)

  link-past : row ≡ take links_width (drop (links_at + i * links_width) w) → numbers ≡ take link_numbers_width (drop (link_numbers_at + i * link_numbers_width) f) → i < room_links → length m.links ≤ i → LinkIs
  link-past p q h past =
      let a : (j : ℕ) → j < links_width → words_in row j ≡ 0 =
      λ j hj. in_row w (links_at + i * links_width) links_width p j 0 hj ∙ word w (links_at + i * links_width + j) (omega arith) ∙ past_word (link-words-lie g.words.known) g.words.exact i j 0 past (omega arith) in
      let b : (j : ℕ) → j < link_numbers_width → numbers_in numbers j ≡ zero_f =
      λ j hj. in_row f (link_numbers_at + i * link_numbers_width) link_numbers_width q j nan hj ∙ number f (link_numbers_at + i * link_numbers_width + j) (omega arith) ∙ past_word (link-numbers-lie g.words.known) g.numbers.exact i j nan past (omega arith) in
      rw (
        a id_place (omega arith),
        a id_length (omega arith),
        a link_start (omega arith),
        a link_end (omega arith),
        a link_kind (omega arith),
        a link_detail (omega arith),
        b pipe_length (omega arith),
        b pipe_diameter (omega arith),
        b pipe_roughness (omega arith),
        b pipe_minor (omega arith),
        get_or-eq_default m.links no_link past,
      )

  pub link-is : row ≡ take links_width (drop (links_at + i * links_width) w) → numbers ≡ take link_numbers_width (drop (link_numbers_at + i * link_numbers_width) f) → have_room (length w) (length f) room_links i ≡ true → LinkIs
  link-is p q e = let h = (rooms-are (length w) room_links i (length f) e).0 in elim (le-or-lt (length m.links) i) [ inl past ↦ link-past p q h past | inr hi ↦ link_here p q h hi ]

  abbrev ClauseIs : Type 0
  ClauseIs = clause_by (words_in row) (numbers_in numbers 0) ≡ clause_back (get_or m.clauses i no_clause)

  clause-here : row ≡ take clauses_width (drop (clauses_at + i * clauses_width) w) → numbers ≡ take 1 (drop (clause_numbers_at + i * 1) f) → i < room_clauses → i < length m.clauses → ClauseIs
  clause-here p q h hi =
      let a : (j : ℕ) → j < clauses_width → words_in row j ≡ words_in (clause_words (get_or m.clauses i no_clause)) j =
      λ j hj. in_row w (clauses_at + i * clauses_width) clauses_width p j 0 hj ∙ word w (clauses_at + i * clauses_width + j) (omega arith) ∙ clause-word g.words i j no_clause hi hj in
      let b : numbers_in numbers 0 ≡ numbers_in (clause_numbers (get_or m.clauses i no_clause)) 0 =
      only f clause_numbers_at i nan q
      ∙ number f (clause_numbers_at + i) (omega arith) ∙ clause-number g.words.known g.numbers i nan no_clause hi in
      rw (a clause_kind (omega arith), a condition_operator (omega arith), a condition_target (omega arith), a condition_comparison (omega arith), a clause_status (omega arith), a clause_name (omega arith), a (clause_name + name_length) (omega arith), b)
      (clause-back (get_or m.clauses i no_clause))

  clause-past : row ≡ take clauses_width (drop (clauses_at + i * clauses_width) w) → numbers ≡ take 1 (drop (clause_numbers_at + i * 1) f) → i < room_clauses → length m.clauses ≤ i → ClauseIs
  clause-past p q h past =
      let a : (j : ℕ) → j < clauses_width → words_in row j ≡ 0 =
      λ j hj. in_row w (clauses_at + i * clauses_width) clauses_width p j 0 hj ∙ word w (clauses_at + i * clauses_width + j) (omega arith) ∙ past_word (clause-words-lie g.words.known) g.words.exact i j 0 past (omega arith) in
      let b : numbers_in numbers 0 ≡ zero_f =
      only f clause_numbers_at i nan q
      ∙ number f (clause_numbers_at + i) (omega arith)
      ∙ one_place (take room_numbers f) clause_numbers_at i nan (past_word (clause-numbers-lie g.words.known) g.numbers.exact i 0 nan past (omega arith)) in
      rw (a clause_kind (omega arith), a action_else (omega arith), a action_link (omega arith), a clause_status (omega arith), a clause_name (omega arith), a (clause_name + name_length) (omega arith), b, get_or-eq_default m.clauses no_clause past)

  pub clause-is : row ≡ take clauses_width (drop (clauses_at + i * clauses_width) w) → numbers ≡ take 1 (drop (clause_numbers_at + i * 1) f) → have_room (length w) (length f) room_clauses i ≡ true → ClauseIs
  clause-is p q e = let h = (rooms-are (length w) room_clauses i (length f) e).0 in elim (le-or-lt (length m.clauses) i) [ inl past ↦ clause-past p q h past | inr hi ↦ clause-here p q h hi ]

module _ {m : Network} {w : List ℕ} {f : List Float} (g : Stands m w f) (i : ℕ) (row : List ℕ) where
  pub rule-is : row ≡ take rules_width (drop (rules_at + i * rules_width) w) → has_room (length w) room_rules i ≡ true → rule_by (words_in row) ≡ rule_back (get_or m.rules i no_rule)
  rule-is p e =
      let h = (room-is (length w) room_rules i e).0 in
      let a : (j : ℕ) → j < rules_width → words_in row j ≡ words_in (rule_words (get_or m.rules i no_rule)) j =
      λ j hj. in_row w (rules_at + i * rules_width) rules_width p j 0 hj ∙ word w (rules_at + i * rules_width + j) (omega arith) ∙ any_word (rule-words-lie g.words.known) g.words.exact i j 0 no_rule no-rule (omega arith) hj in
      rw (a id_place (omega arith), a id_length (omega arith), a rule_first (omega arith), a rule_count (omega arith), a rule_priority_set (omega arith), a rule_priority (omega arith))
      (rule-back (get_or m.rules i no_rule) (get_or m.rules i no_rule).priority)
