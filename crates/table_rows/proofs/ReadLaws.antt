-- What stands in the words and the numbers of a record, and the rows of names. `x0` is any record: what stands past the end of its list. Assumes nothing.
use Rattle.std.specs.Prelude.{Option}
use Prim.Native.Nat.{ℕ, ◌+◌, ◌*◌, ◌≤◌, ◌<◌}
use native.Mathlib.Omega.{arith}
use mathlib.Core.Path.{◌≡◌, refl, sym, ap, ◌∙◌}
use mathlib.Core.List.{List, [], ◌∷◌, ◌++◌, map}
use lib.ListN.{length, get_or, length-map, get_or-map}
use lib.Dec.{eqb}
use lib.Ieee.{Float}
use Rattle.leaf_fields.specs.Fields.{Name}
use Rattle.scope.specs.Records.{Network, Node, NodeKind, junction, reservoir, tank, Link, LinkKind, pipe, pump, valve, Point, Multiplier, Demand, Rule, Clause}
use Rattle.scope.specs.Records.{no_name, no_node, node_ids, link_ids, rule_ids, no_link, no_rule}
use Rattle.scope.specs.Rules.{is_pipe, is_pump, is_valve}
use Rattle.scope.specs.Tables.{key_of, kind_words, link_kind_words, placed, id_words, count_words, node_words, node_numbers, link_words, link_numbers, point_numbers}
use Rattle.scope.specs.Tables.{demand_words, rule_words, clause_words, clause_numbers}
use Rattle.scope.specs.Layout.{nodes_at, links_at, curves_at, points_at, patterns_at, multipliers_at, demands_at, times_at, rules_at, clauses_at, nodes_width, links_width}
use Rattle.scope.specs.Layout.{id_width, demands_width, times_width, rules_width, clauses_width, node_numbers_at, link_numbers_at, point_numbers_at, multiplier_numbers_at}
use Rattle.scope.specs.Layout.{demand_numbers_at, clause_numbers_at, node_numbers_width, link_numbers_width, point_numbers_width, node_kind, link_kind, id_place, id_length}
use Rattle.scope.specs.Layout.{id_key, curves_width, patterns_width}
use Rattle.table_rows.specs.Holding.{Sits, NodeFine, LinkFine, RuleFine, Known, Words, Numbers, Rows, is_junction, kind_no, link_kind_no}
use Rattle.table_rows.proofs.RegionLaws.{row_in}
use Rattle.table_rows.proofs.BlockLaws.{get-word}
use Rattle.table_rows.proofs.SizeLaws.{node-words-lie, link-words-lie, curve-words-lie, point-words-lie, pattern-words-lie, multiplier-words-lie}
use Rattle.table_rows.proofs.SizeLaws.{demand-words-lie, time-words-lie, rule-words-lie, clause-words-lie, node-numbers-lie, link-numbers-lie}
use Rattle.table_rows.proofs.SizeLaws.{point-numbers-lie, multiplier-numbers-lie, demand-numbers-lie, clause-numbers-lie}
use Rattle.table_rows.proofs.EmptyLaws.{words_long}
use Rattle.table_rows.proofs.HoldLaws.{each_at}

-- a record of one place
pub one_place : {A : Type 0} (w : List A) (base i : ℕ) (d : A) {x : A} → get_or w (base + i * 1 + 0) d ≡ x → get_or w (base + i) d ≡ x
one_place w base i d e = let at : base + i ≡ base + i * 1 + 0 = omega arith in rw at e

-- ---- the words of record i
module _ {text : List ℕ} {m : Network} {w : List ℕ} (h : Words text m w) where
  pub node-word : (i j : ℕ) (x0 : Node) → i < length m.nodes → j < nodes_width → get_or w (nodes_at + i * nodes_width + j) 0 ≡ get_or (node_words (get_or m.nodes i x0)) j 0
  node-word i j x0 hi hj = get-word (node-words-lie h.known) h.exact i j 0 x0 hi hj

  pub link-word : (i j : ℕ) (x0 : Link) → i < length m.links → j < links_width → get_or w (links_at + i * links_width + j) 0 ≡ get_or (link_words (get_or m.links i x0)) j 0
  link-word i j x0 hi hj = get-word (link-words-lie h.known) h.exact i j 0 x0 hi hj

  pub curve-word : (i j : ℕ) (x0 : Name) → i < length m.curves → j < curves_width → get_or w (curves_at + i * curves_width + j) 0 ≡ get_or (id_words (get_or m.curves i x0)) j 0
  curve-word i j x0 hi hj = get-word (curve-words-lie h.known) h.exact i j 0 x0 hi hj

  pub point-word : (i : ℕ) (x0 : Point) → i < length m.points → get_or w (points_at + i) 0 ≡ (get_or m.points i x0).curve
  point-word i x0 hi = one_place w points_at i 0 (get-word (point-words-lie h.known) h.exact i 0 0 x0 hi (omega arith))

  pub pattern-word : (i j : ℕ) (x0 : Name) → i < length m.patterns → j < patterns_width → get_or w (patterns_at + i * patterns_width + j) 0 ≡ get_or (id_words (get_or m.patterns i x0)) j 0
  pattern-word i j x0 hi hj = get-word (pattern-words-lie h.known) h.exact i j 0 x0 hi hj

  pub multiplier-word : (i : ℕ) (x0 : Multiplier) → i < length m.multipliers → get_or w (multipliers_at + i) 0 ≡ (get_or m.multipliers i x0).pattern
  multiplier-word i x0 hi = one_place w multipliers_at i 0 (get-word (multiplier-words-lie h.known) h.exact i 0 0 x0 hi (omega arith))

  pub demand-word : (i j : ℕ) (x0 : Demand) → i < length m.demands → j < demands_width → get_or w (demands_at + i * demands_width + j) 0 ≡ get_or (demand_words (get_or m.demands i x0)) j 0
  demand-word i j x0 hi hj = get-word (demand-words-lie h.known) h.exact i j 0 x0 hi hj

  pub time-word : (i j : ℕ) (x0 : Option ℕ) → i < 6 → j < times_width → get_or w (times_at + i * times_width + j) 0 ≡ get_or (count_words (get_or m.times i x0)) j 0
  time-word i j x0 hi hj = get-word (time-words-lie h.known) h.exact i j 0 x0 (omega (arith, h.known.times)) hj

  pub rule-word : (i j : ℕ) (x0 : Rule) → i < length m.rules → j < rules_width → get_or w (rules_at + i * rules_width + j) 0 ≡ get_or (rule_words (get_or m.rules i x0)) j 0
  rule-word i j x0 hi hj = get-word (rule-words-lie h.known) h.exact i j 0 x0 hi hj

  pub clause-word : (i j : ℕ) (x0 : Clause) → i < length m.clauses → j < clauses_width → get_or w (clauses_at + i * clauses_width + j) 0 ≡ get_or (clause_words (get_or m.clauses i x0)) j 0
  clause-word i j x0 hi hj = get-word (clause-words-lie h.known) h.exact i j 0 x0 hi hj

-- ---- the numbers of record i; `d` is what a reading past the end gives
module _ {text : List ℕ} {m : Network} {f : List Float} (k : Known text m) (h : Numbers m f) where
  pub node-number : (i j : ℕ) (d : Float) (x0 : Node) → i < length m.nodes → j < node_numbers_width
      → get_or f (node_numbers_at + i * node_numbers_width + j) d ≡ get_or (node_numbers (get_or m.nodes i x0)) j d
  node-number i j d x0 hi hj = get-word (node-numbers-lie k) h.exact i j d x0 hi hj

  pub link-number : (i j : ℕ) (d : Float) (x0 : Link) → i < length m.links → j < link_numbers_width
      → get_or f (link_numbers_at + i * link_numbers_width + j) d ≡ get_or (link_numbers (get_or m.links i x0)) j d
  link-number i j d x0 hi hj = get-word (link-numbers-lie k) h.exact i j d x0 hi hj

  pub point-number : (i j : ℕ) (d : Float) (x0 : Point) → i < length m.points → j < point_numbers_width
      → get_or f (point_numbers_at + i * point_numbers_width + j) d ≡ get_or (point_numbers (get_or m.points i x0)) j d
  point-number i j d x0 hi hj = get-word (point-numbers-lie k) h.exact i j d x0 hi hj

  pub multiplier-number : (i : ℕ) (d : Float) (x0 : Multiplier) → i < length m.multipliers → get_or f (multiplier_numbers_at + i) d ≡ (get_or m.multipliers i x0).value
  multiplier-number i d x0 hi = one_place f multiplier_numbers_at i d (get-word (multiplier-numbers-lie k) h.exact i 0 d x0 hi (omega arith))

  pub demand-number : (i : ℕ) (d : Float) (x0 : Demand) → i < length m.demands → get_or f (demand_numbers_at + i) d ≡ (get_or m.demands i x0).base
  demand-number i d x0 hi = one_place f demand_numbers_at i d (get-word (demand-numbers-lie k) h.exact i 0 d x0 hi (omega arith))

  pub clause-number : (i : ℕ) (d : Float) (x0 : Clause) → i < length m.clauses → get_or f (clause_numbers_at + i) d ≡ get_or (clause_numbers (get_or m.clauses i x0)) 0 d
  clause-number i d x0 hi = one_place f clause_numbers_at i d (get-word (clause-numbers-lie k) h.exact i 0 d x0 hi (omega arith))

-- ---- rows of names
-- from what stands in each record: the name's words come first
rows-from : {R : Type 0} (text w : List ℕ) (base k : ℕ) (rs : List R) (r0 : R) (name : R → Name) → name r0 ≡ no_name
    → ((i : ℕ) → i < length rs → Sits text (name (get_or rs i r0))) → base + length rs * k ≤ length w → id_width ≤ k
    → ((i : ℕ) → i < length rs → get_or w (base + i * k + id_place) 0 ≡ (name (get_or rs i r0)).at)
    → ((i : ℕ) → i < length rs → get_or w (base + i * k + id_length) 0 ≡ length (name (get_or rs i r0)).letters)
    → ((i : ℕ) → i < length rs → get_or w (base + i * k + id_key) 0 ≡ key_of (name (get_or rs i r0)).letters)
    → Rows text w base k (map name rs)
rows-from text w base k rs r0 name e0 sit room k3 place long key i h =
    let hi : i < length rs = rw length-map at h in
    let e : get_or (map name rs) i no_name ≡ name (get_or rs i r0) = rw (← e0) (get_or-map name rs i r0) in
    let q : base + i * k ≡ base + i * k + 0 = omega arith in
    let first : get_or w (base + i * k) 0 ≡ (name (get_or rs i r0)).at = ap (λ (n : ℕ). get_or w n 0) q ∙ place i hi in
    record {
      room = omega (arith, row_in k i (length rs) hi);
      place = rw e first;
      long = rw e (long i hi);
      key = rw e (key i hi);
      sits = rw e (sit i hi);
    }

pub map-id : (l : List Name) → map (λ n. n) l ≡ l
map-id [] = refl
map-id (x ∷ l) = ap (λ (k : List Name). x ∷ k) (map-id l)

module _ {text : List ℕ} {m : Network} {w : List ℕ} (h : Words text m w) where
  pub node-rows : Rows text w nodes_at nodes_width (node_ids m)
  node-rows =
      rows-from text w nodes_at nodes_width m.nodes no_node (λ n. n.id) refl
      (λ i hi. (each_at (NodeFine text) m.nodes i no_node h.known.nodes.fine hi).0) (omega (arith, words_long h, h.known.nodes.bound)) (omega arith)
      (λ i hi. node-word h i id_place no_node hi (omega arith)) (λ i hi. node-word h i id_length no_node hi (omega arith)) (λ i hi. node-word h i id_key no_node hi (omega arith))

  pub link-rows : Rows text w links_at links_width (link_ids m)
  link-rows =
      rows-from text w links_at links_width m.links no_link (λ n. n.id) refl (λ i hi. each_at (LinkFine text) m.links i no_link h.known.links.fine hi)
      (omega (arith, words_long h, h.known.links.bound)) (omega arith)
      (λ i hi. link-word h i id_place no_link hi (omega arith)) (λ i hi. link-word h i id_length no_link hi (omega arith)) (λ i hi. link-word h i id_key no_link hi (omega arith))

  pub curve-rows : Rows text w curves_at curves_width m.curves
  curve-rows =
      rw (← map-id m.curves)
      (rows-from text w curves_at curves_width m.curves no_name (λ n. n) refl (λ i hi. each_at (Sits text) m.curves i no_name h.known.curves.fine hi)
      (omega (arith, words_long h, h.known.curves.bound)) (omega arith)
      (λ i hi. curve-word h i id_place no_name hi (omega arith)) (λ i hi. curve-word h i id_length no_name hi (omega arith)) (λ i hi. curve-word h i id_key no_name hi (omega arith)))

  pub pattern-rows : Rows text w patterns_at patterns_width m.patterns
  pattern-rows =
      rw (← map-id m.patterns)
      (rows-from text w patterns_at patterns_width m.patterns no_name (λ n. n) refl
      (λ i hi. each_at (Sits text) m.patterns i no_name h.known.patterns.fine hi) (omega (arith, words_long h, h.known.patterns.bound)) (omega arith)
      (λ i hi. pattern-word h i id_place no_name hi (omega arith)) (λ i hi. pattern-word h i id_length no_name hi (omega arith)) (λ i hi. pattern-word h i id_key no_name hi (omega arith)))

  pub rule-rows : Rows text w rules_at rules_width (rule_ids m)
  rule-rows =
      rows-from text w rules_at rules_width m.rules no_rule (λ n. n.id) refl (λ i hi. each_at (RuleFine text) m.rules i no_rule h.known.rules.fine hi)
      (omega (arith, words_long h, h.known.rules.bound)) (omega arith)
      (λ i hi. rule-word h i id_place no_rule hi (omega arith)) (λ i hi. rule-word h i id_length no_rule hi (omega arith)) (λ i hi. rule-word h i id_key no_rule hi (omega arith))

pub node-count : (m : Network) → length m.nodes ≡ length (node_ids m)
node-count m = sym (length-map m.nodes (λ n. n.id))

pub link-count : (m : Network) → length m.links ≡ length (link_ids m)
link-count m = sym (length-map m.links (λ n. n.id))

pub rule-count : (m : Network) → length m.rules ≡ length (rule_ids m)
rule-count m = sym (length-map m.rules (λ n. n.id))

-- ---- the kind of a node and of a link, by its word
node-kind-word : (a b c : ℕ) (k : NodeKind) (p : ℕ) → get_or (a ∷ b ∷ c ∷ kind_words k ++ (p ∷ [])) 3 0 ≡ kind_no k
node-kind-word a b c (junction j) p = refl
node-kind-word a b c (reservoir r) p = refl
node-kind-word a b c (tank t) p = refl

link-kind-word : (k : LinkKind) → get_or (link_kind_words k) 0 0 ≡ link_kind_no k
link-kind-word (pipe p) = refl
link-kind-word (pump p) = refl
link-kind-word (valve v) = refl

junction-no : (k : NodeKind) → eqb (kind_no k) 1 ≡ is_junction k
junction-no (junction j) = refl
junction-no (reservoir r) = refl
junction-no (tank t) = refl

pipe-no : (k : LinkKind) → eqb (link_kind_no k) 1 ≡ is_pipe k
pipe-no (pipe p) = refl
pipe-no (pump p) = refl
pipe-no (valve v) = refl

pump-no : (k : LinkKind) → eqb (link_kind_no k) 2 ≡ is_pump k
pump-no (pipe p) = refl
pump-no (pump p) = refl
pump-no (valve v) = refl

valve-no : (k : LinkKind) → eqb (link_kind_no k) 3 ≡ is_valve k
valve-no (pipe p) = refl
valve-no (pump p) = refl
valve-no (valve v) = refl

module _ {text : List ℕ} {m : Network} {w : List ℕ} (h : Words text m w) (i : ℕ) where
  pub node-kind : i < length m.nodes → get_or w (nodes_at + i * nodes_width + node_kind) 0 ≡ kind_no (get_or m.nodes i no_node).kind
  node-kind hi =
      let n : Node = get_or m.nodes i no_node in
      node-word h i node_kind no_node hi (omega arith) ∙ node-kind-word n.id.at (length n.id.letters) (key_of n.id.letters) n.kind (placed n.place)

  pub link-kind : i < length m.links → get_or w (links_at + i * links_width + link_kind) 0 ≡ link_kind_no (get_or m.links i no_link).kind
  link-kind hi = link-word h i link_kind no_link hi (omega arith) ∙ link-kind-word (get_or m.links i no_link).kind

  pub is-junction : i < length m.nodes → eqb (get_or w (nodes_at + i * nodes_width + node_kind) 0) 1 ≡ is_junction (get_or m.nodes i no_node).kind
  is-junction hi = ap (λ (n : ℕ). eqb n 1) (node-kind hi) ∙ junction-no (get_or m.nodes i no_node).kind

  pub is-pipe : i < length m.links → eqb (get_or w (links_at + i * links_width + link_kind) 0) 1 ≡ is_pipe (get_or m.links i no_link).kind
  is-pipe hi = ap (λ (n : ℕ). eqb n 1) (link-kind hi) ∙ pipe-no (get_or m.links i no_link).kind

  pub is-pump : i < length m.links → eqb (get_or w (links_at + i * links_width + link_kind) 0) 2 ≡ is_pump (get_or m.links i no_link).kind
  is-pump hi = ap (λ (n : ℕ). eqb n 2) (link-kind hi) ∙ pump-no (get_or m.links i no_link).kind

  pub is-valve : i < length m.links → eqb (get_or w (links_at + i * links_width + link_kind) 0) 3 ≡ is_valve (get_or m.links i no_link).kind
  is-valve hi = ap (λ (n : ℕ). eqb n 3) (link-kind hi) ∙ valve-no (get_or m.links i no_link).kind
