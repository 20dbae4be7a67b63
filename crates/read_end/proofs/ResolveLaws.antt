-- The patterns' places, set one record at a time. Assumes nothing.
use Rattle.std.specs.Prelude.{None, Option, Some}
use Prim.Native.Nat.{ℕ, zero, suc, ◌+◌, ◌-◌, ◌*◌, ◌≤◌, ◌<◌}
use native.Mathlib.Omega.{arith}
use native.Mathlib.Numerals.{add-one}
use mathlib.Core.Path.{◌≡◌, refl, sym, ap, ◌∙◌, subst}
use mathlib.Core.Bool.{Bool}
use mathlib.Core.List.{List, [], ◌∷◌, ◌++◌, map}
use lib.ListN.{length, take, drop, set, get_or}
use lib.Seq.{set_split}
use lib.Ieee.{Float}
use Rattle.leaf_fields.specs.Fields.{Name}
use Rattle.scope.specs.Records.{Network, Node, Place, NodeKind, junction, reservoir, tank, Demand, no_node, lookup, with_nodes, with_demands, no_demand}
use Rattle.scope.specs.Series.{place_in, index_of, resolved_kind, resolved_node, resolved_demand, resolved}
use Rattle.scope.specs.Tables.{index_no, name_words, placed, id_words, node_words, node_numbers, demand_words}
use Rattle.scope.specs.declared.Counts.{Counts}
use Rattle.table_rows.specs.Table.{splice}
use Rattle.scope.specs.Layout.{name_place, name_length, nodes_at, nodes_width, node_kind, node_name, node_detail, demands_at, demands_width, demand_name, demand_index}
use Rattle.table_rows.specs.Holding.{SitsOr, Holds, NodeFine, DemandFine, pattern_in, kind_no}
use Rattle.table_rows.proofs.HoldLaws.{each_at, change-node-words, change-demand-words, same-count-nodes, same-count-demands, count-nodes, count-demands}
use Rattle.table_rows.proofs.ReadLaws.{demand-word, node-word, node-kind}
use Rattle.read_end.specs.Resolving.{demand_resolved, node_resolved, demands_resolved, nodes_resolved}

-- ---- one name
-- no name has no letters
pub no-letters : (text : List ℕ) (ps : List Name) (o : Option Name) (at long : ℕ) → SitsOr text o → name_words o ≡ at ∷ long ∷ [] → long ≡ 0 → 0 ≡ index_no (index_of ps o)
no-letters text ps None at long s e z = refl
no-letters text ps (Some n) at long s e z = absurd (let q : length n.letters ≡ long = cc in omega (arith, s.filled))

pub some-letters : (text : List ℕ) (ps : List Name) (o : Option Name) (at long : ℕ) (name : List ℕ) (f : Option ℕ) → SitsOr text o → name_words o ≡ at ∷ long ∷ [] → (long ≡ 0 → ⊥)
    → name ≡ take long (drop at text) → f ≡ lookup ps name → index_no (place_in f) ≡ index_no (index_of ps o)
some-letters text ps None at long name f s e z en ef = absurd (z (let q : 0 ≡ long = cc in sym q))
some-letters text ps (Some n) at long name f s e z en ef =
    let a : n.at ≡ at = cc in
    let l : length n.letters ≡ long = cc in
    let k : n.at + length n.letters - n.at ≡ long = omega (arith, l) in
    let q : name ≡ n.letters = en ∙ rw (← a, ← k) s.there in
    rw (ef, q)

-- ---- a word in a record
set-splice : {A : Type 0} (w : List A) (i : ℕ) (v : A) → i < length w → set w i v ≡ splice w i (v ∷ [])
set-splice w i v h = set_split w i v h ∙ rw (add-one) (sym (assoc (take i w) v (drop (suc i) w)))
  where
    assoc : {A : Type 0} (a : List A) (v : A) (b : List A) → (a ++ (v ∷ [])) ++ b ≡ a ++ v ∷ b
    assoc [] v b = refl
    assoc (x ∷ a) v b = ap (λ l. x ∷ l) (assoc a v b)

name-two : (o : Option Name) (i : ℕ) → (get_or (name_words o ++ (i ∷ [])) name_place 0 ∷ get_or (name_words o ++ (i ∷ [])) name_length 0 ∷ []) ≡ name_words o
name-two None i = refl
name-two (Some n) i = refl

-- ---- a demand
demand-index : (d : Demand) (ps : List Name) → demand_words (resolved_demand ps d) ≡ splice (demand_words d) demand_index (index_no (index_of ps d.pattern) ∷ [])
demand-index d ps = go d.node d.own d.base d.pattern d.index
  where
    go : (a : ℕ) (b : Bool) (x : Float) (o : Option Name) (i : Option ℕ)
        → demand_words (record { node = a; own = b; base = x; pattern = o; index = index_of ps o })
        ≡ splice (demand_words (record { node = a; own = b; base = x; pattern = o; index = i })) demand_index (index_no (index_of ps o) ∷ [])
    go a b x None i = refl
    go a b x (Some n) i = refl

module _ {text : List ℕ} {m : Network} {s : Counts} {w : List ℕ} {f : List Float} (h : Holds text m s w f) (k : ℕ) where
  module _ (hk : k < s.demands) where
    below-demands : k < length m.demands
    below-demands = omega (arith, count-demands h)

    pub demand-name : name_words (get_or m.demands k no_demand).pattern
        ≡ get_or w (demands_at + k * demands_width + demand_name + name_place) 0 ∷ get_or w (demands_at + k * demands_width + demand_name + name_length) 0 ∷ []
    demand-name =
        let d : Demand = get_or m.demands k no_demand in
        let p : demands_at + k * demands_width + demand_name + name_place ≡ demands_at + k * demands_width + (demand_name + name_place) = omega arith in
        let l : demands_at + k * demands_width + demand_name + name_length ≡ demands_at + k * demands_width + (demand_name + name_length) = omega arith in
        rw (p, l, demand-word h.words k (demand_name + name_place) no_demand below-demands (omega arith), demand-word h.words k (demand_name + name_length) no_demand below-demands (omega arith))
        (sym (name-two d.pattern (index_no d.index)))

    pub demand-sits : SitsOr text (get_or m.demands k no_demand).pattern
    demand-sits = each_at (DemandFine text) m.demands k no_demand h.words.known.demands.fine below-demands

    pub demand-set : (v : ℕ) → demands_at + k * demands_width + demand_index < length w
        → v ≡ index_no (index_of m.patterns (get_or m.demands k no_demand).pattern) → Holds text (demand_resolved k m) s (set w (demands_at + k * demands_width + demand_index) v) f
    demand-set v room e =
        let d : Demand = get_or m.demands k no_demand in
        let x : Demand = resolved_demand m.patterns d in
        let q : demand_words x ≡ splice (demand_words d) demand_index (v ∷ []) = rw e (demand-index d m.patterns) in
        let h1 = change-demand-words h k no_demand x demand_index (v ∷ []) below-demands demand-sits refl (λ own. own) (omega arith) q refl
        (set-splice w (demands_at + k * demands_width + demand_index) v room) in
        subst (λ (c : Counts). Holds text (demand_resolved k m) c (set w (demands_at + k * demands_width + demand_index) v) f) (same-count-demands m k x ∙ sym h.counts) h1

-- ---- a node
node-index : (ps : List Name) (id : Name) (place : Option Place) (x : Float) (o : Option Name) (i : Option ℕ)
    → node_words (record { id = id; kind = reservoir (record { elevation = x; pattern = o; index = index_of ps o }); place = place })
    ≡ splice (node_words (record { id = id; kind = reservoir (record { elevation = x; pattern = o; index = i }); place = place })) node_detail (index_no (index_of ps o) ∷ [])
node-index ps id place x None i = refl
node-index ps id place x (Some n) i = refl

module _ (ps : List Name) (id : Name) (place : Option Place) where
  abbrev node_of : NodeKind → Node
  node_of k = record { id = id; kind = k; place = place }

  words-resolved : (k : NodeKind) → kind_no k ≡ 2 → node_words (resolved_node ps (node_of k)) ≡ splice (node_words (node_of k)) node_detail (index_no (index_of ps (pattern_in k)) ∷ [])
  words-resolved (junction j) e = absurd (omega arith)
  words-resolved (reservoir r) e = node-index ps id place r.elevation r.pattern r.index
  words-resolved (tank t) e = absurd (omega arith)

  same-resolved : (k : NodeKind) → (kind_no k ≡ 2 → ⊥) → resolved_node ps (node_of k) ≡ node_of k
  same-resolved (junction j) n = refl
  same-resolved (reservoir r) n = absurd (n refl)
  same-resolved (tank t) n = refl

  numbers-resolved : (k : NodeKind) → node_numbers (resolved_node ps (node_of k)) ≡ node_numbers (node_of k)
  numbers-resolved (junction j) = refl
  numbers-resolved (reservoir r) = refl
  numbers-resolved (tank t) = refl

  name_in-law : (k : NodeKind) → kind_no k ≡ 2 → name_words (pattern_in k) ≡ get_or (node_words (node_of k)) (node_name + name_place) 0 ∷ get_or (node_words (node_of k)) (node_name + name_length) 0 ∷ []
  name_in-law (junction j) e = absurd (omega arith)
  name_in-law (reservoir r) e = go r.pattern (index_no r.index)
    where
      go : (o : Option Name) (i : ℕ) → name_words o
          ≡ get_or (id_words id ++ (2 ∷ name_words o ++ (i ∷ [])) ++ (placed place ∷ [])) (node_name + name_place) 0
          ∷ get_or (id_words id ++ (2 ∷ name_words o ++ (i ∷ [])) ++ (placed place ∷ [])) (node_name + name_length) 0 ∷ []
      go None i = refl
      go (Some n) i = refl
  name_in-law (tank t) e = absurd (omega arith)

pattern-resolved : (ps : List Name) (k : NodeKind) → pattern_in (resolved_kind ps k) ≡ pattern_in k
pattern-resolved ps (junction j) = refl
pattern-resolved ps (reservoir r) = refl
pattern-resolved ps (tank t) = refl

set_same : {A : Type 0} (xs : List A) (k : ℕ) (d : A) → k < length xs → set xs k (get_or xs k d) ≡ xs
set_same [] k d h = absurd (omega arith)
set_same (x ∷ xs) zero d h = refl
set_same (x ∷ xs) (suc k) d h = ap (λ l. x ∷ l) (set_same xs k d (omega arith))

module _ {text : List ℕ} {m : Network} {s : Counts} {w : List ℕ} {f : List Float} (h : Holds text m s w f) (k : ℕ) (hk : k < s.nodes) where
  below-nodes : k < length m.nodes
  below-nodes = omega (arith, count-nodes h)

  abbrev at : Node
  at = get_or m.nodes k no_node

  -- it is no reservoir
  pub node_kept : (get_or w (nodes_at + k * nodes_width + node_kind) 0 ≡ 2 → ⊥) → Holds text (node_resolved k m) s w f
  node_kept n =
      let q : resolved_node m.patterns at ≡ at = same-resolved m.patterns at.id at.place at.kind (λ e. n (node-kind h.words k below-nodes ∙ e)) in
      let l : set m.nodes k (resolved_node m.patterns at) ≡ m.nodes = ap (λ (x : Node). set m.nodes k x) q ∙ set_same m.nodes k no_node below-nodes in
      subst (λ (xs : List Node). Holds text (with_nodes xs m) s w f) (sym l) h

  module _ (two : get_or w (nodes_at + k * nodes_width + node_kind) 0 ≡ 2) where
    kind-two : kind_no at.kind ≡ 2
    kind-two = sym (node-kind h.words k below-nodes) ∙ two

    pub node-name : name_words (pattern_in at.kind) ≡ get_or w (nodes_at + k * nodes_width + node_name + name_place) 0 ∷ get_or w (nodes_at + k * nodes_width + node_name + name_length) 0 ∷ []
    node-name =
        let p : nodes_at + k * nodes_width + node_name + name_place ≡ nodes_at + k * nodes_width + (node_name + name_place) = omega arith in
        let l : nodes_at + k * nodes_width + node_name + name_length ≡ nodes_at + k * nodes_width + (node_name + name_length) = omega arith in
        rw (p, l, node-word h.words k (node_name + name_place) no_node below-nodes (omega arith), node-word h.words k (node_name + name_length) no_node below-nodes (omega arith))
        (name_in-law m.patterns at.id at.place at.kind kind-two)

    fine : NodeFine text at
    fine = each_at (NodeFine text) m.nodes k no_node h.words.known.nodes.fine below-nodes

    pub node-sits : SitsOr text (pattern_in at.kind)
    node-sits = fine.1

    pub node-set : (v : ℕ) → nodes_at + k * nodes_width + node_detail < length w → v ≡ index_no (index_of m.patterns (pattern_in at.kind))
        → Holds text (node_resolved k m) s (set w (nodes_at + k * nodes_width + node_detail) v) f
    node-set v room e =
        let x : Node = resolved_node m.patterns at in
        let a : NodeFine text x = (fine.0, rw (pattern-resolved m.patterns at.kind) fine.1) in
        let q : node_words x ≡ splice (node_words at) node_detail (v ∷ []) = rw e (words-resolved m.patterns at.id at.place at.kind kind-two) in
        let h1 = change-node-words h k no_node x node_detail (v ∷ []) below-nodes a refl (omega arith) q
        (numbers-resolved m.patterns at.id at.place at.kind) (set-splice w (nodes_at + k * nodes_width + node_detail) v room) in
        subst (λ (c : Counts). Holds text (node_resolved k m) c (set w (nodes_at + k * nodes_width + node_detail) v) f) (same-count-nodes m k x ∙ sym h.counts) h1

-- ---- records one after another: the first k are changed
unfoldable pub up_to : {A : Type 0} → (A → A) → ℕ → List A → List A
up_to g zero xs = xs
up_to g (suc k) [] = []
up_to g (suc k) (x ∷ xs) = g x ∷ up_to g k xs

module _ {A : Type 0} (g : A → A) where
  up_none : (xs : List A) → up_to g 0 xs ≡ xs
  unfolding up_to
  up_none xs = refl

  up_step : (k : ℕ) (xs : List A) (d : A) → k < length xs → set (up_to g k xs) k (g (get_or (up_to g k xs) k d)) ≡ up_to g (suc k) xs
  unfolding up_to
  up_step zero [] d h = absurd (omega arith)
  up_step zero (x ∷ xs) d h = refl
  up_step (suc k) [] d h = absurd (omega arith)
  up_step (suc k) (x ∷ xs) d h = ap (λ (l : List A). g x ∷ l) (up_step k xs d (omega arith))

  up-all : (k : ℕ) (xs : List A) → length xs ≤ k → up_to g k xs ≡ map g xs
  unfolding up_to
  up-all zero [] h = refl
  up-all zero (x ∷ xs) h = absurd (omega arith)
  up-all (suc k) [] h = refl
  up-all (suc k) (x ∷ xs) h = ap (λ (l : List A). g x ∷ l) (up-all k xs (omega arith))

-- the network whose first k records of one kind are changed is held
abbrev pub Changed : (text : List ℕ) (s : Counts) (w0 w : List ℕ) → (Network → Network) → Type 0
Changed text s w0 w to = (m : Network) (f : List Float) → Holds text m s w0 f → Holds text (to m) s w f

pub record Demands (text : List ℕ) (s : Counts) (w0 w : List ℕ) (k : ℕ) : Type 0 where
  pub held : Changed text s w0 w (λ m. with_demands (up_to (resolved_demand m.patterns) k m.demands) m)

pub record Nodes (text : List ℕ) (s : Counts) (w0 w : List ℕ) (k : ℕ) : Type 0 where
  pub held : Changed text s w0 w (λ m. with_nodes (up_to (resolved_node m.patterns) k m.nodes) m)

module _ (text : List ℕ) (s : Counts) (w0 : List ℕ) where
  pub start-demands : Demands text s w0 w0 0
  start-demands = record { held = λ m f h. rw (up_none (resolved_demand m.patterns) m.demands) h }

  pub start-nodes : Nodes text s w0 w0 0
  start-nodes = record { held = λ m f h. rw (up_none (resolved_node m.patterns) m.nodes) h }

  module _ {w : List ℕ} {k : ℕ} where
    pub next-demands : Demands text s w0 w k → k < s.demands → (w' : List ℕ) → Changed text s w w' (demand_resolved k) → Demands text s w0 w' (k + 1)
    next-demands g hk w' turn = record {
      held = λ m f h.
          let r = resolved_demand m.patterns in
          rw (add-one)
          (subst (λ (xs : List Demand). Holds text (with_demands xs m) s w' f) (up_step r k m.demands no_demand (omega (arith, count-demands h)))
          (turn (with_demands (up_to r k m.demands) m) f (g.held m f h)));
    }

    pub next-nodes : Nodes text s w0 w k → k < s.nodes → (w' : List ℕ) → Changed text s w w' (node_resolved k) → Nodes text s w0 w' (k + 1)
    next-nodes g hk w' turn = record {
      held = λ m f h.
          let r = resolved_node m.patterns in
          rw (add-one)
          (subst (λ (xs : List Node). Holds text (with_nodes xs m) s w' f) (up_step r k m.nodes no_node (omega (arith, count-nodes h)))
          (turn (with_nodes (up_to r k m.nodes) m) f (g.held m f h)));
    }

    pub all-demands : Demands text s w0 w k → s.demands ≤ k → Changed text s w0 w demands_resolved
    all-demands g hk m f h =
        subst (λ (xs : List Demand). Holds text (with_demands xs m) s w f) (up-all (resolved_demand m.patterns) k m.demands (omega (arith, count-demands h))) (g.held m f h)

    pub all-nodes : Nodes text s w0 w k → s.nodes ≤ k → Changed text s w0 w nodes_resolved
    all-nodes g hk m f h =
        subst (λ (xs : List Node). Holds text (with_nodes xs m) s w f) (up-all (resolved_node m.patterns) k m.nodes (omega (arith, count-nodes h))) (g.held m f h)

-- ---- both
pub both-resolved : (m : Network) → demands_resolved (nodes_resolved m) ≡ resolved m
unfolding resolved
both-resolved m = refl
