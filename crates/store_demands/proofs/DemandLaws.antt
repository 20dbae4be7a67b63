-- A junction's own demand, looked for; and what storing a demand makes of the network. Assumes nothing.
use Rattle.scope.specs.declared.Reason.{Reason}
use Rattle.std.specs.Prelude.{Err, None, Ok, Result, Some, Option}
use Prim.Native.Nat.{ℕ, zero, suc, ◌+◌, ◌-◌, ◌*◌, ◌%◌, ◌≤◌, ◌<◌}
use native.Mathlib.Omega.{arith}
use native.Mathlib.Numerals.{add-one}
use borrow.Author.Tests.{lt-ltb, le-ltb, eq-eqb, ne_eqb, eqb-true}
use mathlib.Core.Path.{◌≡◌, refl, sym, ap, ◌∙◌}
use mathlib.Core.Bool.{Bool, true, false, cond, ◌&&◌, false≢true}
use mathlib.Core.List.{List, [], ◌∷◌, ◌++◌}
use lib.ListN.{length, drop, get_or, length-append, drop_of_length-le}
use lib.Seq.{drop-cons}
use lib.Dec.{eqb}
use lib.Ieee.{Float}
use Rattle.leaf_fields.specs.Fields.{Name, part, name_in}
use Rattle.leaf_fields.specs.declared.Span.{Span}
use Rattle.scope.specs.Records.{Network, NodeKind, junction, reservoir, tank, Demand, no_node, lookup, node_ids, no_demand}
use Rattle.scope.specs.Sections.{room_demands}
use Rattle.scope.specs.Series.{demand_at, own_from, add_demand, set_demand}
use Rattle.scope.specs.Tables.{flag, name_words, demand_words, slots, demand_slot}
use Rattle.scope.specs.declared.Counts.{Counts}
use Rattle.scope.specs.declared.Reason.TheVariants.{NotFound, WrongKind, NoRoom}
use Rattle.parse_fields.specs.Taking.{opt_in, MayFit}
use Rattle.table_rows.specs.Table.{splice}
use Rattle.scope.specs.Layout.{demands_at, demands_width, demand_node, demand_own, name_place, name_length, name_width, demand_slots_at, demand_slots_long, demand_numbers_at}
use Rattle.table_rows.specs.Adding.{demand_added}
use Rattle.table_rows.specs.Holding.{SitsOr, Words, Holds, After, FirstInSlot, is_junction}
use Rattle.table_rows.proofs.HoldLaws.{sits-field, add-demand, change-demand, same-count-demands, count-nodes, count-demands}
use Rattle.table_find.proofs.LookLaws.{found_below}
use Rattle.table_rows.proofs.ReadLaws.{demand-word, node-count}
use Rattle.table_find.proofs.StartLaws.{demand-slot}
use Rattle.store_demands.specs.Storing.{is_own}

-- ---- one demand
own-flag : (b : Bool) → eqb (flag b) 1 ≡ b
own-flag true = refl
own-flag false = refl

module _ {text : List ℕ} {m : Network} {w : List ℕ} (hw : Words text m w) (k node : ℕ) (hk : k < length m.demands) where
  node_at-law : get_or w (demands_at + k * demands_width + demand_node) 0 ≡ (get_or m.demands k no_demand).node
  node_at-law = demand-word hw k demand_node no_demand hk (omega arith)

  pub same-node : get_or w (demands_at + k * demands_width + demand_node) 0 ≡ node → eqb (get_or w (demands_at + k * demands_width + demand_own) 0) 1 ≡ is_own (get_or m.demands k no_demand) node
  same-node e =
      rw (eq-eqb (get_or m.demands k no_demand).node node (sym node_at-law ∙ e), demand-word hw k demand_own no_demand hk (omega arith))
      (own-flag (get_or m.demands k no_demand).own)

  pub other-node : (get_or w (demands_at + k * demands_width + demand_node) 0 ≡ node → ⊥) → false ≡ is_own (get_or m.demands k no_demand) node
  other-node n = rw (ne_eqb (get_or m.demands k no_demand).node node (λ e. n (node_at-law ∙ e)))

-- ---- the demands that are left
module _ (ds : List Demand) (k node : ℕ) where
  pub own-here : k < length ds → is_own (get_or ds k no_demand) node ≡ true → own_from k node (drop k ds) ≡ Some k
  unfolding own_from
  own-here h e = rw (drop-cons ds k no_demand h, e)

  pub own_on : k < length ds → is_own (get_or ds k no_demand) node ≡ false → own_from k node (drop k ds) ≡ own_from (k + 1) node (drop (k + 1) ds)
  unfolding own_from
  own_on h e = rw (add-one, drop-cons ds k no_demand h, e)

  pub own-end : length ds ≤ k → own_from k node (drop k ds) ≡ None
  unfolding own_from
  own-end h = rw (drop_of_length-le ds {i = k} h)

-- ---- the one demand that may be the node's own
and-true : (a b : Bool) → (a && b) ≡ true → (a ≡ true) × (b ≡ true)
and-true true true e = (refl, refl)
and-true true false e = absurd (false≢true e)
and-true false b e = absurd (false≢true e)

module _ {text : List ℕ} {m : Network} {w : List ℕ} (hw : Words text m w) (node k : ℕ) (at : FirstInSlot (get_or w (demand_slots_at + node % demand_slots_long) 0) (length m.demands) k) where
  -- an own demand is the first in its slot, which is number k
  only-first : (j : ℕ) → j < length m.demands → is_own (get_or m.demands j no_demand) node ≡ true → j ≡ k
  only-first j hj e =
      let d : Demand = get_or m.demands j no_demand in
      let both = and-true (eqb d.node node) d.own e in
      let f = hw.known.owned.first j hj both.1 in
      let q : get_or w (demand_slots_at + node % demand_slots_long) 0 ≡ suc j =
      demand-slot hw (node % demand_slots_long) (omega arith)
      ∙ ap (λ (i : ℕ). get_or (slots demand_slot demand_slots_long m.demands) (i % demand_slots_long) 0) (sym (eqb-true d.node node both.0)) ∙ f in
      omega (arith, q, at (omega (arith, q)) (omega (arith, q)))

  not-others : (j : ℕ) → j < length m.demands → (j ≡ k → ⊥) → is_own (get_or m.demands j no_demand) node ≡ false
  not-others j hj n = go (is_own (get_or m.demands j no_demand) node) refl
    where
      go : (t : Bool) → is_own (get_or m.demands j no_demand) node ≡ t → t ≡ false
      go true e = absurd (n (only-first j hj e))
      go false e = refl

  past : (b : ℕ) → b ≤ length m.demands → ((j : ℕ) → j < b → is_own (get_or m.demands j no_demand) node ≡ false) → own_from 0 node m.demands ≡ own_from b node (drop b m.demands)
  past zero h f = refl
  past (suc b) h f = past b (omega arith) (λ j l. f j (omega arith)) ∙ rw add-one at (own_on m.demands b node (omega arith) (f b (omega arith)))

  pub own-found : k < length m.demands → true ≡ is_own (get_or m.demands k no_demand) node → Some k ≡ own_from 0 node m.demands
  own-found h e = sym (past k (omega arith) (λ j l. not-others j (omega arith) (λ q. omega arith)) ∙ own-here m.demands k node h (sym e))

  none-own : ((j : ℕ) → j < length m.demands → is_own (get_or m.demands j no_demand) node ≡ false) → None ≡ own_from 0 node m.demands
  none-own f = sym (past (length m.demands) (omega arith) f ∙ own-end m.demands (length m.demands) node (omega arith))

  pub first-not-own : false ≡ is_own (get_or m.demands k no_demand) node → None ≡ own_from 0 node m.demands
  first-not-own e = none-own (λ j hj. go j hj (eqb j k) refl)
    where
      go : (j : ℕ) → j < length m.demands → (t : Bool) → eqb j k ≡ t → is_own (get_or m.demands j no_demand) node ≡ false
      go j hj true q = ap (λ (i : ℕ). is_own (get_or m.demands i no_demand) node) (eqb-true j k q) ∙ sym e
      go j hj false q = not-others j hj (λ s. false≢true (sym q ∙ eq-eqb j k s))

  pub none-in-slot : length m.demands ≤ k → None ≡ own_from 0 node m.demands
  none-in-slot h = none-own (λ j hj. not-others j hj (λ q. omega arith))

-- what is found is one of the demands
own_below : (j node : ℕ) (ds : List Demand) (k : ℕ) → own_from j node ds ≡ Some k → k < j + length ds
unfolding own_from
own_below j node [] k e = let z : ◌≡◌ {A = ℕ} 0 1 = cc in absurd (omega arith)
own_below j node (d ∷ ds) k e = go (is_own d node) e (own_below (suc j) node ds k)
  where
    go : (t : Bool) → cond t (Some j) (own_from (suc j) node ds) ≡ Some k → (own_from (suc j) node ds ≡ Some k → k < suc j + length ds) → k < j + suc (length ds)
    go true e f = let q : j ≡ k = cc in omega arith
    go false e f = omega (arith, f e)

pub own_in : (node : ℕ) (ds : List Demand) (k : ℕ) → own_from 0 node ds ≡ Some k → k < length ds
own_in node ds k e = omega (arith, own_below 0 node ds k e)

-- and it is the node's
own_row : (j node : ℕ) (ds : List Demand) (k : ℕ) → own_from j node ds ≡ Some k → (j ≤ k) × ((get_or ds (k - j) no_demand).node ≡ node)
unfolding own_from
own_row j node [] k e = let z : ◌≡◌ {A = ℕ} 0 1 = cc in absurd (omega arith)
own_row j node (d ∷ ds) k e = go (eqb d.node node) d.own refl e (own_row (suc j) node ds k)
  where
    later : (suc j ≤ k) × ((get_or ds (k - suc j) no_demand).node ≡ node) → (j ≤ k) × ((get_or (d ∷ ds) (k - j) no_demand).node ≡ node)
    later f = let q : k - j ≡ suc (k - suc j) = omega (arith, f.0) in (omega (arith, f.0), rw q f.1)

    go : (t o : Bool) → eqb d.node node ≡ t → cond (t && o) (Some j) (own_from (suc j) node ds) ≡ Some k → (own_from (suc j) node ds ≡ Some k → (suc j ≤ k) × ((get_or ds (k - suc j) no_demand).node ≡ node))
        → (j ≤ k) × ((get_or (d ∷ ds) (k - j) no_demand).node ≡ node)
    go true true q e f =
        let same : j ≡ k = cc in
        let z : k - j ≡ 0 = omega arith in
        (omega arith, rw z (eqb-true d.node node q))
    go true false q e f = later (f e)
    go false o q e f = later (f e)

own-node : (node : ℕ) (ds : List Demand) (k : ℕ) → own_from 0 node ds ≡ Some k → (get_or ds k no_demand).node ≡ node
own-node node ds k e = let z : k - 0 ≡ k = omega arith in rw z at (own_row 0 node ds k e).1

-- ---- the words of a demand
two-words : (o : Option Name) → name_words o ≡ get_or (name_words o) name_place 0 ∷ get_or (name_words o) name_length 0 ∷ []
two-words None = refl
two-words (Some n) = refl

pub words-two : (text : List ℕ) (f : Option Span) {p : List ℕ} → p ≡ name_words (opt_in text f) → length p ≡ name_width
words-two text f e = ap length (e ∙ two-words (opt_in text f))

pub demand-words : (text : List ℕ) (node : ℕ) (x : Float) (f : Option Span) (p : List ℕ) → p ≡ name_words (opt_in text f)
    → node ∷ 0 ∷ get_or p name_place 0 ∷ get_or p name_length 0 ∷ 0 ∷ [] ≡ demand_words (demand_at node x (opt_in text f))
demand-words text node x f p e =
    ap (λ (l : List ℕ). node ∷ 0 ∷ get_or l name_place 0 ∷ get_or l name_length 0 ∷ 0 ∷ []) e ∙ ap (λ (l : List ℕ). node ∷ 0 ∷ l ++ (0 ∷ [])) (sym (two-words (opt_in text f)))

pub sits : (text : List ℕ) (f : Option Span) → MayFit text f → SitsOr text (opt_in text f)
sits text (Some s) h = sits-field text (Some s) h
sits text None h = tt

-- ---- a demand stored
module _ {text : List ℕ} {m : Network} {s : Counts} {w : List ℕ} {f : List Float} (h : Holds text m s w f) (x : Float) (p : Option Span) where
  module _ (node : ℕ) where
    abbrev Adds : Result Counts Reason → List ℕ → List Float → Type 0
    Adds r w' f' = After text (add_demand node x (opt_in text p) m) r w f w' f'

    pub demands-full : own_from 0 node m.demands ≡ None → room_demands ≤ s.demands → Adds (Err NoRoom) w f
    unfolding add_demand
    demands-full e k = rw (e, le-ltb (length m.demands) room_demands (omega (arith, k, count-demands h))) (refl, refl, refl)

    pub appended : (w1 : List ℕ) (f1 : List Float) → own_from 0 node m.demands ≡ None → MayFit text p → node < s.nodes → s.demands < room_demands
        → w1 ≡ demand_added w s.demands (demand_at node x (opt_in text p)) → f1 ≡ splice f (demand_numbers_at + s.demands) (x ∷ [])
        → Adds
        (Ok (record { nodes = s.nodes; links = s.links; curves = s.curves; points = s.points; patterns = s.patterns; multipliers = s.multipliers; demands = s.demands + 1; rules = s.rules; clauses = s.clauses }))
        w1 f1
    unfolding add_demand
    appended w1 f1 e fits inside k ew ef =
        let h1 = add-demand h (demand_at node x (opt_in text p)) (count-demands h) k (sits text p fits) (omega (arith, inside, count-nodes h)) (λ f. absurd (false≢true f)) ew ef in
        rw (e, lt-ltb (length m.demands) room_demands (omega (arith, k, count-demands h))) (rw (h.counts, length-append), h1)

    pub replaced : (k : ℕ) (w1 : List ℕ) (f1 : List Float) → own_from 0 node m.demands ≡ Some k → MayFit text p
        → w1 ≡ splice w (demands_at + k * demands_width) (demand_words (demand_at node x (opt_in text p))) → f1 ≡ splice f (demand_numbers_at + k) (x ∷ [])
        → Adds (Ok s) w1 f1
    unfolding add_demand
    replaced k w1 f1 e fits ew ef =
        let d : Demand = demand_at node x (opt_in text p) in
        let h1 = change-demand h k no_demand d (own_in node m.demands k e) (sits text p fits)
        (ap (λ (i : ℕ). i % demand_slots_long) (sym (own-node node m.demands k e))) (λ f. absurd (false≢true f)) ew ef in
        rw e (ap Ok (h.counts ∙ sym (same-count-demands m k d)), h1)

  module _ (id : Span) where
    abbrev letters : List ℕ
    letters = part id.at id.end text

    abbrev Sets : Result Counts Reason → List ℕ → List Float → Type 0
    Sets r w' f' = After text (set_demand (name_in text id) x (opt_in text p) m) r w f w' f'

    pub no-node : lookup (node_ids m) letters ≡ None → Sets (Err NotFound) w f
    unfolding set_demand
    no-node e = rw e (refl, refl, refl)

    module _ (i : ℕ) (e : lookup (node_ids m) letters ≡ Some i) where
      pub node-below : i < length m.nodes
      node-below = omega (arith, found_below (node_ids m) letters e, node-count m)

      by_kind : (k : NodeKind) (r : Result Counts Reason) (w' : List ℕ) (f' : List Float) → (get_or m.nodes i no_node).kind ≡ k → is_junction k ≡ true
          → After text (add_demand i x (opt_in text p) m) r w f w' f' → Sets r w' f'
      unfolding set_demand
      by_kind (junction j) r w' f' q t a = rw (e, q) a
      by_kind (reservoir j) r w' f' q t a = absurd (let z : ◌≡◌ {A = ℕ} 0 1 = cc in omega arith)
      by_kind (tank j) r w' f' q t a = absurd (let z : ◌≡◌ {A = ℕ} 0 1 = cc in omega arith)

      pub on-junction : (r : Result Counts Reason) (w' : List ℕ) (f' : List Float) → true ≡ is_junction (get_or m.nodes i no_node).kind → After text (add_demand i x (opt_in text p) m) r w f w' f' → Sets r w' f'
      on-junction r w' f' t a = by_kind (get_or m.nodes i no_node).kind r w' f' refl (sym t) a

      not-kind : (k : NodeKind) → (get_or m.nodes i no_node).kind ≡ k → is_junction k ≡ false → Sets (Err WrongKind) w f
      unfolding set_demand
      not-kind (junction j) q t = absurd (let z : ◌≡◌ {A = ℕ} 0 1 = cc in omega arith)
      not-kind (reservoir j) q t = rw (e, q) (refl, refl, refl)
      not-kind (tank j) q t = rw (e, q) (refl, refl, refl)

      pub no-junction : false ≡ is_junction (get_or m.nodes i no_node).kind → Sets (Err WrongKind) w f
      no-junction t = not-kind (get_or m.nodes i no_node).kind refl (sym t)
