-- What storing a node makes of the network. Assumes nothing.
use Rattle.std.specs.Prelude.{Err, None, Ok, Some, Option}
use Prim.Native.Nat.{ℕ, ◌+◌, ◌*◌, ◌%◌, ◌≤◌, ◌<◌}
use native.Mathlib.Omega.{arith}
use borrow.Author.Tests.{lt-ltb, le-ltb}
use mathlib.Core.Path.{◌≡◌, refl, sym, ap, ◌∙◌}
use mathlib.Core.Bool.{Bool, true, false, cond, ◌&&◌}
use mathlib.Core.List.{List, [], ◌∷◌, ◌++◌}
use lib.ListN.{length, get_or, length-append}
use lib.Dec.{ltb}
use lib.Ieee.{Float}
use Rattle.leaf_fields.specs.Fields.{Name, name_in, part, Fits, opt_in, MayFit}
use Rattle.leaf_fields.specs.declared.Span.{Span}
use Rattle.scope.specs.declared.Reason.{Reason}
use Rattle.scope.specs.declared.Reason.TheVariants.{NoRoom}
use Rattle.scope.specs.declared.Counts.{Counts}
use Rattle.scope.specs.declared.Tank as coded
use Rattle.scope.specs.Records.{Network, Node, NodeKind, reservoir, tank, zero_f, lookup, node_ids, with_nodes}
use Rattle.scope.specs.Values.{Read, good, bad}
use Rattle.scope.specs.Nodes.{JunctionFields, junction_node, junction_demand, with_junction, add_junction, add_node}
use Rattle.scope.specs.Tables.{id_words, name_words, flag, marked, node_slot, node_numbers, demand_numbers}
use Rattle.table_rows.specs.Table.{splice}
use Rattle.scope.specs.Layout.{nodes_at, nodes_width, node_slots_at, node_numbers_at, node_numbers_width, demand_numbers_at, demand_slots_long}
use Rattle.scope.specs.Sections.{room_nodes, room_demands}
use Rattle.table_rows.specs.Adding.{node_added, demand_added}
use Rattle.table_rows.specs.Holding.{Holds, After}
use Rattle.table_rows.proofs.HoldLaws.{sits-span, sits-field, add-node, add-demand, count-nodes, count-demands}
use Rattle.parse_nodes.specs.Lines.{junction_in, tank_in}
use Rattle.store_nodes.specs.Storing.{new_node, new_words, own_words, KindAs, NewId}
use Rattle.parse_nodes.specs.declared.JunctionLine.{JunctionLine}
use Rattle.parse_nodes.specs.declared.ReservoirLine.{ReservoirLine}

-- ---- the words that are put
pub new-words : (i l : List ℕ) (n : Name) (kind : ℕ) (p : Option Name) (last : ℕ) → i ≡ id_words n → l ≡ name_words p
    → ◌≡◌ {A = List ℕ} (get_or i 0 0 ∷ get_or i 1 0 ∷ get_or i 2 0 ∷ kind ∷ get_or l 0 0 ∷ get_or l 1 0 ∷ last ∷ 0 ∷ []) (new_words n kind p last)
new-words i l n kind None last ei el = rw (ei, el)
new-words i l n kind (Some q) last ei el = rw (ei, el)

pub own-words : (l : List ℕ) (n : ℕ) (p : Option Name) → l ≡ name_words p → ◌≡◌ {A = List ℕ} (n ∷ 1 ∷ get_or l 0 0 ∷ get_or l 1 0 ∷ 0 ∷ []) (own_words n p)
own-words l n None e = rw e
own-words l n (Some q) e = rw e

-- ---- a reservoir or a tank
pub reservoir-kind : (text : List ℕ) (r : ReservoirLine) → MayFit text r.pattern
    → KindAs text (reservoir (record { elevation = r.elevation; pattern = opt_in text r.pattern; index = None })) 2 r.pattern 0
    (r.elevation ∷ zero_f ∷ zero_f ∷ zero_f ∷ zero_f ∷ zero_f ∷ zero_f ∷ zero_f ∷ [])
reservoir-kind text r may = record { words = refl; numbers = λ id. refl; pattern = sits-field text r.pattern may }

pub tank-kind : (text : List ℕ) (t : coded.Tank) (over : ℕ) → over ≡ flag t.overflow
    → KindAs text (tank (tank_in text t)) 3 t.curve over (t.elevation ∷ t.initial ∷ t.minimum ∷ t.maximum ∷ t.diameter ∷ t.volume ∷ zero_f ∷ zero_f ∷ [])
tank-kind text t over e = record { words = rw e; numbers = λ id. refl; pattern = tt }

-- ---- no more node: a reservoir or a tank is refused, and a junction
both : (a b : Bool) (o p : Read Network) → cond (a && b) o p ≡ cond a (cond b o p) p
both true b o p = refl
both false b o p = refl

module _ (text : List ℕ) (m : Network) (w : List ℕ) (f : List Float) where
  pub node-refused : (id : Name) (k : NodeKind) {why : Reason} → NewId id m (Err why) → After text (add_node (new_node id k) m) (Err why) w f w f
  unfolding add_node
  node-refused id k none = rw (none (good (with_nodes (m.nodes ++ (new_node id k ∷ [])) m))) (refl, refl, refl)

  pub junction-refused : (j : JunctionFields) {why : Reason} → NewId j.id m (Err why) → After text (add_junction j m) (Err why) w f w f
  unfolding add_junction
  junction-refused j none =
      rw (
        both (ltb (length m.nodes) room_nodes) (ltb (length m.demands) room_demands) (good (with_junction j m)) (bad NoRoom),
        none (cond (ltb (length m.demands) room_demands) (good (with_junction j m)) (bad NoRoom)),
      ) (refl, refl, refl)

module _ {text : List ℕ} {m : Network} {s : Counts} {w : List ℕ} {f : List Float} (h : Holds text m s w f) (id : Span) (k : NodeKind) where
  pub node-stored : {w1 : List ℕ} {f1 : List Float} (kind : ℕ) (name : Option Span) (last : ℕ) (amounts : List Float) → Fits text id → KindAs text k kind name last amounts
      → (lookup (node_ids m) (part id.at id.end text) ≡ None) × (length m.nodes < room_nodes)
      → w1 ≡ marked (splice w (nodes_at + s.nodes * nodes_width) (new_words (name_in text id) kind (opt_in text name) last))
      (node_slots_at + node_slot (new_node (name_in text id) k)) (s.nodes + 1) → f1 ≡ splice f (node_numbers_at + s.nodes * node_numbers_width) amounts
      → After text (add_node (new_node (name_in text id) k) m)
      (Ok (record { nodes = s.nodes + 1; links = s.links; curves = s.curves; points = s.points; patterns = s.patterns; multipliers = s.multipliers; demands = s.demands; rules = s.rules; clauses = s.clauses }))
      w f w1 f1
  unfolding add_node
  node-stored kind name last amounts fit a (free, n) ew ef =
      let x : Node = new_node (name_in text id) k in
      let ws = ew ∙ ap (λ (l : List ℕ). marked (splice w (nodes_at + s.nodes * nodes_width) (id_words (name_in text id) ++ l ++ (0 ∷ []))) (node_slots_at + node_slot x) (s.nodes + 1)) (sym a.words) in
      let ns = ef ∙ ap (λ (l : List Float). splice f (node_numbers_at + s.nodes * node_numbers_width) l) (sym (a.numbers (name_in text id))) in
      let held = add-node h x (count-nodes h) (omega (arith, n, count-nodes h)) (sits-span text id fit, a.pattern) ws ns in
      rw (free, lt-ltb (length m.nodes) room_nodes n) (rw (h.counts, length-append), held)

-- ---- a junction
module _ {text : List ℕ} {m : Network} {s : Counts} {w : List ℕ} {f : List Float} (h : Holds text m s w f) (j : JunctionLine) where
  module _ (free : lookup (node_ids m) (part j.id.at j.id.end text) ≡ None) (n : length m.nodes < room_nodes) where
    pub demands-full : room_demands ≤ s.demands → After text (add_junction (junction_in text j) m) (Err NoRoom) w f w f
    unfolding add_junction
    demands-full d =
        rw (free, lt-ltb (length m.nodes) room_nodes n, le-ltb (length m.demands) room_demands (omega (arith, d, count-demands h)))
        (refl, refl, refl)

    pub junction-stored : {w1 : List ℕ} {f1 : List Float} → Fits text j.id → MayFit text j.pattern → s.demands < room_demands
        → w1 ≡ demand_added (node_added w s.nodes (junction_node (junction_in text j))) s.demands (junction_demand s.nodes (junction_in text j))
        → f1 ≡ splice (splice f (node_numbers_at + s.nodes * node_numbers_width) (node_numbers (junction_node (junction_in text j)))) (demand_numbers_at + s.demands)
        (demand_numbers (junction_demand s.nodes (junction_in text j)))
        → After text (add_junction (junction_in text j) m)
        (Ok (record { nodes = s.nodes + 1; links = s.links; curves = s.curves; points = s.points; patterns = s.patterns; multipliers = s.multipliers; demands = s.demands + 1; rules = s.rules; clauses = s.clauses }))
        w f w1 f1
    unfolding add_junction
    junction-stored fit may d ew ef =
        let jf : JunctionFields = junction_in text j in
        let w0 : List ℕ = node_added w s.nodes (junction_node jf) in
        let f0 : List Float = splice f (node_numbers_at + s.nodes * node_numbers_width) (node_numbers (junction_node jf)) in
        let h1 = add-node h {w' = w0} {f' = f0} (junction_node jf) (count-nodes h) (omega (arith, n, count-nodes h)) (sits-span text j.id fit, tt) refl refl in
        let ws = ew ∙ ap (λ (i : ℕ). demand_added w0 s.demands (junction_demand i jf)) (count-nodes h) in
        let h2 = add-demand h1 (junction_demand (length m.nodes) jf) (count-demands h) d (sits-field text j.pattern may) (omega (arith, length-append m.nodes (junction_node jf ∷ [])))
        (λ own. h.words.known.owned.beyond (length m.nodes % demand_slots_long) (omega (arith, n, count-nodes h))) ws ef in
        rw (free, lt-ltb (length m.nodes) room_nodes n, lt-ltb (length m.demands) room_demands (omega (arith, d, count-demands h)))
        (rw (h.counts, length-append, length-append), h2)
