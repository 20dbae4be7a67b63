-- What a line of EMITTERS or COORDINATES makes of the network: a node is changed in its place. Assumes nothing.
use Rattle.std.specs.Prelude.{Err, None, Ok, Some, Option}
use Prim.Native.Nat.{ℕ, ◌+◌, ◌*◌, ◌<◌}
use native.Mathlib.Omega.{arith}
use mathlib.Core.Path.{◌≡◌, refl, sym, ap, ◌∙◌}
use mathlib.Core.Bool.{true, false}
use mathlib.Core.List.{List, [], ◌∷◌, ◌++◌}
use lib.ListN.{length, get_or}
use lib.Ieee.{Float}
use Rattle.leaf_fields.specs.Fields.{Name, name_in, part}
use Rattle.leaf_fields.specs.declared.Span.{Span}
use Rattle.scope.specs.declared.Reason.TheVariants.{NotFound, WrongKind}
use Rattle.scope.specs.declared.Counts.{Counts}
use Rattle.scope.specs.Records.{Network, Node, NodeKind, junction, reservoir, tank, Junction, Place, no_node, lookup, node_ids}
use Rattle.scope.specs.Values.{good, bad}
use Rattle.scope.specs.Nodes.{on_junction, change_node, emitting, set_emitter, standing, set_place}
use Rattle.scope.specs.Tables.{id_words, name_words, flag, index_no, kind_words, kind_numbers, placed, place_numbers, node_words, node_numbers}
use Rattle.table_rows.specs.Table.{splice}
use Rattle.scope.specs.Sections.{room_nodes}
use Rattle.scope.specs.Layout.{nodes_at, nodes_width, node_placed, node_numbers_at, node_numbers_width, junction_emitter, node_x}
use Rattle.table_rows.specs.Holding.{NodeFine, Words, Holds, Sound, After, is_junction}
use Rattle.table_rows.proofs.HoldLaws.{count-nodes, each_at, change-node, change-node-numbers, same-count-nodes}
use Rattle.table_find.proofs.LookLaws.{found_below}
use Rattle.table_rows.proofs.ReadLaws.{node-count}

-- ---- the node that changes
emit-words : (n : Node) (j : Junction) (x : Float) → n.kind ≡ junction j → node_words (emitting n j x) ≡ node_words n
emit-words n j x q = rw q

emit-numbers : (n : Node) (j : Junction) (x : Float) → n.kind ≡ junction j → node_numbers (emitting n j x) ≡ splice (node_numbers n) junction_emitter (x ∷ [])
emit-numbers n j x q = rw q

place-word : (id : Name) (kind : ℕ) (p : Option Name) (last a b : ℕ)
    → ◌≡◌ {A = List ℕ} (id_words id ++ (kind ∷ name_words p ++ (last ∷ [])) ++ (b ∷ [])) (splice (id_words id ++ (kind ∷ name_words p ++ (last ∷ [])) ++ (a ∷ [])) node_placed (b ∷ []))
place-word id kind None last a b = refl
place-word id kind (Some n) last a b = refl

kind-place-word : (id : Name) (k : NodeKind) (a b : ℕ) → id_words id ++ kind_words k ++ (b ∷ []) ≡ splice (id_words id ++ kind_words k ++ (a ∷ [])) node_placed (b ∷ [])
kind-place-word id (junction j) a b = place-word id 1 None (flag j.disabled) a b
kind-place-word id (reservoir r) a b = place-word id 2 r.pattern (index_no r.index) a b
kind-place-word id (tank t) a b = place-word id 3 t.curve (flag t.overflow) a b

kind-place-numbers : (k : NodeKind) (o : Option Place) (x y : Float) → kind_numbers k ++ (x ∷ y ∷ []) ≡ splice (kind_numbers k ++ place_numbers o) node_x (x ∷ y ∷ [])
kind-place-numbers (junction j) None x y = refl
kind-place-numbers (junction j) (Some p) x y = refl
kind-place-numbers (reservoir r) None x y = refl
kind-place-numbers (reservoir r) (Some p) x y = refl
kind-place-numbers (tank t) None x y = refl
kind-place-numbers (tank t) (Some p) x y = refl

module _ {text : List ℕ} {m : Network} {s : Counts} {w : List ℕ} {f : List Float} (h : Holds text m s w f) (id : Span) where
  pub no-emitter : (x : Float) → lookup (node_ids m) (part id.at id.end text) ≡ None → After text (set_emitter (name_in text id) x m) (Err NotFound) w f w f
  unfolding set_emitter
  no-emitter x q = rw q (refl, refl, refl)

  pub no_place : (p : Place) → lookup (node_ids m) (part id.at id.end text) ≡ None → After text (set_place (name_in text id) p m) (Err NotFound) w f w f
  unfolding set_place
  no_place p q = rw q (refl, refl, refl)

  module _ {i : ℕ} (q : lookup (node_ids m) (part id.at id.end text) ≡ Some i) where
    pub node-below : i < length m.nodes
    node-below = omega (arith, found_below (node_ids m) (part id.at id.end text) q, node-count m)

    pub node-room : i < room_nodes
    node-room = omega (arith, node-below, h.words.known.nodes.bound)

    fine : NodeFine text (get_or m.nodes i no_node)
    fine = each_at (NodeFine text) m.nodes i no_node h.words.known.nodes.fine node-below

    not-emitting : (x : Float) (n : Node) (k : NodeKind) → is_junction k ≡ false → After text (on_junction k (λ j. good (change_node i (emitting n j x) m)) (bad WrongKind)) (Err WrongKind) w f w f
    not-emitting x n (junction j) t = absurd (let z : ◌≡◌ {A = ℕ} 0 1 = cc in omega arith)
    not-emitting x n (reservoir r) t = (refl, refl, refl)
    not-emitting x n (tank r) t = (refl, refl, refl)

    pub no-junction : (x : Float) → is_junction (get_or m.nodes i no_node).kind ≡ false → After text (set_emitter (name_in text id) x m) (Err WrongKind) w f w f
    unfolding set_emitter
    no-junction x t = rw q (not-emitting x (get_or m.nodes i no_node) (get_or m.nodes i no_node).kind t)

    emits : {f1 : List Float} (x : Float) (k : NodeKind) → (get_or m.nodes i no_node).kind ≡ k → is_junction k ≡ true → f1 ≡ splice f (node_numbers_at + i * node_numbers_width + junction_emitter) (x ∷ [])
        → After text (on_junction k (λ j. good (change_node i (emitting (get_or m.nodes i no_node) j x) m)) (bad WrongKind)) (Ok s) w f w f1
    emits x (junction j) e t ef =
        let n : Node = get_or m.nodes i no_node in
        let held = change-node-numbers h i no_node (emitting n j x) junction_emitter (x ∷ []) node-below (fine.0, tt) refl (emit-words n j x e) (omega arith) (emit-numbers n j x e) ef in
        (ap Ok (h.counts ∙ sym (same-count-nodes m i (emitting n j x))), held)
    emits x (reservoir r) e t ef = absurd (let z : ◌≡◌ {A = ℕ} 0 1 = cc in omega arith)
    emits x (tank r) e t ef = absurd (let z : ◌≡◌ {A = ℕ} 0 1 = cc in omega arith)

    pub emitter-set : {f1 : List Float} (x : Float) → is_junction (get_or m.nodes i no_node).kind ≡ true → f1 ≡ splice f (node_numbers_at + i * node_numbers_width + junction_emitter) (x ∷ [])
        → After text (set_emitter (name_in text id) x m) (Ok s) w f w f1
    unfolding set_emitter
    emitter-set x t ef = rw q (emits x (get_or m.nodes i no_node).kind refl t ef)

    pub place_set : {w1 : List ℕ} {f1 : List Float} (p : Place) → w1 ≡ splice w (nodes_at + i * nodes_width + node_placed) (1 ∷ [])
        → f1 ≡ splice f (node_numbers_at + i * node_numbers_width + node_x) (p.x ∷ p.y ∷ [])
        → After text (set_place (name_in text id) p m) (Ok s) w f w1 f1
    unfolding set_place
    place_set p ew ef =
        let n : Node = get_or m.nodes i no_node in
        let held =
        change-node h i no_node (standing n p) node_placed (1 ∷ []) node_x (p.x ∷ p.y ∷ []) node-below fine refl (omega arith) (kind-place-word n.id n.kind (placed n.place) 1) (omega arith)
        (kind-place-numbers n.kind n.place p.x p.y) ew ef
        in
        rw q (ap Ok (h.counts ∙ sym (same-count-nodes m i (standing n p))), held)

-- a node that was found has a number below the room
pub found-room : {text : List ℕ} {s : Counts} {w : List ℕ} {f : List Float} → Sound text s w f → (id : Span) {r : Option ℕ} {i : ℕ}
    → ((m : Network) → Words text m w → s.nodes ≡ length m.nodes → r ≡ lookup (node_ids m) (part id.at id.end text)) → r ≡ Some i → i < room_nodes
found-room k id e q = node-room k.holds id (sym (e k.m k.holds.words (count-nodes k.holds)) ∙ q)
