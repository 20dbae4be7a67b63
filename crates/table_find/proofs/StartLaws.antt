-- Where a walk over the rows of a table may start: no row before has the slot that is looked for. Assumes nothing.
use Prim.Native.Nat.{ℕ, ◌+◌, ◌*◌, ◌≤◌, ◌<◌}
use native.Mathlib.Omega.{arith}
use mathlib.Core.Path.{◌≡◌, refl, sym, ap, ◌∙◌}
use mathlib.Core.Bool.{Bool, true, false}
use mathlib.Core.List.{List}
use lib.ListN.{length, get_or}
use Rattle.leaf_letters.specs.Words.{same}
use Rattle.leaf_letters.proofs.WordLaws.{same-equal}
use Rattle.scope.specs.Records.{Network, no_name, no_node, no_link}
use Rattle.scope.specs.Tables.{key_of, slots, slot_of, id_slot, node_slot, link_slot, demand_slot}
use Rattle.scope.specs.Layout.{curve_slots_long, demand_slots_long, link_slots_long, node_slots_long, pattern_slots_long, nodes_at, links_at, curves_at, patterns_at}
use Rattle.scope.specs.Layout.{nodes_width, links_width, node_slots_at, link_slots_at, curve_slots_at, pattern_slots_at, demand_slots_at, id_key, curves_width, patterns_width}
use Rattle.table_rows.specs.Holding.{Words, OtherNames, NotInSlot}
use Rattle.table_rows.proofs.SlotLaws.{slots-first}
use Rattle.table_rows.proofs.BlockLaws.{slot-word}
use Rattle.table_rows.proofs.SizeLaws.{node-slots-lie, link-slots-lie, curve-slots-lie, pattern-slots-lie, demand-slots-lie}
use Rattle.table_rows.proofs.ReadLaws.{node-word, link-word, curve-word, pattern-word}

-- ---- the n slots of rs stand in w from `at` on
module _ {R : Type 0} (slot : R → ℕ) (n : ℕ) (rs : List R) (r0 : R) (w : List ℕ) (at : ℕ)
    (stand : (h : ℕ) → h < n → get_or w (at + h) 0 ≡ get_or (slots slot n rs) h 0) (small : (r : R) → slot r < n) where
  not-before : (j h b : ℕ) → j < length rs → h ≡ slot (get_or rs j r0) → NotInSlot (get_or w (at + h) 0) b → j < b → ⊥
  not-before j h b hj e o l =
      let f = slots-first slot n rs j r0 hj (small (get_or rs j r0)) in
      let q : get_or w (at + h) 0 ≡ get_or (slots slot n rs) (slot (get_or rs j r0)) 0 = rw e (stand (slot (get_or rs j r0)) (small (get_or rs j r0))) in
      o j l (omega (arith, f.0, q)) (omega (arith, f.1, q))

  -- rows of names, whose slots are by their keys
  named-before : (text : List ℕ) (base stride : ℕ) (name : List ℕ) (h b : ℕ) → h ≡ slot_of (key_of name)
      → ((j : ℕ) → j < length rs → slot_of (get_or w (base + j * stride + id_key) 0) ≡ slot (get_or rs j r0)) → b ≤ length rs
      → NotInSlot (get_or w (at + h) 0) b → OtherNames text w base stride name b
  named-before text base stride name h b e keyed hb o j l x row = go (same x.letters name) refl
    where
      go : (t : Bool) → same x.letters name ≡ t → t ≡ false
      go false q = refl
      go true q =
          let hj : j < length rs = omega arith in
          let k : get_or w (base + j * stride + id_key) 0 ≡ key_of name = row.key ∙ ap key_of (same-equal x.letters name q) in
          absurd (not-before j h b hj (e ∙ ap slot_of (sym k) ∙ keyed j hj) o l)

-- ---- the tables
module _ {text : List ℕ} {m : Network} {w : List ℕ} (h : Words text m w) where
  pub nodes-before : (name : List ℕ) (slot b : ℕ) → slot ≡ slot_of (key_of name) → b ≤ length m.nodes → NotInSlot (get_or w (node_slots_at + slot) 0) b → OtherNames text w nodes_at nodes_width name b
  nodes-before name slot b e =
      named-before node_slot node_slots_long m.nodes no_node w node_slots_at (slot-word (node-slots-lie h.known) h.exact) (λ r. omega arith) text nodes_at nodes_width name slot b e
      (λ j hj. ap slot_of (node-word h j id_key no_node hj (omega arith)))

  pub links-before : (name : List ℕ) (slot b : ℕ) → slot ≡ slot_of (key_of name) → b ≤ length m.links → NotInSlot (get_or w (link_slots_at + slot) 0) b → OtherNames text w links_at links_width name b
  links-before name slot b e =
      named-before link_slot link_slots_long m.links no_link w link_slots_at (slot-word (link-slots-lie h.known) h.exact) (λ r. omega arith) text links_at links_width name slot b e
      (λ j hj. ap slot_of (link-word h j id_key no_link hj (omega arith)))

  pub curves-before : (name : List ℕ) (slot b : ℕ) → slot ≡ slot_of (key_of name) → b ≤ length m.curves → NotInSlot (get_or w (curve_slots_at + slot) 0) b → OtherNames text w curves_at curves_width name b
  curves-before name slot b e =
      named-before id_slot curve_slots_long m.curves no_name w curve_slots_at (slot-word (curve-slots-lie h.known) h.exact) (λ r. omega arith) text curves_at curves_width name slot b e
      (λ j hj. ap slot_of (curve-word h j id_key no_name hj (omega arith)))

  pub patterns-before : (name : List ℕ) (slot b : ℕ) → slot ≡ slot_of (key_of name) → b ≤ length m.patterns → NotInSlot (get_or w (pattern_slots_at + slot) 0) b
      → OtherNames text w patterns_at patterns_width name b
  patterns-before name slot b e =
      named-before id_slot pattern_slots_long m.patterns no_name w pattern_slots_at (slot-word (pattern-slots-lie h.known) h.exact) (λ r. omega arith) text patterns_at patterns_width name slot b e
      (λ j hj. ap slot_of (pattern-word h j id_key no_name hj (omega arith)))

  -- what the slot of a junction holds
  pub demand-slot : (i : ℕ) → i < demand_slots_long → get_or w (demand_slots_at + i) 0 ≡ get_or (slots demand_slot demand_slots_long m.demands) i 0
  demand-slot = slot-word (demand-slots-lie h.known) h.exact
