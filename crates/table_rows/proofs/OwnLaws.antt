-- A demand of a junction's own line is the first in its slot, whatever is stored. Assumes nothing.
use Prim.Native.Nat.{ℕ, suc, ◌+◌, ◌≤◌, ◌<◌}
use native.Mathlib.Omega.{arith}
use borrow.Author.Tests.{lt-ltb, le-ltb, eq-eqb, eqb-true}
use mathlib.Core.Path.{◌≡◌, refl, sym, ap, ◌∙◌}
use mathlib.Core.Bool.{Bool, true, false, false≢true}
use mathlib.Core.List.{List, [], ◌∷◌, ◌++◌}
use lib.ListN.{length, get_or, set, length-append, length-set, get_or-append}
use lib.Seq.{get_or-set_same, get_or-set_other, get_or_at}
use lib.Dec.{eqb, ltb}
use Rattle.scope.specs.Records.{Demand, no_demand}
use Rattle.scope.specs.Tables.{marked, slots, demand_slot}
use Rattle.scope.specs.Layout.{demand_slots_long}
use Rattle.scope.specs.Sections.{room_nodes}
use Rattle.table_rows.specs.Holding.{Owned}
use Rattle.table_rows.proofs.SlotLaws.{mark-keeps, mark-other, mark-free, slots-long, slots-more, slots_same}

module _ {n : ℕ} {ds : List Demand} (o : Owned n ds) where
  -- more nodes
  pub owned-nodes : {q : ℕ} → n ≤ q → Owned q ds
  owned-nodes h = record { first = o.first; beyond = λ k l. o.beyond k (omega arith) }

  -- one demand more
  module _ (x : Demand) (inside : x.node < n) (room : n ≤ room_nodes) (free : x.own ≡ true → get_or (slots demand_slot demand_slots_long ds) (demand_slot x) 0 ≡ 0) where
    abbrev more : List ℕ
    more = marked (slots demand_slot demand_slots_long ds) (demand_slot x) (length ds + 1)

    at_more : (h : ℕ) {v : ℕ} → get_or more h 0 ≡ v → get_or (slots demand_slot demand_slots_long (ds ++ (x ∷ []))) h 0 ≡ v
    at_more h e = ap (λ (ss : List ℕ). get_or ss h 0) (sym (slots-more demand_slot demand_slots_long ds x)) ∙ e

    first_more : (k : ℕ) → k < length (ds ++ (x ∷ [])) → (get_or (ds ++ (x ∷ [])) k no_demand).own ≡ true
        → get_or (slots demand_slot demand_slots_long (ds ++ (x ∷ []))) (demand_slot (get_or (ds ++ (x ∷ [])) k no_demand)) 0 ≡ suc k
    first_more k h own = go (ltb k (length ds)) refl
      where
        go : (t : Bool) → ltb k (length ds) ≡ t → get_or (slots demand_slot demand_slots_long (ds ++ (x ∷ []))) (demand_slot (get_or (ds ++ (x ∷ [])) k no_demand)) 0 ≡ suc k
        go true e =
            let no : length ds ≤ k → ⊥ = λ l. false≢true (sym (le-ltb k (length ds) l) ∙ e) in
            let b : k < length ds = omega (arith, no) in
            let q : get_or (ds ++ (x ∷ [])) k no_demand ≡ get_or ds k no_demand = get_or-append ds (x ∷ []) no_demand k b in
            let f : get_or (slots demand_slot demand_slots_long ds) (demand_slot (get_or ds k no_demand)) 0 ≡ suc k = o.first k b (ap (λ (d : Demand). d.own) (sym q) ∙ own) in
            let kept = mark-keeps (get_or (slots demand_slot demand_slots_long ds) (demand_slot x) 0) (slots demand_slot demand_slots_long ds) (demand_slot x)
            (length ds + 1) (demand_slot (get_or ds k no_demand)) refl (omega (arith, f)) in
            at_more (demand_slot (get_or (ds ++ (x ∷ [])) k no_demand)) (ap (λ (d : Demand). get_or more (demand_slot d) 0) q ∙ kept ∙ f)
        go false e =
            let no : k < length ds → ⊥ = λ l. false≢true (sym e ∙ lt-ltb k (length ds) l) in
            let b : length ds ≡ k = omega (arith, no, h, length-append ds (x ∷ [])) in
            let q : get_or (ds ++ (x ∷ [])) k no_demand ≡ x = get_or_at ds x [] no_demand k b in
            let zero : get_or (slots demand_slot demand_slots_long ds) (demand_slot x) 0 ≡ 0 = free (ap (λ (d : Demand). d.own) (sym q) ∙ own) in
            let put : get_or more (demand_slot x) 0 ≡ length ds + 1 =
            ap (λ (ss : List ℕ). get_or ss (demand_slot x) 0) (sym (mark-free (slots demand_slot demand_slots_long ds) (demand_slot x) (length ds + 1) zero))
            ∙ get_or-set_same (slots demand_slot demand_slots_long ds) (demand_slot x) (length ds + 1) 0 (omega (arith, slots-long demand_slot demand_slots_long ds)) in
            at_more (demand_slot (get_or (ds ++ (x ∷ [])) k no_demand)) (ap (λ (d : Demand). get_or more (demand_slot d) 0) q ∙ omega (arith, put, b))

    pub owned-more : Owned n (ds ++ (x ∷ []))
    owned-more = record {
      first = first_more;
      beyond = λ h l.
          let other : h ≡ demand_slot x → ⊥ = λ e. omega (arith, inside, room, e) in
          at_more h (mark-other (get_or (slots demand_slot demand_slots_long ds) (demand_slot x) 0) (slots demand_slot demand_slots_long ds) (demand_slot x) (length ds + 1) h other ∙ o.beyond h l);
    }

  -- a demand in the place of another of the same junction: an own one only in the place of an own one
  module _ (i : ℕ) (x : Demand) (same : demand_slot x ≡ demand_slot (get_or ds i no_demand)) (was : x.own ≡ true → (get_or ds i no_demand).own ≡ true) where
    at_set : (h : ℕ) {v : ℕ} → get_or (slots demand_slot demand_slots_long ds) h 0 ≡ v → get_or (slots demand_slot demand_slots_long (set ds i x)) h 0 ≡ v
    at_set h e = ap (λ (ss : List ℕ). get_or ss h 0) (sym (slots_same demand_slot demand_slots_long ds i no_demand x same)) ∙ e

    first-set : (k : ℕ) → k < length (set ds i x) → (get_or (set ds i x) k no_demand).own ≡ true
        → get_or (slots demand_slot demand_slots_long (set ds i x)) (demand_slot (get_or (set ds i x) k no_demand)) 0 ≡ suc k
    first-set k h own = go (eqb k i) refl
      where
        b : k < length ds
        b = omega (arith, h, length-set ds i x)

        go : (t : Bool) → eqb k i ≡ t → get_or (slots demand_slot demand_slots_long (set ds i x)) (demand_slot (get_or (set ds i x) k no_demand)) 0 ≡ suc k
        go true e =
            let q : k ≡ i = eqb-true k i e in
            let p : get_or (set ds i x) k no_demand ≡ x = rw q (get_or-set_same ds i x no_demand (omega (arith, q, b))) in
            let f : get_or (slots demand_slot demand_slots_long ds) (demand_slot (get_or ds i no_demand)) 0 ≡ suc i = o.first i (omega (arith, q, b)) (was (ap (λ (d : Demand). d.own) (sym p) ∙ own)) in
            at_set (demand_slot (get_or (set ds i x) k no_demand))
            (ap (λ (d : Demand). get_or (slots demand_slot demand_slots_long ds) (demand_slot d) 0) p ∙ ap (λ (s : ℕ). get_or (slots demand_slot demand_slots_long ds) s 0) same ∙ f ∙ ap suc (sym q))
        go false e =
            let p : get_or (set ds i x) k no_demand ≡ get_or ds k no_demand = get_or-set_other ds i k x no_demand (λ q. false≢true (sym e ∙ eq-eqb k i q)) in
            at_set (demand_slot (get_or (set ds i x) k no_demand))
            (ap (λ (d : Demand). get_or (slots demand_slot demand_slots_long ds) (demand_slot d) 0) p ∙ o.first k b (ap (λ (d : Demand). d.own) (sym p) ∙ own))

    pub owned-set : Owned n (set ds i x)
    owned-set = record { first = first-set; beyond = λ h l. at_set h (o.beyond h l) }
