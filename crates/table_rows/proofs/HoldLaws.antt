-- What the two tables hold after a record more, or one changed. `n` is the count of the records before, as the code has it. Assumes nothing.
use Rattle.std.specs.Prelude.{None, Some, Option}
use Prim.Native.Nat.{ℕ, zero, suc, ◌+◌, ◌-◌, ◌*◌, ◌≤◌, ◌<◌}
use native.Mathlib.Omega.{arith}
use native.Mathlib.Nat.{mul-one}
use mathlib.Core.Bool.{true}
use mathlib.Core.Path.{◌≡◌, refl, sym, ap, ◌∙◌}
use mathlib.Core.List.{List, [], ◌∷◌, ◌++◌, map}
use lib.ListN.{length, set, get_or, replicate, length-append, length-map, length-set}
use lib.Ieee.{Float}
use Rattle.leaf_fields.specs.Fields.{Name, name_in, Fits, part}
use Rattle.leaf_fields.specs.declared.Span.{Span}
use Rattle.leaf_fields.proofs.FieldLaws.{length_part}
use Rattle.scope.specs.Records.{Network, Node, Link, Point, Multiplier, Demand, Rule, Clause, counts_of, with_nodes, with_links, with_curves, with_points}
use Rattle.scope.specs.Records.{with_patterns, with_multipliers, with_demands, with_times, with_rules, with_clauses, no_demand}
use Rattle.scope.specs.Sections.{room_nodes, room_links, room_curves, room_points, room_patterns, room_multipliers, room_demands, room_rules, room_clauses}
use Rattle.scope.specs.Series.{multiplier_of}
use Rattle.scope.specs.Tables.{flat, region, blocks, count_words, node_words, node_numbers, link_numbers, point_words, point_numbers, multiplier_words}
use Rattle.scope.specs.Tables.{multiplier_numbers, demand_words, demand_numbers, rule_words, clause_words, clause_numbers, slots, id_slot, node_slot, link_slot}
use Rattle.scope.specs.Tables.{demand_slot, word_blocks, number_blocks}
use Rattle.scope.specs.declared.Counts.{Counts}
use Rattle.table_rows.specs.Table.{splice}
use Rattle.scope.specs.Layout.{curve_slots_long, demand_slots_long, demands_long, link_slots_long, node_slots_long, nodes_long, pattern_slots_long, nodes_at, points_at}
use Rattle.scope.specs.Layout.{multipliers_at, demands_at, times_at, rules_at, clauses_at, node_slots_at, link_slots_at, curve_slots_at, pattern_slots_at, demand_slots_at}
use Rattle.scope.specs.Layout.{nodes_width, demands_width, times_width, rules_width, clauses_width, node_numbers_at, link_numbers_at, point_numbers_at, multiplier_numbers_at}
use Rattle.scope.specs.Layout.{demand_numbers_at, clause_numbers_at, node_numbers_width, link_numbers_width, point_numbers_width}
use Rattle.table_rows.specs.Adding.{node_added, link_added, curve_added, pattern_added, demand_added}
use Rattle.table_rows.specs.Holding.{Sits, SitsOr, opt_in, MayFit, Each, Part, NodeFine, LinkFine, PointFine, MultiplierFine, DemandFine, RuleFine}
use Rattle.table_rows.specs.Holding.{ClauseFine, Owned, Known, Words, Numbers, Holds}
use Rattle.table_rows.proofs.SlotLaws.{slots_same}
use Rattle.table_rows.proofs.OwnLaws.{owned-nodes, owned-more, owned-set}
use Rattle.table_rows.proofs.BlockLaws.{add-records, add-record, change-part, change-record, keep-record, add-slotted}
use Rattle.table_rows.proofs.SizeLaws.{word_sizes, word-sizes, node-words-lie, link-words-lie, curve-words-lie, point-words-lie, pattern-words-lie}
use Rattle.table_rows.proofs.SizeLaws.{multiplier-words-lie, demand-words-lie, time-words-lie, rule-words-lie, clause-words-lie, node-numbers-lie}
use Rattle.table_rows.proofs.SizeLaws.{link-numbers-lie, point-numbers-lie, multiplier-numbers-lie, demand-numbers-lie, clause-numbers-lie}

-- ---- names
-- a span that fits is a name that stands in the text
pub sits-span : (text : List ℕ) (s : Span) → Fits text s → Sits text (name_in text s)
sits-span text s h =
    let k : length (part s.at s.end text) ≡ s.end - s.at = length_part s.at s.end text h.inside in
    let e : s.at + length (part s.at s.end text) ≡ s.end = omega (arith, k, h.some) in
    record { there = rw e; inside = omega (arith, e, h.inside); filled = omega (arith, k, h.some) }

pub sits-field : (text : List ℕ) (f : Option Span) → MayFit text f → SitsOr text (opt_in text f)
sits-field text (Some s) h = sits-span text s h
sits-field text None h = tt

-- ---- what is known of the records of one kind, with more of them or one changed
module _ {R : Type 0} (Fine : R → Type 0) where
  each_append : (rs qs : List R) → Each Fine rs → Each Fine qs → Each Fine (rs ++ qs)
  each_append [] qs a b = b
  each_append (r ∷ rs) qs a b = (a.0, each_append rs qs a.1 b)

  each_set : (rs : List R) (i : ℕ) (r : R) → Each Fine rs → Fine r → Each Fine (set rs i r)
  each_set [] i r a b = tt
  each_set (x ∷ rs) zero r a b = (b, a.1)
  each_set (x ∷ rs) (suc i) r a b = (a.0, each_set rs i r a.1 b)

  pub each_at : (rs : List R) (i : ℕ) (r0 : R) → Each Fine rs → i < length rs → Fine (get_or rs i r0)
  each_at [] i r0 a h = absurd (omega arith)
  each_at (r ∷ rs) zero r0 a h = a.0
  each_at (r ∷ rs) (suc i) r0 a h = each_at rs i r0 a.1 (omega arith)

module _ {R : Type 0} {Fine : R → Type 0} {room : ℕ} {rs : List R} (p : Part Fine room rs) where
  many : (qs : List R) {n : ℕ} → n ≡ length rs → n + length qs ≤ room → Each Fine qs → Part Fine room (rs ++ qs)
  many qs e h a = record { bound = omega (arith, length-append rs qs, e); fine = each_append Fine rs qs p.fine a }

  more : (r : R) {n : ℕ} → n ≡ length rs → n < room → Fine r → Part Fine room (rs ++ (r ∷ []))
  more r e h a = many (r ∷ []) e (omega arith) (a, tt)

  other : (i : ℕ) (r : R) → Fine r → Part Fine room (set rs i r)
  other i r a = record { bound = rw (length-set rs i r) p.bound; fine = each_set Fine rs i r p.fine a }

each-any : {R : Type 0} (rs : List R) → Each (λ (r : R). Unit) rs
each-any [] = tt
each-any (r ∷ rs) = (tt, each-any rs)

-- ---- the network with other records of one kind
module _ {text : List ℕ} {m : Network} (k : Known text m) where
  known-nodes : (xs : List Node) → Part (NodeFine text) room_nodes xs → length m.nodes ≤ length xs → Known text (with_nodes xs m)
  known-nodes xs p l = record { nodes = p; links = k.links; curves = k.curves; points = k.points; patterns = k.patterns; multipliers = k.multipliers; demands = k.demands; times = k.times; rules = k.rules; clauses = k.clauses; owned = owned-nodes k.owned l }

  known-links : (xs : List Link) → Part (LinkFine text) room_links xs → Known text (with_links xs m)
  known-links xs p = record { nodes = k.nodes; links = p; curves = k.curves; points = k.points; patterns = k.patterns; multipliers = k.multipliers; demands = k.demands; times = k.times; rules = k.rules; clauses = k.clauses; owned = k.owned }

  known-curves : (xs : List Name) → Part (Sits text) room_curves xs → Known text (with_curves xs m)
  known-curves xs p = record { nodes = k.nodes; links = k.links; curves = p; points = k.points; patterns = k.patterns; multipliers = k.multipliers; demands = k.demands; times = k.times; rules = k.rules; clauses = k.clauses; owned = k.owned }

  known-points : (xs : List Point) → Part PointFine room_points xs → Known text (with_points xs m)
  known-points xs p = record { nodes = k.nodes; links = k.links; curves = k.curves; points = p; patterns = k.patterns; multipliers = k.multipliers; demands = k.demands; times = k.times; rules = k.rules; clauses = k.clauses; owned = k.owned }

  known-patterns : (xs : List Name) → Part (Sits text) room_patterns xs → Known text (with_patterns xs m)
  known-patterns xs p = record { nodes = k.nodes; links = k.links; curves = k.curves; points = k.points; patterns = p; multipliers = k.multipliers; demands = k.demands; times = k.times; rules = k.rules; clauses = k.clauses; owned = k.owned }

  known-multipliers : (xs : List Multiplier) → Part MultiplierFine room_multipliers xs → Known text (with_multipliers xs m)
  known-multipliers xs p = record { nodes = k.nodes; links = k.links; curves = k.curves; points = k.points; patterns = k.patterns; multipliers = p; demands = k.demands; times = k.times; rules = k.rules; clauses = k.clauses; owned = k.owned }

  known-demands : (xs : List Demand) → Part (DemandFine text) room_demands xs → Owned (length m.nodes) xs → Known text (with_demands xs m)
  known-demands xs p o = record { nodes = k.nodes; links = k.links; curves = k.curves; points = k.points; patterns = k.patterns; multipliers = k.multipliers; demands = p; times = k.times; rules = k.rules; clauses = k.clauses; owned = o }

  known-times : (xs : List (Option ℕ)) → length xs ≡ 6 → Known text (with_times xs m)
  known-times xs p = record { nodes = k.nodes; links = k.links; curves = k.curves; points = k.points; patterns = k.patterns; multipliers = k.multipliers; demands = k.demands; times = p; rules = k.rules; clauses = k.clauses; owned = k.owned }

  known-rules : (xs : List Rule) → Part (RuleFine text) room_rules xs → Known text (with_rules xs m)
  known-rules xs p = record { nodes = k.nodes; links = k.links; curves = k.curves; points = k.points; patterns = k.patterns; multipliers = k.multipliers; demands = k.demands; times = k.times; rules = p; clauses = k.clauses; owned = k.owned }

  known-clauses : (xs : List Clause) → Part ClauseFine room_clauses xs → Known text (with_clauses xs m)
  known-clauses xs p = record { nodes = k.nodes; links = k.links; curves = k.curves; points = k.points; patterns = k.patterns; multipliers = k.multipliers; demands = k.demands; times = k.times; rules = k.rules; clauses = p; owned = k.owned }

-- ---- the words
module _ {text : List ℕ} {m : Network} {w : List ℕ} (h : Words text m w) where
  more-node-words : {w' : List ℕ} {n : ℕ} (x : Node) → n ≡ length m.nodes → n < room_nodes → NodeFine text x → w' ≡ node_added w n x → Words text (with_nodes (m.nodes ++ (x ∷ [])) m) w'
  unfolding word_blocks
  more-node-words {n = n} x c r a e =
      let p = more h.known.nodes x c r a in
      record {
        exact = add-slotted (node-words-lie h.known) h.exact node_slot word_sizes (word-sizes h.known) 10 node_slots_long node_slots_at refl (omega arith) x refl c (omega arith) (omega arith) e;
        known = known-nodes h.known (m.nodes ++ (x ∷ [])) p (omega (arith, length-append m.nodes (x ∷ [])));
      }

  more-link-words : {w' : List ℕ} {n : ℕ} (x : Link) → n ≡ length m.links → n < room_links → Sits text x.id → w' ≡ link_added w n x → Words text (with_links (m.links ++ (x ∷ [])) m) w'
  unfolding word_blocks
  more-link-words {n = n} x c r a e =
      let p = more h.known.links x c r a in
      record {
        exact = add-slotted (link-words-lie h.known) h.exact link_slot word_sizes (word-sizes h.known) 11 link_slots_long link_slots_at refl (omega arith) x refl c (omega arith) (omega arith) e;
        known = known-links h.known (m.links ++ (x ∷ [])) p;
      }

  more-curve-words : {w' : List ℕ} {n : ℕ} (x : Name) → n ≡ length m.curves → n < room_curves → Sits text x → w' ≡ curve_added w n x → Words text (with_curves (m.curves ++ (x ∷ [])) m) w'
  unfolding word_blocks
  more-curve-words {n = n} x c r a e =
      let p = more h.known.curves x c r a in
      record {
        exact = add-slotted (curve-words-lie h.known) h.exact id_slot word_sizes (word-sizes h.known) 12 curve_slots_long curve_slots_at refl (omega arith) x refl c (omega arith) (omega arith) e;
        known = known-curves h.known (m.curves ++ (x ∷ [])) p;
      }

  more-point-words : {w' : List ℕ} {n : ℕ} (x : Point) → n ≡ length m.points → n < room_points → w' ≡ splice w (points_at + n) (point_words x) → Words text (with_points (m.points ++ (x ∷ [])) m) w'
  unfolding word_blocks
  more-point-words {n = n} x c r e = record {
    exact = add-record (point-words-lie h.known) h.exact x c (omega arith) (rw mul-one e);
    known = known-points h.known (m.points ++ (x ∷ [])) (more h.known.points x c r tt);
  }

  more-pattern-words : {w' : List ℕ} {n : ℕ} (x : Name) → n ≡ length m.patterns → n < room_patterns → Sits text x → w' ≡ pattern_added w n x → Words text (with_patterns (m.patterns ++ (x ∷ [])) m) w'
  unfolding word_blocks
  more-pattern-words {n = n} x c r a e =
      let p = more h.known.patterns x c r a in
      record {
        exact = add-slotted (pattern-words-lie h.known) h.exact id_slot word_sizes (word-sizes h.known) 13 pattern_slots_long pattern_slots_at refl
            (omega arith) x refl c (omega arith) (omega arith) e;
        known = known-patterns h.known (m.patterns ++ (x ∷ [])) p;
      }

  more-multiplier-words : {w' : List ℕ} {n : ℕ} (x : Multiplier) → n ≡ length m.multipliers → n < room_multipliers
      → w' ≡ splice w (multipliers_at + n) (multiplier_words x) → Words text (with_multipliers (m.multipliers ++ (x ∷ [])) m) w'
  unfolding word_blocks
  more-multiplier-words {n = n} x c r e = record {
    exact = add-record (multiplier-words-lie h.known) h.exact x c (omega arith) (rw mul-one e);
    known = known-multipliers h.known (m.multipliers ++ (x ∷ [])) (more h.known.multipliers x c r tt);
  }

  more-demand-words : {w' : List ℕ} {n : ℕ} (x : Demand) → n ≡ length m.demands → n < room_demands → SitsOr text x.pattern → x.node < length m.nodes
      → (x.own ≡ true → get_or (slots demand_slot demand_slots_long m.demands) (demand_slot x) 0 ≡ 0) → w' ≡ demand_added w n x → Words text (with_demands (m.demands ++ (x ∷ [])) m) w'
  unfolding word_blocks
  more-demand-words {n = n} x c r a inside free e =
      let p = more h.known.demands x c r a in
      record {
        exact = add-slotted (demand-words-lie h.known) h.exact demand_slot word_sizes (word-sizes h.known) 14 demand_slots_long demand_slots_at refl
            (omega arith) x refl c (omega arith) (omega arith) e;
        known = known-demands h.known (m.demands ++ (x ∷ [])) p (owned-more h.known.owned x inside h.known.nodes.bound free);
      }

  more-rule-words : {w' : List ℕ} {n : ℕ} (x : Rule) → n ≡ length m.rules → n < room_rules → Sits text x.id
      → w' ≡ splice w (rules_at + n * rules_width) (rule_words x) → Words text (with_rules (m.rules ++ (x ∷ [])) m) w'
  unfolding word_blocks
  more-rule-words {n = n} x c r a e =
      record { exact = add-record (rule-words-lie h.known) h.exact x c (omega arith) e; known = known-rules h.known (m.rules ++ (x ∷ [])) (more h.known.rules x c r a) }

  more-clause-words : {w' : List ℕ} {n : ℕ} (x : Clause) → n ≡ length m.clauses → n < room_clauses
      → w' ≡ splice w (clauses_at + n * clauses_width) (clause_words x) → Words text (with_clauses (m.clauses ++ (x ∷ [])) m) w'
  unfolding word_blocks
  more-clause-words {n = n} x c r e = record {
    exact = add-record (clause-words-lie h.known) h.exact x c (omega arith) e;
    known = known-clauses h.known (m.clauses ++ (x ∷ [])) (more h.known.clauses x c r tt);
  }

  many-multiplier-words : {w' : List ℕ} {n : ℕ} (xs : List Multiplier) → n ≡ length m.multipliers → n + length xs ≤ room_multipliers
      → w' ≡ splice w (multipliers_at + n) (flat multiplier_words xs) → Words text (with_multipliers (m.multipliers ++ xs) m) w'
  unfolding word_blocks
  many-multiplier-words {n = n} xs c r e =
      record {
        exact = add-records (multiplier-words-lie h.known) h.exact xs c (omega arith) (rw mul-one e);
        known = known-multipliers h.known (m.multipliers ++ xs) (many h.known.multipliers xs c r (each-any xs));
      }

  many-clause-words : {w' : List ℕ} {n : ℕ} (xs : List Clause) → n ≡ length m.clauses → n + length xs ≤ room_clauses
      → w' ≡ splice w (clauses_at + n * clauses_width) (flat clause_words xs) → Words text (with_clauses (m.clauses ++ xs) m) w'
  unfolding word_blocks
  many-clause-words {n = n} xs c r e = record {
    exact = add-records (clause-words-lie h.known) h.exact xs c (omega arith) e;
    known = known-clauses h.known (m.clauses ++ xs) (many h.known.clauses xs c r (each-any xs));
  }

  -- node i becomes x, which differs from it in `part`; or is encoded alike
  -- a changed record has the slot that it had
  kept-node-slots : (b : List ℕ) (i : ℕ) (x0 x : Node) → node_slot x ≡ node_slot (get_or m.nodes i x0)
      → blocks (set (word_blocks m) 0 b) ≡ blocks (set (set (word_blocks m) 0 b) 10 (slots node_slot node_slots_long (set m.nodes i x)))
  unfolding word_blocks
  kept-node-slots b i x0 x s = ap (λ (l : List ℕ). blocks (set (set (word_blocks m) 0 b) 10 l)) (slots_same node_slot node_slots_long m.nodes i x0 x s)

  kept-demand-slots : (b : List ℕ) (i : ℕ) (x0 x : Demand) → demand_slot x ≡ demand_slot (get_or m.demands i x0)
      → blocks (set (word_blocks m) 6 b) ≡ blocks (set (set (word_blocks m) 6 b) 14 (slots demand_slot demand_slots_long (set m.demands i x)))
  unfolding word_blocks
  kept-demand-slots b i x0 x s = ap (λ (l : List ℕ). blocks (set (set (word_blocks m) 6 b) 14 l)) (slots_same demand_slot demand_slots_long m.demands i x0 x s)

  part-node-words : {w' : List ℕ} (i off : ℕ) (part : List ℕ) (x0 x : Node) → i < length m.nodes → off + length part ≤ nodes_width → NodeFine text x
      → node_slot x ≡ node_slot (get_or m.nodes i x0) → node_words x ≡ splice (node_words (get_or m.nodes i x0)) off part
      → w' ≡ splice w (nodes_at + i * nodes_width + off) part → Words text (with_nodes (set m.nodes i x) m) w'
  unfolding word_blocks
  part-node-words i off part x0 x hi hp a s q e =
      record {
        exact = change-part (node-words-lie h.known) h.exact i off part x0 x hi hp q e
            ∙ kept-node-slots (region node_words 0 nodes_long (set m.nodes i x)) i x0 x s;
        known = known-nodes h.known (set m.nodes i x) (other h.known.nodes i x a) (omega (arith, length-set m.nodes i x));
      }

  alike-node-words : (i : ℕ) (x0 x : Node) → NodeFine text x → node_slot x ≡ node_slot (get_or m.nodes i x0) → node_words x ≡ node_words (get_or m.nodes i x0)
      → Words text (with_nodes (set m.nodes i x) m) w
  unfolding word_blocks
  alike-node-words i x0 x a s q = record {
    exact =
        keep-record (node-words-lie h.known) h.exact i x0 x q refl ∙ kept-node-slots (region node_words 0 nodes_long (set m.nodes i x)) i x0 x s;
    known = known-nodes h.known (set m.nodes i x) (other h.known.nodes i x a) (omega (arith, length-set m.nodes i x));
  }

  -- demand i becomes x, which differs from it in `part`; or is encoded alike
  part-demand-words : {w' : List ℕ} (i off : ℕ) (part : List ℕ) (x0 x : Demand) → i < length m.demands → off + length part ≤ demands_width
      → SitsOr text x.pattern → demand_slot x ≡ demand_slot (get_or m.demands i no_demand) → (x.own ≡ true → (get_or m.demands i no_demand).own ≡ true)
      → demand_words x ≡ splice (demand_words (get_or m.demands i x0)) off part
      → w' ≡ splice w (demands_at + i * demands_width + off) part → Words text (with_demands (set m.demands i x) m) w'
  unfolding word_blocks
  part-demand-words i off part x0 x hi hp a s was q e =
      record {
        exact = change-part (demand-words-lie h.known) h.exact i off part x0 x hi hp q e
            ∙ kept-demand-slots (region demand_words 0 demands_long (set m.demands i x)) i no_demand x s;
        known = known-demands h.known (set m.demands i x) (other h.known.demands i x a) (owned-set h.known.owned i x s was);
      }

  other-demand-words : {w' : List ℕ} (i : ℕ) (x0 x : Demand) → i < length m.demands → SitsOr text x.pattern
      → demand_slot x ≡ demand_slot (get_or m.demands i no_demand) → (x.own ≡ true → (get_or m.demands i no_demand).own ≡ true)
      → w' ≡ splice w (demands_at + i * demands_width) (demand_words x) → Words text (with_demands (set m.demands i x) m) w'
  unfolding word_blocks
  other-demand-words i x0 x hi a s was e =
      record {
        exact = change-record (demand-words-lie h.known) h.exact i x0 x hi e
            ∙ kept-demand-slots (region demand_words 0 demands_long (set m.demands i x)) i no_demand x s;
        known = known-demands h.known (set m.demands i x) (other h.known.demands i x a) (owned-set h.known.owned i x s was);
      }

  other-time-words : {w' : List ℕ} (i : ℕ) (x : Option ℕ) → i < 6 → w' ≡ splice w (times_at + i * times_width) (count_words x) → Words text (with_times (set m.times i x) m) w'
  unfolding word_blocks
  other-time-words i x hi e = record {
    exact = change-record (time-words-lie h.known) h.exact i None x (omega (arith, h.known.times)) e;
    known = known-times h.known (set m.times i x) (length-set m.times i x ∙ h.known.times);
  }

-- ---- the numbers
module _ {text : List ℕ} {m : Network} {f : List Float} (k : Known text m) (h : Numbers m f) where
  more-node-numbers : {f' : List Float} {n : ℕ} (x : Node) → n ≡ length m.nodes → n < room_nodes
      → f' ≡ splice f (node_numbers_at + n * node_numbers_width) (node_numbers x) → Numbers (with_nodes (m.nodes ++ (x ∷ [])) m) f'
  unfolding number_blocks
  more-node-numbers {n = n} x c r e = record { exact = add-record (node-numbers-lie k) h.exact x c (omega arith) e }

  more-link-numbers : {f' : List Float} {n : ℕ} (x : Link) → n ≡ length m.links → n < room_links
      → f' ≡ splice f (link_numbers_at + n * link_numbers_width) (link_numbers x) → Numbers (with_links (m.links ++ (x ∷ [])) m) f'
  unfolding number_blocks
  more-link-numbers {n = n} x c r e = record { exact = add-record (link-numbers-lie k) h.exact x c (omega arith) e }

  more-point-numbers : {f' : List Float} {n : ℕ} (x : Point) → n ≡ length m.points → n < room_points
      → f' ≡ splice f (point_numbers_at + n * point_numbers_width) (point_numbers x) → Numbers (with_points (m.points ++ (x ∷ [])) m) f'
  unfolding number_blocks
  more-point-numbers {n = n} x c r e = record { exact = add-record (point-numbers-lie k) h.exact x c (omega arith) e }

  more-multiplier-numbers : {f' : List Float} {n : ℕ} (x : Multiplier) → n ≡ length m.multipliers → n < room_multipliers
      → f' ≡ splice f (multiplier_numbers_at + n) (multiplier_numbers x) → Numbers (with_multipliers (m.multipliers ++ (x ∷ [])) m) f'
  unfolding number_blocks
  more-multiplier-numbers {n = n} x c r e = record { exact = add-record (multiplier-numbers-lie k) h.exact x c (omega arith) (rw mul-one e) }

  more-demand-numbers : {f' : List Float} {n : ℕ} (x : Demand) → n ≡ length m.demands → n < room_demands
      → f' ≡ splice f (demand_numbers_at + n) (demand_numbers x) → Numbers (with_demands (m.demands ++ (x ∷ [])) m) f'
  unfolding number_blocks
  more-demand-numbers {n = n} x c r e = record { exact = add-record (demand-numbers-lie k) h.exact x c (omega arith) (rw mul-one e) }

  more-clause-numbers : {f' : List Float} {n : ℕ} (x : Clause) → n ≡ length m.clauses → n < room_clauses
      → f' ≡ splice f (clause_numbers_at + n) (clause_numbers x) → Numbers (with_clauses (m.clauses ++ (x ∷ [])) m) f'
  unfolding number_blocks
  more-clause-numbers {n = n} x c r e = record { exact = add-record (clause-numbers-lie k) h.exact x c (omega arith) (rw mul-one e) }

  many-multiplier-numbers : {f' : List Float} {n : ℕ} (xs : List Multiplier) → n ≡ length m.multipliers → n + length xs ≤ room_multipliers
      → f' ≡ splice f (multiplier_numbers_at + n) (flat multiplier_numbers xs) → Numbers (with_multipliers (m.multipliers ++ xs) m) f'
  unfolding number_blocks
  many-multiplier-numbers {n = n} xs c r e = record { exact = add-records (multiplier-numbers-lie k) h.exact xs c (omega arith) (rw mul-one e) }

  many-clause-numbers : {f' : List Float} {n : ℕ} (xs : List Clause) → n ≡ length m.clauses → n + length xs ≤ room_clauses
      → f' ≡ splice f (clause_numbers_at + n) (flat clause_numbers xs) → Numbers (with_clauses (m.clauses ++ xs) m) f'
  unfolding number_blocks
  many-clause-numbers {n = n} xs c r e = record { exact = add-records (clause-numbers-lie k) h.exact xs c (omega arith) (rw mul-one e) }

  part-node-numbers : {f' : List Float} (i off : ℕ) (part : List Float) (x0 x : Node) → i < length m.nodes → off + length part ≤ node_numbers_width
      → node_numbers x ≡ splice (node_numbers (get_or m.nodes i x0)) off part
      → f' ≡ splice f (node_numbers_at + i * node_numbers_width + off) part → Numbers (with_nodes (set m.nodes i x) m) f'
  unfolding number_blocks
  part-node-numbers i off part x0 x hi hp q e = record { exact = change-part (node-numbers-lie k) h.exact i off part x0 x hi hp q e }

  other-demand-numbers : {f' : List Float} (i : ℕ) (x0 x : Demand) → i < length m.demands → f' ≡ splice f (demand_numbers_at + i) (demand_numbers x) → Numbers (with_demands (set m.demands i x) m) f'
  unfolding number_blocks
  other-demand-numbers i x0 x hi e = record { exact = change-record (demand-numbers-lie k) h.exact i x0 x hi (rw mul-one e) }

  alike-node-numbers : (i : ℕ) (x0 x : Node) → node_numbers x ≡ node_numbers (get_or m.nodes i x0) → Numbers (with_nodes (set m.nodes i x) m) f
  unfolding number_blocks
  alike-node-numbers i x0 x q = record { exact = keep-record (node-numbers-lie k) h.exact i x0 x q refl }

  alike-demand-numbers : (i : ℕ) (x0 x : Demand) → demand_numbers x ≡ demand_numbers (get_or m.demands i x0) → Numbers (with_demands (set m.demands i x) m) f
  unfolding number_blocks
  alike-demand-numbers i x0 x q = record { exact = keep-record (demand-numbers-lie k) h.exact i x0 x q refl }

-- curves, patterns, times and rules have no numbers
module _ {m : Network} {f : List Float} (h : Numbers m f) where
  curves-apart : (xs : List Name) → Numbers (with_curves xs m) f
  unfolding number_blocks
  curves-apart xs = record { exact = h.exact }

  patterns-apart : (xs : List Name) → Numbers (with_patterns xs m) f
  unfolding number_blocks
  patterns-apart xs = record { exact = h.exact }

  times-apart : (xs : List (Option ℕ)) → Numbers (with_times xs m) f
  unfolding number_blocks
  times-apart xs = record { exact = h.exact }

  rules-apart : (xs : List Rule) → Numbers (with_rules xs m) f
  unfolding number_blocks
  rules-apart xs = record { exact = h.exact }

-- the words and the numbers of a pattern's multipliers
value-words : (i : ℕ) (xs : List Float) → flat multiplier_words (map (multiplier_of i) xs) ≡ replicate (length xs) i
unfolding flat
value-words i [] = refl
value-words i (x ∷ xs) = ap (λ (l : List ℕ). i ∷ l) (value-words i xs)

value-numbers : (i : ℕ) (xs : List Float) → flat multiplier_numbers (map (multiplier_of i) xs) ≡ xs
unfolding flat
value-numbers i [] = refl
value-numbers i (x ∷ xs) = ap (λ (l : List Float). x ∷ l) (value-numbers i xs)

-- ---- both tables
module _ {text : List ℕ} {m : Network} {s : Counts} {w : List ℕ} {f : List Float} (h : Holds text m s w f) where
  pub add-node : {w' : List ℕ} {f' : List Float} {n : ℕ} (x : Node) → n ≡ length m.nodes → n < room_nodes → NodeFine text x
      → w' ≡ node_added w n x → f' ≡ splice f (node_numbers_at + n * node_numbers_width) (node_numbers x)
      → Holds text (with_nodes (m.nodes ++ (x ∷ [])) m) (counts_of (with_nodes (m.nodes ++ (x ∷ [])) m)) w' f'
  add-node x c r a ew ef = record { counts = refl; words = more-node-words h.words x c r a ew; numbers = more-node-numbers h.words.known h.numbers x c r ef }

  pub add-link : {w' : List ℕ} {f' : List Float} {n : ℕ} (x : Link) → n ≡ length m.links → n < room_links → Sits text x.id
      → w' ≡ link_added w n x → f' ≡ splice f (link_numbers_at + n * link_numbers_width) (link_numbers x)
      → Holds text (with_links (m.links ++ (x ∷ [])) m) (counts_of (with_links (m.links ++ (x ∷ [])) m)) w' f'
  add-link x c r a ew ef = record { counts = refl; words = more-link-words h.words x c r a ew; numbers = more-link-numbers h.words.known h.numbers x c r ef }

  pub add-curve : {w' : List ℕ} {n : ℕ} (x : Name) → n ≡ length m.curves → n < room_curves → Sits text x → w' ≡ curve_added w n x
      → Holds text (with_curves (m.curves ++ (x ∷ [])) m) (counts_of (with_curves (m.curves ++ (x ∷ [])) m)) w' f
  add-curve x c r a ew = record { counts = refl; words = more-curve-words h.words x c r a ew; numbers = curves-apart h.numbers (m.curves ++ (x ∷ [])) }

  pub add-point : {w' : List ℕ} {f' : List Float} {n : ℕ} (x : Point) → n ≡ length m.points → n < room_points
      → w' ≡ splice w (points_at + n) (point_words x) → f' ≡ splice f (point_numbers_at + n * point_numbers_width) (point_numbers x)
      → Holds text (with_points (m.points ++ (x ∷ [])) m) (counts_of (with_points (m.points ++ (x ∷ [])) m)) w' f'
  add-point x c r ew ef = record { counts = refl; words = more-point-words h.words x c r ew; numbers = more-point-numbers h.words.known h.numbers x c r ef }

  pub add-pattern : {w' : List ℕ} {n : ℕ} (x : Name) → n ≡ length m.patterns → n < room_patterns → Sits text x → w' ≡ pattern_added w n x
      → Holds text (with_patterns (m.patterns ++ (x ∷ [])) m) (counts_of (with_patterns (m.patterns ++ (x ∷ [])) m)) w' f
  add-pattern x c r a ew = record { counts = refl; words = more-pattern-words h.words x c r a ew; numbers = patterns-apart h.numbers (m.patterns ++ (x ∷ [])) }

  pub add-multiplier : {w' : List ℕ} {f' : List Float} {n : ℕ} (x : Multiplier) → n ≡ length m.multipliers → n < room_multipliers
      → w' ≡ splice w (multipliers_at + n) (multiplier_words x) → f' ≡ splice f (multiplier_numbers_at + n) (multiplier_numbers x)
      → Holds text (with_multipliers (m.multipliers ++ (x ∷ [])) m) (counts_of (with_multipliers (m.multipliers ++ (x ∷ [])) m)) w' f'
  add-multiplier x c r ew ef = record { counts = refl; words = more-multiplier-words h.words x c r ew; numbers = more-multiplier-numbers h.words.known h.numbers x c r ef }

  pub add-demand : {w' : List ℕ} {f' : List Float} {n : ℕ} (x : Demand) → n ≡ length m.demands → n < room_demands → SitsOr text x.pattern → x.node < length m.nodes
      → (x.own ≡ true → get_or (slots demand_slot demand_slots_long m.demands) (demand_slot x) 0 ≡ 0) → w' ≡ demand_added w n x
      → f' ≡ splice f (demand_numbers_at + n) (demand_numbers x) → Holds text (with_demands (m.demands ++ (x ∷ [])) m) (counts_of (with_demands (m.demands ++ (x ∷ [])) m)) w' f'
  add-demand x c r a inside free ew ef = record { counts = refl; words = more-demand-words h.words x c r a inside free ew; numbers = more-demand-numbers h.words.known h.numbers x c r ef }

  pub add-rule : {w' : List ℕ} {n : ℕ} (x : Rule) → n ≡ length m.rules → n < room_rules → Sits text x.id
      → w' ≡ splice w (rules_at + n * rules_width) (rule_words x) → Holds text (with_rules (m.rules ++ (x ∷ [])) m) (counts_of (with_rules (m.rules ++ (x ∷ [])) m)) w' f
  add-rule x c r a ew = record { counts = refl; words = more-rule-words h.words x c r a ew; numbers = rules-apart h.numbers (m.rules ++ (x ∷ [])) }

  pub add-clause : {w' : List ℕ} {f' : List Float} {n : ℕ} (x : Clause) → n ≡ length m.clauses → n < room_clauses
      → w' ≡ splice w (clauses_at + n * clauses_width) (clause_words x) → f' ≡ splice f (clause_numbers_at + n) (clause_numbers x)
      → Holds text (with_clauses (m.clauses ++ (x ∷ [])) m) (counts_of (with_clauses (m.clauses ++ (x ∷ [])) m)) w' f'
  add-clause x c r ew ef = record { counts = refl; words = more-clause-words h.words x c r ew; numbers = more-clause-numbers h.words.known h.numbers x c r ef }

  -- many at once
  pub add-clauses : {w' : List ℕ} {f' : List Float} {n : ℕ} (xs : List Clause) → n ≡ length m.clauses → n + length xs ≤ room_clauses
      → w' ≡ splice w (clauses_at + n * clauses_width) (flat clause_words xs) → f' ≡ splice f (clause_numbers_at + n) (flat clause_numbers xs)
      → Holds text (with_clauses (m.clauses ++ xs) m) (counts_of (with_clauses (m.clauses ++ xs) m)) w' f'
  add-clauses xs c r ew ef = record { counts = refl; words = many-clause-words h.words xs c r ew; numbers = many-clause-numbers h.words.known h.numbers xs c r ef }

  pub add-multipliers : {w' : List ℕ} {f' : List Float} {n : ℕ} (i : ℕ) (xs : List Float) → n ≡ length m.multipliers → n + length xs ≤ room_multipliers
      → w' ≡ splice w (multipliers_at + n) (replicate (length xs) i) → f' ≡ splice f (multiplier_numbers_at + n) xs
      → Holds text (with_multipliers (m.multipliers ++ map (multiplier_of i) xs) m) (counts_of (with_multipliers (m.multipliers ++ map (multiplier_of i) xs) m)) w' f'
  add-multipliers {n = n} i xs c r ew ef =
      let qs : List Multiplier = map (multiplier_of i) xs in
      let q : length qs ≡ length xs = length-map xs (multiplier_of i) in
      let room : n + length qs ≤ room_multipliers = omega arith in
      record {
        counts = refl;
        words = many-multiplier-words h.words qs c room (ew ∙ ap (λ (l : List ℕ). splice w (multipliers_at + n) l) (sym (value-words i xs)));
        numbers = many-multiplier-numbers h.words.known h.numbers qs c room (ef ∙ ap (λ (l : List Float). splice f (multiplier_numbers_at + n) l) (sym (value-numbers i xs)));
      }

  -- a node changed in some words and some numbers, in some numbers alone, in some words alone
  pub change-node : {w' : List ℕ} {f' : List Float} (i : ℕ) (x0 x : Node) (off : ℕ) (part : List ℕ) (offN : ℕ) (partN : List Float) → i < length m.nodes
      → NodeFine text x → node_slot x ≡ node_slot (get_or m.nodes i x0)
      → off + length part ≤ nodes_width → node_words x ≡ splice (node_words (get_or m.nodes i x0)) off part
      → offN + length partN ≤ node_numbers_width → node_numbers x ≡ splice (node_numbers (get_or m.nodes i x0)) offN partN
      → w' ≡ splice w (nodes_at + i * nodes_width + off) part → f' ≡ splice f (node_numbers_at + i * node_numbers_width + offN) partN
      → Holds text (with_nodes (set m.nodes i x) m) (counts_of (with_nodes (set m.nodes i x) m)) w' f'
  change-node i x0 x off part offN partN hi a s hp q hN qN ew ef =
      record { counts = refl; words = part-node-words h.words i off part x0 x hi hp a s q ew; numbers = part-node-numbers h.words.known h.numbers i offN partN x0 x hi hN qN ef }

  pub change-node-numbers : {f' : List Float} (i : ℕ) (x0 x : Node) (off : ℕ) (part : List Float) → i < length m.nodes → NodeFine text x
      → node_slot x ≡ node_slot (get_or m.nodes i x0) → node_words x ≡ node_words (get_or m.nodes i x0)
      → off + length part ≤ node_numbers_width → node_numbers x ≡ splice (node_numbers (get_or m.nodes i x0)) off part → f' ≡ splice f (node_numbers_at + i * node_numbers_width + off) part
      → Holds text (with_nodes (set m.nodes i x) m) (counts_of (with_nodes (set m.nodes i x) m)) w f'
  change-node-numbers i x0 x off part hi a s q hN qN ef =
      record { counts = refl; words = alike-node-words h.words i x0 x a s q; numbers = part-node-numbers h.words.known h.numbers i off part x0 x hi hN qN ef }

  pub change-node-words : {w' : List ℕ} (i : ℕ) (x0 x : Node) (off : ℕ) (part : List ℕ) → i < length m.nodes → NodeFine text x → node_slot x ≡ node_slot (get_or m.nodes i x0)
      → off + length part ≤ nodes_width → node_words x ≡ splice (node_words (get_or m.nodes i x0)) off part → node_numbers x ≡ node_numbers (get_or m.nodes i x0)
      → w' ≡ splice w (nodes_at + i * nodes_width + off) part → Holds text (with_nodes (set m.nodes i x) m) (counts_of (with_nodes (set m.nodes i x) m)) w' f
  change-node-words i x0 x off part hi a s hp q qN ew =
      record { counts = refl; words = part-node-words h.words i off part x0 x hi hp a s q ew; numbers = alike-node-numbers h.words.known h.numbers i x0 x qN }

  -- a demand overwritten, and one changed in some words alone
  pub change-demand : {w' : List ℕ} {f' : List Float} (i : ℕ) (x0 x : Demand) → i < length m.demands → SitsOr text x.pattern
      → demand_slot x ≡ demand_slot (get_or m.demands i no_demand) → (x.own ≡ true → (get_or m.demands i no_demand).own ≡ true)
      → w' ≡ splice w (demands_at + i * demands_width) (demand_words x) → f' ≡ splice f (demand_numbers_at + i) (demand_numbers x)
      → Holds text (with_demands (set m.demands i x) m) (counts_of (with_demands (set m.demands i x) m)) w' f'
  change-demand i x0 x hi a s was ew ef =
      record { counts = refl; words = other-demand-words h.words i x0 x hi a s was ew; numbers = other-demand-numbers h.words.known h.numbers i x0 x hi ef }

  pub change-demand-words : {w' : List ℕ} (i : ℕ) (x0 x : Demand) (off : ℕ) (part : List ℕ) → i < length m.demands → SitsOr text x.pattern
      → demand_slot x ≡ demand_slot (get_or m.demands i no_demand) → (x.own ≡ true → (get_or m.demands i no_demand).own ≡ true)
      → off + length part ≤ demands_width → demand_words x ≡ splice (demand_words (get_or m.demands i x0)) off part → demand_numbers x ≡ demand_numbers (get_or m.demands i x0)
      → w' ≡ splice w (demands_at + i * demands_width + off) part → Holds text (with_demands (set m.demands i x) m) (counts_of (with_demands (set m.demands i x) m)) w' f
  change-demand-words i x0 x off part hi a s was hp q qN ew =
      record { counts = refl; words = part-demand-words h.words i off part x0 x hi hp a s was q ew; numbers = alike-demand-numbers h.words.known h.numbers i x0 x qN }

  -- a time overwritten
  pub set-time : {w' : List ℕ} (i : ℕ) (x : Option ℕ) → i < 6 → w' ≡ splice w (times_at + i * times_width) (count_words x)
      → Holds text (with_times (set m.times i x) m) (counts_of (with_times (set m.times i x) m)) w' f
  set-time i x hi ew = record { counts = refl; words = other-time-words h.words i x hi ew; numbers = times-apart h.numbers (set m.times i x) }

-- a record in the place of another changes no count
pub same-count-nodes : (m : Network) (i : ℕ) (x : Node) → counts_of (with_nodes (set m.nodes i x) m) ≡ counts_of m
same-count-nodes m i x = rw (length-set m.nodes i x)

pub same-count-demands : (m : Network) (i : ℕ) (x : Demand) → counts_of (with_demands (set m.demands i x) m) ≡ counts_of m
same-count-demands m i x = rw (length-set m.demands i x)

-- ---- the counts and the bounds
module _ {text : List ℕ} {m : Network} {s : Counts} {w : List ℕ} {f : List Float} (h : Holds text m s w f) where
  pub count-nodes : s.nodes ≡ length m.nodes
  count-nodes = ap (λ (c : Counts). c.nodes) h.counts

  pub bound-nodes : s.nodes ≤ room_nodes
  bound-nodes = omega (arith, count-nodes, h.words.known.nodes.bound)

  pub count-links : s.links ≡ length m.links
  count-links = ap (λ (c : Counts). c.links) h.counts

  pub bound-links : s.links ≤ room_links
  bound-links = omega (arith, count-links, h.words.known.links.bound)

  pub count-curves : s.curves ≡ length m.curves
  count-curves = ap (λ (c : Counts). c.curves) h.counts

  pub bound-curves : s.curves ≤ room_curves
  bound-curves = omega (arith, count-curves, h.words.known.curves.bound)

  pub count-points : s.points ≡ length m.points
  count-points = ap (λ (c : Counts). c.points) h.counts

  pub bound-points : s.points ≤ room_points
  bound-points = omega (arith, count-points, h.words.known.points.bound)

  pub count-patterns : s.patterns ≡ length m.patterns
  count-patterns = ap (λ (c : Counts). c.patterns) h.counts

  pub bound-patterns : s.patterns ≤ room_patterns
  bound-patterns = omega (arith, count-patterns, h.words.known.patterns.bound)

  pub count-multipliers : s.multipliers ≡ length m.multipliers
  count-multipliers = ap (λ (c : Counts). c.multipliers) h.counts

  pub bound-multipliers : s.multipliers ≤ room_multipliers
  bound-multipliers = omega (arith, count-multipliers, h.words.known.multipliers.bound)

  pub count-demands : s.demands ≡ length m.demands
  count-demands = ap (λ (c : Counts). c.demands) h.counts

  pub bound-demands : s.demands ≤ room_demands
  bound-demands = omega (arith, count-demands, h.words.known.demands.bound)

  pub count-rules : s.rules ≡ length m.rules
  count-rules = ap (λ (c : Counts). c.rules) h.counts

  pub bound-rules : s.rules ≤ room_rules
  bound-rules = omega (arith, count-rules, h.words.known.rules.bound)

  pub count-clauses : s.clauses ≡ length m.clauses
  count-clauses = ap (λ (c : Counts). c.clauses) h.counts

  pub bound-clauses : s.clauses ≤ room_clauses
  bound-clauses = omega (arith, count-clauses, h.words.known.clauses.bound)
