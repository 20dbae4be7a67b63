-- How many places each region takes; so each lies where the layout says. Assumes nothing.
use Prim.Native.Nat.{ℕ}
use native.Mathlib.Omega.{arith}
use mathlib.Core.Path.{◌≡◌, refl}
use mathlib.Core.List.{List, [], ◌∷◌, map}
use lib.ListN.{length}
use Rattle.scope.specs.Records.{Network, zero_f}
use Rattle.scope.specs.Tables.{id_words, count_words, node_words, node_numbers, link_words, link_numbers, point_words, point_numbers, multiplier_words}
use Rattle.scope.specs.Tables.{multiplier_numbers, demand_words, demand_numbers, rule_words, clause_words, clause_numbers, id_slot, node_slot, link_slot, demand_slot}
use Rattle.scope.specs.Tables.{word_blocks, number_blocks}
use Rattle.scope.specs.Layout.{points_width, multipliers_width, multiplier_numbers_width, demand_numbers_width, clause_numbers_width, nodes_long, links_long, curves_long}
use Rattle.scope.specs.Layout.{points_long, patterns_long, multipliers_long, demands_long, times_long, rules_long, clauses_long, node_slots_long, link_slots_long}
use Rattle.scope.specs.Layout.{curve_slots_long, pattern_slots_long, demand_slots_long, node_numbers_long, link_numbers_long, point_numbers_long, multiplier_numbers_long}
use Rattle.scope.specs.Layout.{demand_numbers_long, clause_numbers_long, nodes_at, links_at, curves_at, points_at, patterns_at, multipliers_at, demands_at, times_at}
use Rattle.scope.specs.Layout.{rules_at, clauses_at, node_slots_at, link_slots_at, curve_slots_at, pattern_slots_at, demand_slots_at, nodes_width, links_width, demands_width}
use Rattle.scope.specs.Layout.{times_width, rules_width, clauses_width, node_numbers_at, link_numbers_at, point_numbers_at, multiplier_numbers_at, demand_numbers_at}
use Rattle.scope.specs.Layout.{clause_numbers_at, node_numbers_width, link_numbers_width, point_numbers_width, curves_width, patterns_width}
use Rattle.scope.proofs.Widths.{count_long, node-long, node-numbers-long, link-long, link-numbers-long, demand-long, rule-long, clause-long, clause-numbers-long}
use Rattle.table_rows.specs.Holding.{Known}
use Rattle.table_rows.proofs.RegionLaws.{region-length}
use Rattle.table_rows.proofs.SlotLaws.{slots-long}
use Rattle.table_rows.proofs.BlockLaws.{Lies, Slotted}

-- ---- regions
abbrev pub word_sizes : List ℕ
word_sizes = nodes_long ∷ links_long ∷ curves_long ∷ points_long ∷ patterns_long ∷ multipliers_long ∷ demands_long ∷ times_long ∷ rules_long ∷ clauses_long ∷ node_slots_long
    ∷ link_slots_long ∷ curve_slots_long ∷ pattern_slots_long ∷ demand_slots_long ∷ []

abbrev pub number_sizes : List ℕ
number_sizes = node_numbers_long ∷ link_numbers_long ∷ point_numbers_long ∷ multiplier_numbers_long ∷ demand_numbers_long ∷ clause_numbers_long ∷ []

module _ {text : List ℕ} {m : Network} (k : Known text m) where
  pub word-sizes : map length (word_blocks m) ≡ word_sizes
  unfolding word_blocks
  word-sizes =
      rw (
        region-length node_words 0 nodes_width nodes_long node-long m.nodes (omega (arith, k.nodes.bound)),
        region-length link_words 0 links_width links_long link-long m.links (omega (arith, k.links.bound)),
        region-length id_words 0 curves_width curves_long (λ r. refl) m.curves (omega (arith, k.curves.bound)),
        region-length point_words 0 points_width points_long (λ r. refl) m.points (omega (arith, k.points.bound)),
        region-length id_words 0 patterns_width patterns_long (λ r. refl) m.patterns (omega (arith, k.patterns.bound)),
        region-length multiplier_words 0 multipliers_width multipliers_long (λ r. refl) m.multipliers (omega (arith, k.multipliers.bound)),
        region-length demand_words 0 demands_width demands_long demand-long m.demands (omega (arith, k.demands.bound)),
        region-length count_words 0 times_width times_long count_long m.times (omega (arith, k.times)),
        region-length rule_words 0 rules_width rules_long rule-long m.rules (omega (arith, k.rules.bound)),
        region-length clause_words 0 clauses_width clauses_long clause-long m.clauses (omega (arith, k.clauses.bound)),
        slots-long node_slot node_slots_long m.nodes,
        slots-long link_slot link_slots_long m.links,
        slots-long id_slot curve_slots_long m.curves,
        slots-long id_slot pattern_slots_long m.patterns,
        slots-long demand_slot demand_slots_long m.demands,
      )

  pub number-sizes : map length (number_blocks m) ≡ number_sizes
  unfolding number_blocks
  number-sizes =
      rw (
        region-length node_numbers zero_f node_numbers_width node_numbers_long node-numbers-long m.nodes (omega (arith, k.nodes.bound)),
        region-length link_numbers zero_f link_numbers_width link_numbers_long link-numbers-long m.links (omega (arith, k.links.bound)),
        region-length point_numbers zero_f point_numbers_width point_numbers_long (λ r. refl) m.points (omega (arith, k.points.bound)),
        region-length multiplier_numbers zero_f multiplier_numbers_width multiplier_numbers_long (λ r. refl) m.multipliers (omega (arith, k.multipliers.bound)),
        region-length demand_numbers zero_f demand_numbers_width demand_numbers_long (λ r. refl) m.demands (omega (arith, k.demands.bound)),
        region-length clause_numbers zero_f clause_numbers_width clause_numbers_long clause-numbers-long m.clauses (omega (arith, k.clauses.bound)),
      )

  pub node-words-lie : Lies node_words 0 (word_blocks m) 0 nodes_long nodes_at nodes_width m.nodes
  unfolding word_blocks
  node-words-lie = record { sizes = word_sizes; sized = word-sizes; start = refl; block = omega arith; same_size = node-long; is = refl; fit = omega (arith, k.nodes.bound) }

  pub link-words-lie : Lies link_words 0 (word_blocks m) 1 links_long links_at links_width m.links
  unfolding word_blocks
  link-words-lie = record { sizes = word_sizes; sized = word-sizes; start = refl; block = omega arith; same_size = link-long; is = refl; fit = omega (arith, k.links.bound) }

  pub curve-words-lie : Lies id_words 0 (word_blocks m) 2 curves_long curves_at curves_width m.curves
  unfolding word_blocks
  curve-words-lie = record { sizes = word_sizes; sized = word-sizes; start = refl; block = omega arith; same_size = λ r. refl; is = refl; fit = omega (arith, k.curves.bound) }

  pub point-words-lie : Lies point_words 0 (word_blocks m) 3 points_long points_at points_width m.points
  unfolding word_blocks
  point-words-lie = record { sizes = word_sizes; sized = word-sizes; start = refl; block = omega arith; same_size = λ r. refl; is = refl; fit = omega (arith, k.points.bound) }

  pub pattern-words-lie : Lies id_words 0 (word_blocks m) 4 patterns_long patterns_at patterns_width m.patterns
  unfolding word_blocks
  pattern-words-lie = record { sizes = word_sizes; sized = word-sizes; start = refl; block = omega arith; same_size = λ r. refl; is = refl; fit = omega (arith, k.patterns.bound) }

  pub multiplier-words-lie : Lies multiplier_words 0 (word_blocks m) 5 multipliers_long multipliers_at multipliers_width m.multipliers
  unfolding word_blocks
  multiplier-words-lie = record { sizes = word_sizes; sized = word-sizes; start = refl; block = omega arith; same_size = λ r. refl; is = refl; fit = omega (arith, k.multipliers.bound) }

  pub demand-words-lie : Lies demand_words 0 (word_blocks m) 6 demands_long demands_at demands_width m.demands
  unfolding word_blocks
  demand-words-lie = record { sizes = word_sizes; sized = word-sizes; start = refl; block = omega arith; same_size = demand-long; is = refl; fit = omega (arith, k.demands.bound) }

  pub time-words-lie : Lies count_words 0 (word_blocks m) 7 times_long times_at times_width m.times
  unfolding word_blocks
  time-words-lie = record { sizes = word_sizes; sized = word-sizes; start = refl; block = omega arith; same_size = count_long; is = refl; fit = omega (arith, k.times) }

  pub rule-words-lie : Lies rule_words 0 (word_blocks m) 8 rules_long rules_at rules_width m.rules
  unfolding word_blocks
  rule-words-lie = record { sizes = word_sizes; sized = word-sizes; start = refl; block = omega arith; same_size = rule-long; is = refl; fit = omega (arith, k.rules.bound) }

  pub clause-words-lie : Lies clause_words 0 (word_blocks m) 9 clauses_long clauses_at clauses_width m.clauses
  unfolding word_blocks
  clause-words-lie = record { sizes = word_sizes; sized = word-sizes; start = refl; block = omega arith; same_size = clause-long; is = refl; fit = omega (arith, k.clauses.bound) }

  pub node-slots-lie : Slotted node_slot (word_blocks m) 10 node_slots_long node_slots_at m.nodes
  unfolding word_blocks
  node-slots-lie = record { sizes = word_sizes; sized = word-sizes; start = refl; block = omega arith; is = refl }

  pub link-slots-lie : Slotted link_slot (word_blocks m) 11 link_slots_long link_slots_at m.links
  unfolding word_blocks
  link-slots-lie = record { sizes = word_sizes; sized = word-sizes; start = refl; block = omega arith; is = refl }

  pub curve-slots-lie : Slotted id_slot (word_blocks m) 12 curve_slots_long curve_slots_at m.curves
  unfolding word_blocks
  curve-slots-lie = record { sizes = word_sizes; sized = word-sizes; start = refl; block = omega arith; is = refl }

  pub pattern-slots-lie : Slotted id_slot (word_blocks m) 13 pattern_slots_long pattern_slots_at m.patterns
  unfolding word_blocks
  pattern-slots-lie = record { sizes = word_sizes; sized = word-sizes; start = refl; block = omega arith; is = refl }

  pub demand-slots-lie : Slotted demand_slot (word_blocks m) 14 demand_slots_long demand_slots_at m.demands
  unfolding word_blocks
  demand-slots-lie = record { sizes = word_sizes; sized = word-sizes; start = refl; block = omega arith; is = refl }

  pub node-numbers-lie : Lies node_numbers zero_f (number_blocks m) 0 node_numbers_long node_numbers_at node_numbers_width m.nodes
  unfolding number_blocks
  node-numbers-lie = record { sizes = number_sizes; sized = number-sizes; start = refl; block = omega arith; same_size = node-numbers-long; is = refl; fit = omega (arith, k.nodes.bound) }

  pub link-numbers-lie : Lies link_numbers zero_f (number_blocks m) 1 link_numbers_long link_numbers_at link_numbers_width m.links
  unfolding number_blocks
  link-numbers-lie = record { sizes = number_sizes; sized = number-sizes; start = refl; block = omega arith; same_size = link-numbers-long; is = refl; fit = omega (arith, k.links.bound) }

  pub point-numbers-lie : Lies point_numbers zero_f (number_blocks m) 2 point_numbers_long point_numbers_at point_numbers_width m.points
  unfolding number_blocks
  point-numbers-lie = record { sizes = number_sizes; sized = number-sizes; start = refl; block = omega arith; same_size = λ r. refl; is = refl; fit = omega (arith, k.points.bound) }

  pub multiplier-numbers-lie : Lies multiplier_numbers zero_f (number_blocks m) 3 multiplier_numbers_long multiplier_numbers_at multiplier_numbers_width m.multipliers
  unfolding number_blocks
  multiplier-numbers-lie = record { sizes = number_sizes; sized = number-sizes; start = refl; block = omega arith; same_size = λ r. refl; is = refl; fit = omega (arith, k.multipliers.bound) }

  pub demand-numbers-lie : Lies demand_numbers zero_f (number_blocks m) 4 demand_numbers_long demand_numbers_at demand_numbers_width m.demands
  unfolding number_blocks
  demand-numbers-lie = record { sizes = number_sizes; sized = number-sizes; start = refl; block = omega arith; same_size = λ r. refl; is = refl; fit = omega (arith, k.demands.bound) }

  pub clause-numbers-lie : Lies clause_numbers zero_f (number_blocks m) 5 clause_numbers_long clause_numbers_at clause_numbers_width m.clauses
  unfolding number_blocks
  clause-numbers-lie = record { sizes = number_sizes; sized = number-sizes; start = refl; block = omega arith; same_size = clause-numbers-long; is = refl; fit = omega (arith, k.clauses.bound) }
