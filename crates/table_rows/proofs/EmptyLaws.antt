-- Tables of zeros hold the network of no records; and how long the tables are. Assumes nothing.
use Rattle.std.specs.Prelude.{None}
use Prim.Native.Nat.{ℕ, ◌+◌}
use native.Mathlib.Omega.{arith}
use native.Mathlib.Nat.{sub-zero}
use mathlib.Core.Path.{◌≡◌, refl, sym, ap, ◌∙◌}
use mathlib.Core.List.{List, [], ◌∷◌, map}
use lib.ListN.{length, replicate, length-append, replicate-append-replicate}
use lib.Ieee.{Float}
use Rattle.scope.specs.Records.{Network, zero_f, no_network, counts_of}
use Rattle.scope.specs.Tables.{flat, region, blocks, id_words, count_words, node_words, node_numbers, link_words, link_numbers, point_words, point_numbers}
use Rattle.scope.specs.Tables.{multiplier_words, multiplier_numbers, demand_words, demand_numbers, rule_words, clause_words, clause_numbers, slots_from, slots, id_slot}
use Rattle.scope.specs.Tables.{node_slot, link_slot, demand_slot, word_blocks, number_blocks}
use Rattle.scope.specs.Layout.{nodes_long, links_long, curves_long, points_long, patterns_long, multipliers_long, demands_long, times_long, rules_long, clauses_long}
use Rattle.scope.specs.Layout.{node_slots_long, link_slots_long, curve_slots_long, pattern_slots_long, demand_slots_long, node_numbers_long, link_numbers_long}
use Rattle.scope.specs.Layout.{point_numbers_long, multiplier_numbers_long, demand_numbers_long, clause_numbers_long, record_words, room_numbers}
use Rattle.table_rows.specs.Holding.{Known, Words, Numbers, Holds}
use Rattle.table_rows.proofs.SlotLaws.{zero-at}
use Rattle.table_rows.proofs.BlockLaws.{sum}
use Rattle.table_rows.proofs.SizeLaws.{word_sizes, number_sizes, word-sizes, number-sizes}

-- ---- lengths
blocks-long : {A : Type 0} (bs : List (List A)) → length (blocks bs) ≡ sum (map length bs)
unfolding flat
blocks-long [] = refl
blocks-long (b ∷ bs) = length-append b (blocks bs) ∙ ap (λ (n : ℕ). length b + n) (blocks-long bs)

module _ {text : List ℕ} {m : Network} where
  pub words_long : {w : List ℕ} → Words text m w → length w ≡ record_words
  words_long h = ap length h.exact ∙ blocks-long (word_blocks m) ∙ ap sum (word-sizes h.known)

  pub numbers-long : {f : List Float} → Known text m → Numbers m f → length f ≡ room_numbers
  numbers-long k h = ap length h.exact ∙ blocks-long (number_blocks m) ∙ ap sum (number-sizes k)

-- ---- zeros
module _ {A : Type 0} (z : A) where
  none_in : {R : Type 0} (enc : R → List A) (n : ℕ) → region enc z n [] ≡ replicate n z
  unfolding region flat
  none_in enc n = rw sub-zero

  -- each block is as many zeros as the sizes say
  abbrev Zeros : List (List A) → List ℕ → Type 0
  Zeros [] [] = Unit
  Zeros [] (n ∷ ns) = ⊥
  Zeros (b ∷ bs) [] = ⊥
  Zeros (b ∷ bs) (n ∷ ns) = (b ≡ replicate n z) × Zeros bs ns

  all-zeros : (bs : List (List A)) (ns : List ℕ) → Zeros bs ns → blocks bs ≡ replicate (sum ns) z
  unfolding flat
  all-zeros [] [] h = refl
  all-zeros [] (n ∷ ns) h = absurd h
  all-zeros (b ∷ bs) [] h = absurd h
  all-zeros (b ∷ bs) (n ∷ ns) h = rw (h.0, all-zeros bs ns h.1) (replicate-append-replicate n (sum ns) z)

times_none : region count_words 0 times_long (replicate 6 None) ≡ replicate times_long 0
unfolding region flat
times_none = refl

none-slotted : {R : Type 0} (slot : R → ℕ) (n : ℕ) → slots slot n [] ≡ replicate n 0
unfolding slots_from
none-slotted slot n = refl

empty-words : blocks (word_blocks no_network) ≡ replicate record_words 0
unfolding word_blocks
empty-words =
    all-zeros 0 (word_blocks no_network) word_sizes (
      none_in 0 node_words nodes_long,
      (
        none_in 0 link_words links_long,
        (
          none_in 0 id_words curves_long,
          (
            none_in 0 point_words points_long,
            (
              none_in 0 id_words patterns_long,
              (
                none_in 0 multiplier_words multipliers_long,
                (
                  none_in 0 demand_words demands_long,
                  (
                    times_none,
                    (
                      none_in 0 rule_words rules_long,
                      (
                        none_in 0 clause_words clauses_long,
                        (
                          none-slotted node_slot node_slots_long,
                          (
                            none-slotted link_slot link_slots_long,
                            (
                              none-slotted id_slot curve_slots_long,
                              (
                                none-slotted id_slot pattern_slots_long,
                                (none-slotted demand_slot demand_slots_long, tt),
                              ),
                            ),
                          ),
                        ),
                      ),
                    ),
                  ),
                ),
              ),
            ),
          ),
        ),
      ),
    )

empty-numbers : blocks (number_blocks no_network) ≡ replicate room_numbers zero_f
unfolding number_blocks
empty-numbers =
    all-zeros zero_f (number_blocks no_network) number_sizes (
      none_in zero_f node_numbers node_numbers_long,
      (
        none_in zero_f link_numbers link_numbers_long,
        (
          none_in zero_f point_numbers point_numbers_long,
          (
            none_in zero_f multiplier_numbers multiplier_numbers_long,
            (
              none_in zero_f demand_numbers demand_numbers_long,
              (none_in zero_f clause_numbers clause_numbers_long, tt),
            ),
          ),
        ),
      ),
    )

none-known : (text : List ℕ) → Known text no_network
unfolding slots_from
none-known text =
    record {
      nodes = record { bound = omega arith; fine = tt };
      links = record { bound = omega arith; fine = tt };
      curves = record { bound = omega arith; fine = tt };
      points = record { bound = omega arith; fine = tt };
      patterns = record { bound = omega arith; fine = tt };
      multipliers = record { bound = omega arith; fine = tt };
      demands = record { bound = omega arith; fine = tt };
      times = refl;
      rules = record { bound = omega arith; fine = tt };
      clauses = record { bound = omega arith; fine = tt };
      owned = record { first = λ k h. absurd (omega arith); beyond = λ h l. zero-at demand_slots_long h };
    }

pub empty : (text w : List ℕ) (f : List Float) → w ≡ replicate record_words 0 → f ≡ replicate room_numbers zero_f → Holds text no_network (counts_of no_network) w f
empty text w f ew ef = record { counts = refl; words = record { exact = ew ∙ sym empty-words; known = none-known text }; numbers = record { exact = ef ∙ sym empty-numbers } }
