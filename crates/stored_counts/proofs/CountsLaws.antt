-- What is read from the words after the records is the counts. Assumes nothing.
use Prim.Native.Nat.{ℕ, ◌+◌, ◌≤◌}
use native.Mathlib.Omega.{arith}
use mathlib.Core.Path.{◌≡◌, sym, ap, ◌∙◌}
use mathlib.Core.List.{List, ◌++◌}
use lib.ListN.{length, get_or, drop, length-append, length-drop}
use lib.Seq.{get_or-drop}
use Rattle.scope.specs.Records.{Network, counts_of}
use Rattle.scope.specs.Tables.{tally_words}
use Rattle.scope.specs.Layout.{record_words, room_counts, counts_at, room_words}
use Rattle.scope.specs.Layout.{count_nodes, count_links, count_curves, count_points, count_patterns, count_multipliers, count_demands, count_rules, count_clauses}
use Rattle.scope.specs.declared.Counts.{Counts}

abbrev counts_by : (ℕ → ℕ) → Counts
counts_by a = record { nodes = a count_nodes; links = a count_links; curves = a count_curves; points = a count_points; patterns = a count_patterns; multipliers = a count_multipliers; demands = a count_demands; rules = a count_rules; clauses = a count_clauses }

pub counts-back : (m : Network) (w rest : List ℕ) → drop record_words w ≡ tally_words (counts_of m) ++ rest → counts_by (λ j. get_or w (counts_at + j) 0) ≡ counts_of m
counts-back m w rest e =
    let a : (j : ℕ) → get_or w (counts_at + j) 0 ≡ get_or (tally_words (counts_of m) ++ rest) j 0 = λ j. sym (get_or-drop record_words w j 0) ∙ ap (λ (l : List ℕ). get_or l j 0) e in
    rw (a count_nodes, a count_links, a count_curves, a count_points, a count_patterns, a count_multipliers, a count_demands, a count_rules, a count_clauses)

counts-more : (c : Counts) (rest : List ℕ) → length (tally_words c ++ rest) ≡ room_counts + length rest
counts-more c rest = length-append (tally_words c) rest

pub counts-long : (m : Network) (w rest : List ℕ) → drop record_words w ≡ tally_words (counts_of m) ++ rest → room_words ≤ length w
counts-long m w rest e =
    let long : length (drop record_words w) ≡ room_counts + length rest = ap length e ∙ counts-more (counts_of m) rest in
    omega (arith, long, length-drop record_words w)
