-- The sums of the crew sheet: what the moves of its rules, and those of its links, come to. Assumes nothing.
use Rattle.std.specs.Prelude.{ℕ, zero, suc, ◌+◌, Bool, length}
use Rattle.scope.specs.Records.{Network}
use Rattle.sheet_actions.specs.declared.Moves.{Moves}
use Rattle.sheet_moves.specs.Moves.{rule_moves, link_moves}

-- the sum of f over the numbers below n
unfoldable pub below : (ℕ → ℕ) → ℕ → ℕ
below f zero = 0
below f (suc n) = below f n + f n

-- each of the four counts, summed
abbrev pub summed : (ℕ → Moves) → ℕ → Moves
summed f n =
    record {
      closes = below (λ i. (f i).closes) n;
      opens = below (λ i. (f i).opens) n;
      activates = below (λ i. (f i).activates) n;
      sets = below (λ i. (f i).sets) n;
    }

-- over all rules, and over all links
abbrev pub over_rules : Network → Bool → Moves
over_rules m otherwise = summed (λ i. rule_moves m i otherwise) (length m.rules)

abbrev pub over_links : Network → Bool → Moves
over_links m otherwise = summed (λ i. link_moves m i otherwise) (length m.links)
