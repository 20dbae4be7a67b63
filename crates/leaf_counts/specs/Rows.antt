-- Rows that are computed. Assumes nothing.
use Rattle.std.specs.Prelude.{◌≡◌, refl, List, [], ◌∷◌, map, ℕ, None, Option, Some}
use Rattle.leaf_counts.specs.Counts.{count_of, count_answer}

-- a text, and what it is
count_rows : List (List ℕ × Option ℕ)
count_rows =
    -- +7
    (43 ∷ 55 ∷ [], Some 7)
    -- 007
    ∷ (48 ∷ 48 ∷ 55 ∷ [], Some 7)
    -- 18446744073709551615
    ∷ (49 ∷ 56 ∷ 52 ∷ 52 ∷ 54 ∷ 55 ∷ 52 ∷ 52 ∷ 48 ∷ 55 ∷ 51 ∷ 55 ∷ 48 ∷ 57 ∷ 53 ∷ 53 ∷ 49 ∷ 54 ∷ 49 ∷ 53 ∷ [], Some 18446744073709551615)
    -- 18446744073709551616
    ∷ (49 ∷ 56 ∷ 52 ∷ 52 ∷ 54 ∷ 55 ∷ 52 ∷ 52 ∷ 48 ∷ 55 ∷ 51 ∷ 55 ∷ 48 ∷ 57 ∷ 53 ∷ 53 ∷ 49 ∷ 54 ∷ 49 ∷ 54 ∷ [], None)
    -- +
    ∷ (43 ∷ [], None)
    -- -0
    ∷ (45 ∷ 48 ∷ [], None)
    ∷ []

counts-right : map (λ (row : List ℕ × Option ℕ). count_of row.0) count_rows ≡ map (λ (row : List ℕ × Option ℕ). row.1) count_rows
unfolding count_rows count_of
counts-right = refl

counts-answered : map (λ (row : List ℕ × Option ℕ). count_answer row.1) count_rows ≡ 0 ∷ 0 ∷ 0 ∷ 2 ∷ 2 ∷ 2 ∷ []
unfolding count_rows
counts-answered = refl
