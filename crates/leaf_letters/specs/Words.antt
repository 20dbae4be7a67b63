-- Fixed words, compared as they stand or with letters raised: document 01, "Lines and groups": "Letter case is raised for A to Z only." Assumes nothing.
use Rattle.std.specs.Prelude.{ℕ, ◌-◌, Bool, true, false, cond, ◌&&◌, List, [], ◌∷◌, map, length, take, eqb, leb}

-- two texts are the same
unfoldable pub same : List ℕ → List ℕ → Bool
same [] [] = true
same [] (y ∷ ys) = false
same (x ∷ xs) [] = false
same (x ∷ xs) (y ∷ ys) = eqb x y && same xs ys

-- a letter a to z raised to A to Z; any other byte as it is
abbrev pub raised : ℕ → ℕ
raised b = cond (leb 97 b && leb b 122) (b - 32) b

-- l, its letters raised, is the word w
abbrev pub spelled : List ℕ → List ℕ → Bool
spelled l w = same (map raised l) w

-- l begins with the word w
abbrev pub begins : List ℕ → List ℕ → Bool
begins l w = same (take (length w) l) w
