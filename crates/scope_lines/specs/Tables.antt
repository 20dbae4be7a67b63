-- The marks of a survey in the two tables that the caller lends: "a class and a reason for each of 65,536 lines; entries after the
-- last line are zero". Assumes nothing.
use Rattle.std.specs.Prelude.{cond, List, [], ◌∷◌, ◌++◌, map, ℕ, ◌+◌, ◌-◌, length, take, drop, replicate, eqb}
use Rattle.scope_lines.specs.Reader.{Mark, code}

abbrev pub code_of : Mark → ℕ
code_of m = code m.class

abbrev pub reason_in : Mark → ℕ
reason_in m = m.reason

-- numbers of marks in a table of n, and zeros after them
unfoldable pub marks_in : (Mark → ℕ) → ℕ → List Mark → List ℕ
marks_in g n ms = map g ms ++ replicate (n - length ms) 0

-- when a group closes: between its first line and here, 8 becomes the group's class
abbrev pub swapped : ℕ → ℕ → ℕ
swapped k b = cond (eqb b 8) k b

unfoldable pub refilled : List ℕ → ℕ → ℕ → ℕ → List ℕ
refilled xs from to k = take from xs ++ map (swapped k) (take (to - from) (drop from xs)) ++ drop to xs

-- how many lines are of class k
unfoldable pub count_in : ℕ → List ℕ → ℕ
count_in k [] = 0
count_in k (x ∷ xs) = cond (eqb x k) 1 0 + count_in k xs
