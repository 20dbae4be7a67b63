-- A record put into a table. Assumes nothing.
use Rattle.std.specs.Prelude.{ℕ, ◌+◌, List, ◌++◌, length, take, drop}

-- `xs` with `rec` in the place of as many elements from index `a`
abbrev pub splice : {A : Type 0} → List A → ℕ → List A → List A
splice xs a rec = take a xs ++ rec ++ drop (a + length rec) xs
