-- How many records are as asked: those that belong to another, or the conditions and the actions among clauses. Assumes nothing.
use Rattle.std.specs.Prelude.{ℕ, ◌+◌, ◌-◌, Bool, cond, List, [], ◌∷◌, map, take, drop, eqb}
use Rattle.scope.specs.Records.{Network, Demand, Point, Multiplier}
use Rattle.stored_parts.specs.declared.Part.{Part}
use Rattle.stored_parts.specs.declared.Part.TheVariants as part

abbrev pub one_if : Bool → ℕ
one_if b = cond b 1 0

unfoldable pub how_many : {A : Type 0} → (A → Bool) → List A → ℕ
how_many asked [] = 0
how_many asked (x ∷ xs) = one_if (asked x) + how_many asked xs

-- ---- what belongs to another: the place that each record of a kind names
abbrev pub owners : Part → Network → List ℕ
owners part.Demand m = map (λ (d : Demand). d.node) m.demands
owners part.Point m = map (λ (p : Point). p.curve) m.points
owners part.Multiplier m = map (λ (x : Multiplier). x.pattern) m.multipliers

abbrev pub is_place : ℕ → ℕ → Bool
is_place owner i = eqb i owner

-- ---- clauses
-- those from the place `first` up to the place `end`
abbrev pub between : {A : Type 0} → ℕ → ℕ → List A → List A
between first end xs = take (end - first) (drop first xs)
