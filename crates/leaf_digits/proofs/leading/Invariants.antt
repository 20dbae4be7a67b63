-- `leaf_digits::leading` meets its contract. Assumes nothing.
use mathlib.Core.Path.{◌≡◌}
use mathlib.Core.List.{List}
use Prim.Native.Nat.{ℕ, ◌≤◌, ◌+◌, min}
use lib.ListN.{length, drop}
use Rattle.leaf_digits.specs.Digits.{digits, value}
use Rattle.leaf_digits.specs.Cap.{cap}
use Rattle.leaf_digits.proofs.leading.Given as goal

abbrev pub Known : List ℕ → ℕ → ℕ → ℕ → Type 0
Known s start i v = (v ≤ cap) × (i + length (digits (drop i s)) ≡ length (digits s)) × (min (value v (digits (drop i s))) cap ≡ min (value start (digits s)) cap)

abbrev pub invariant-loop-i : goal.invariant-loop-i
invariant-loop-i l = Known l.s l.start l.i l.v
