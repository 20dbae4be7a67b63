-- `leaf_digits::few_digits` meets its contract. Assumes nothing.
use Prim.Native.Nat.{◌-◌, ◌≤◌}
use lib.ListN.{length}
use Rattle.leaf_digits.specs.Runs.{Room, Scanned}
use Rattle.leaf_digits.proofs.few_digits.Given as goal

abbrev pub invariant-loop-i : goal.invariant-loop-i
invariant-loop-i l = (l.to ≤ length l.s) × Scanned l.s l.from l.start l.i l.v × Room l.v l.i l.to

abbrev pub decreases-loop-i : goal.decreases-loop-i
decreases-loop-i l = l.to - l.i
