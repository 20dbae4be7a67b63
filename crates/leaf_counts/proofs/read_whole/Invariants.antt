-- `leaf_counts::read_whole` meets its contract. Assumes nothing.
use mathlib.Core.Path.{◌≡◌}
use Prim.Native.Nat.{◌^◌, ◌<◌}
use lib.ListN.{drop}
use Rattle.leaf_counts.specs.Counts.{whole}
use Rattle.leaf_counts.proofs.Counts.{from}
use Rattle.leaf_counts.proofs.read_whole.Given as goal

abbrev pub invariant-loop-b : goal.invariant-loop-b
invariant-loop-b l = (l.v < 2 ^ 64) × (from l.v (drop l.b-index l.s) ≡ whole l.s)
