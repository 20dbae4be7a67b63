-- `leaf_scans::reach` meets its contract. Assumes nothing.
use Prim.Native.Nat.{◌+◌, ◌-◌}
use mathlib.Core.Path.{◌≡◌}
use lib.ListN.{length, drop}
use Rattle.leaf_scans.specs.Scan.{span_len}
use Rattle.leaf_scans.proofs.reach.Given as goal

abbrev pub invariant-loop-i : goal.invariant-loop-i
invariant-loop-i l = l.i + span_len l.k (drop l.i l.l) ≡ l.at + span_len l.k (drop l.at l.l)

abbrev pub decreases-loop-i : goal.decreases-loop-i
decreases-loop-i l = length l.l - l.i
