-- `read_headers::own_from` meets its contract. Assumes nothing.
use mathlib.Core.Path.{◌≡◌}
use Prim.Native.Nat.{◌≤◌, ◌-◌}
use lib.ListN.{length, drop}
use Rattle.leaf_scans.specs.Lines.{chunks}
use Rattle.scope.specs.declared.Section.TheVariants.{Rules}
use Rattle.read_headers.specs.Own.{own_fields}
use Rattle.read_headers.proofs.own_from.Given as goal

abbrev pub invariant-loop-p : goal.invariant-loop-p
invariant-loop-p l =
    (own_fields l.section l.p (chunks (drop l.p l.text)) ≡ own_fields Rules l.from (chunks (drop l.from l.text))) × (l.from ≤ l.p)

abbrev pub decreases-loop-p : goal.decreases-loop-p
decreases-loop-p l =
    length l.text - l.p
