-- `read_marks::count` meets its contract. Assumes nothing.
use Prim.Native.Nat.{◌+◌}
use mathlib.Core.Path.{◌≡◌}
use lib.ListN.{drop}
use Rattle.scope_lines.specs.Tables.{count_in}
use Rattle.read_marks.proofs.count.Given as goal

abbrev pub invariant-loop-b : goal.invariant-loop-b
invariant-loop-b l = l.n + count_in l.k (drop l.b-index l.xs) ≡ count_in l.k l.xs
