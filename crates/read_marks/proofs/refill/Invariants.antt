-- `read_marks::refill` meets its contract. Assumes nothing.
use Rattle.std.proofs.Common.{◌≡◌, ◌++◌, map, take, drop}
use Rattle.scope_lines.specs.Tables.{swapped}
use Rattle.read_marks.proofs.refill.Given as goal

abbrev pub invariant-loop-class : goal.invariant-loop-class
invariant-loop-class l =
    l.class-items ≡ map (swapped l.k) (take l.class-index l.initial.class-items) ++ drop l.class-index l.initial.class-items
