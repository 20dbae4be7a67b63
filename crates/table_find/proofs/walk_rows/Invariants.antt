-- `table_find::walk_rows` meets its contract. Assumes nothing.
use Rattle.table_find.proofs.WalkLaws.{Searched}
use Rattle.table_find.proofs.walk_rows.Given as goal

abbrev pub invariant-loop-i : goal.invariant-loop-i
invariant-loop-i l =
    Searched l.text l.words l.base l.stride l.count l.name l.i
