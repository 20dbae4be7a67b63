-- `store_patterns::put_rest` meets its contract. Assumes nothing.
use lib.ListN.{length}
use Rattle.leaf_fields.specs.Fields.{fields_at}
use Rattle.store_patterns.proofs.StoringLaws.{Storing}
use Rattle.store_patterns.proofs.put_rest.Given as goal

abbrev pub invariant-loop-x : goal.invariant-loop-x
invariant-loop-x l =
    Storing (fields_at l.l l.at) (fields_at l.l l.p) l.k l.pattern l.initial.words l.words l.initial.numbers l.numbers l.i

abbrev pub decreases-loop-x : goal.decreases-loop-x
decreases-loop-x l =
    length (fields_at l.l l.p)
