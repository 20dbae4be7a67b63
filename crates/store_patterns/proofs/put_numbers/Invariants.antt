-- `store_patterns::put_numbers` meets its contract. Assumes nothing.
use Rattle.store_patterns.proofs.StoringLaws.{Placed}
use Rattle.store_patterns.proofs.put_numbers.Given as goal

abbrev pub invariant-loop-i : goal.invariant-loop-i
invariant-loop-i l =
    Placed l.xs l.k l.pattern l.initial.words l.words l.initial.numbers l.numbers l.i
