-- `store_curves::falls_behind` meets its contract. Assumes nothing.
use Rattle.store_curves.proofs.CurveLaws.{Sought}
use Rattle.store_curves.proofs.falls_behind.Given as goal

abbrev pub invariant-loop-j : goal.invariant-loop-j
invariant-loop-j l =
    Sought l.words l.numbers l.points l.curve l.j
