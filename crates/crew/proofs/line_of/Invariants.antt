-- There are no more line feeds than bytes.
use Rattle.std.proofs.Common.{◌≤◌}
use Rattle.crew.proofs.line_of.Given as goal

abbrev pub invariant-loop-b : goal.invariant-loop-b
invariant-loop-b l = l.n ≤ l.b-index
