-- No more lines are refused than were looked at.
use Rattle.std.proofs.Common.{◌≤◌}
use Rattle.crew.proofs.refused.Given as goal

abbrev pub invariant-loop-reason : goal.invariant-loop-reason
invariant-loop-reason l = l.n ≤ l.reason-index
