-- No more links are left out than were looked at.
use Rattle.std.proofs.Common.{◌≤◌}
use Rattle.crew.proofs.show_links.Given as goal

abbrev pub invariant-loop-i : goal.invariant-loop-i
invariant-loop-i g l = l.left ≤ l.i
