-- `leaf_scans::trim_end` meets its contract. Assumes nothing.
use mathlib.Core.Path.{◌≡◌}
use lib.ListN.{length}
use Rattle.leaf_scans.specs.Lines.{end_trimmed}
use Rattle.leaf_scans.proofs.trim_end.Given as goal

abbrev pub invariant-loop-rest : goal.invariant-loop-rest
invariant-loop-rest l = end_trimmed l.rest ≡ end_trimmed l.fn.l

abbrev pub decreases-loop-rest : goal.decreases-loop-rest
decreases-loop-rest l = length l.rest
