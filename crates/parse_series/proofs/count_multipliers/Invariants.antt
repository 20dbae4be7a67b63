-- `parse_series::count_multipliers` meets its contract. Assumes nothing.
use lib.ListN.{length}
use Rattle.leaf_fields.specs.Fields.{fields_at}
use Rattle.parse_series.proofs.PatternLaws.{Going}
use Rattle.parse_series.proofs.count_multipliers.Given as goal

abbrev pub invariant-loop-number : goal.invariant-loop-number
invariant-loop-number l =
    Going (fields_at l.l l.at) (fields_at l.l l.p) (fields_at l.l l.rest) (length l.initial.first) l.first l.n

abbrev pub decreases-loop-number : goal.decreases-loop-number
decreases-loop-number l =
    length (fields_at l.l l.p)
