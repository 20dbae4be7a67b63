-- `parse_pumps::read_pairs` meets its contract. Assumes nothing.
use Rattle.leaf_fields.specs.Fields.{fields_at}
use lib.ListN.{length}
use Rattle.parse_pumps.proofs.PumpLaws.{Pairing}
use Rattle.parse_pumps.proofs.read_pairs.Given as goal

abbrev pub invariant-loop-word : goal.invariant-loop-word
invariant-loop-word l =
    Pairing l.l (fields_at l.l l.at) (fields_at l.l l.i) l.p

abbrev pub decreases-loop-word : goal.decreases-loop-word
decreases-loop-word l =
    length (fields_at l.l l.i)
