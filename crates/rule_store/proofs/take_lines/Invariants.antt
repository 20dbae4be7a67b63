-- `rule_store::take_lines` meets its contract. Assumes nothing.
use lib.ListN.{length}
use Rattle.scope.specs.Records.{Network}
use Rattle.read_headers.specs.Own.{group_fields}
use Rattle.rule_store.proofs.GroupLaws.{Started, Taking}
use Rattle.rule_store.proofs.take_lines.Given as goal

abbrev pub invariant-loop-line : goal.invariant-loop-line
invariant-loop-line l =
    (m : Network) → Started l.text m l.base l.links l.initial.words l.initial.numbers → Taking m l.text l.at l.first l.p l.q l.words l.numbers

abbrev pub decreases-loop-line : goal.decreases-loop-line
decreases-loop-line l =
    length (group_fields l.text l.at l.p)
