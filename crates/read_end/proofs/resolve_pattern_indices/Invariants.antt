-- `read_end::resolve_pattern_indices` meets its contract. Assumes nothing.
use Rattle.read_end.proofs.ResolveLaws.{Nodes, Demands}
use Rattle.read_end.proofs.resolve_pattern_indices.Given as goal

abbrev pub invariant-loop-k : goal.invariant-loop-k
invariant-loop-k l = Nodes l.text l.s l.initial.words l.words l.k

abbrev pub invariant-loop-k-2 : goal.invariant-loop-k-2
invariant-loop-k-2 l = Demands l.text l.s l.initial.words l.words l.k
