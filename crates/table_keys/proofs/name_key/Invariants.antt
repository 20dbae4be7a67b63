-- `table_keys::name_key` meets its contract. Assumes nothing.
use Rattle.table_keys.proofs.LoopLaws.{Packing}
use Rattle.table_keys.proofs.name_key.Given as goal

abbrev pub invariant-loop-b : goal.invariant-loop-b
invariant-loop-b l = Packing l.l l.k l.b-index
