-- `table_keys::name_key` meets its contract. Assumes nothing.
use native.Mathlib.Omega.{arith}
use lib.ListN.{get_or}
use Rattle.table_keys.proofs.LoopLaws.{pack-start, pack-fits, pack-next, pack-end}
use Rattle.table_keys.proofs.name_key.Goals as goal

pub loop-b-init : goal.loop-b-init
loop-b-init c = pack-start c.cut-l.result.now c.args.name.now c.cut-l.ensures

pub overflow_mul-k : goal.overflow_mul-k
overflow_mul-k c = omega (arith, pack-fits c.loop-b.invariant 0 (omega arith) (omega arith))

pub overflow_add-k : goal.overflow_add-k
overflow_add-k c = omega (arith, pack-fits c.loop-b.invariant (get_or c.cut-l.result.now c.loop-b.b-index 0) (omega arith) (omega arith))

pub loop-b-preserved : goal.loop-b-preserved
loop-b-preserved c = rw c.from.ensures (pack-next c.loop-b.invariant (omega arith) (omega arith))

pub returns : goal.returns
returns c = pack-end c.loop-b.invariant c.args.name.now (omega arith) c.cut-l.ensures
