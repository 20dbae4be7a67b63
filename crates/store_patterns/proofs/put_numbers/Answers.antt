-- `store_patterns::put_numbers` meets its contract. Assumes nothing.
use Rattle.store_patterns.proofs.StoringLaws.{one_placed}
use Rattle.store_patterns.proofs.put_numbers.Goals as goal

pub loop-i-preserved : goal.loop-i-preserved
loop-i-preserved c = one_placed c.loop-i.invariant c.loop-i-test.true
