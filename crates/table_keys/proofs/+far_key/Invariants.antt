-- `table_keys::far_key` meets its contract: it calls itself with a letter less.
use Rattle.table_keys.proofs.+far_key.Given as goal

abbrev pub decreases-far_key : goal.decreases-far_key
decreases-far_key l = l.n
