-- `read_end::pattern_index` meets its contract. Assumes nothing.
use native.Mathlib.Omega.{arith}
use Rattle.table_find.proofs.LookLaws.{below-bound}
use Rattle.read_end.proofs.pattern_index.Goals as goal

pub index_number-requires : goal.index_number-requires
index_number-requires c =
    below-bound c.requires.0.patterns _ 65536 _ (c.find_named.ensures c.requires.0 c.requires.1 c.requires.2) (omega (arith, c.requires.1.known.patterns.bound))
