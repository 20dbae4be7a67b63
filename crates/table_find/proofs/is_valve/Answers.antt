-- `table_find::is_valve` meets its contract. Assumes nothing.
use Rattle.table_rows.proofs.ReadLaws.{is-valve}
use Rattle.table_find.proofs.is_valve.Goals as goal

pub returns : goal.returns
returns c = λ text m h hi. rw c.link_kind.ensures (is-valve h c.args.i hi)
