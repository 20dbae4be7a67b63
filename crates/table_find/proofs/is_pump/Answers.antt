-- `table_find::is_pump` meets its contract. Assumes nothing.
use Rattle.table_rows.proofs.ReadLaws.{is-pump}
use Rattle.table_find.proofs.is_pump.Goals as goal

pub returns : goal.returns
returns c = λ text m h hi. rw c.link_kind.ensures (is-pump h c.args.i hi)
