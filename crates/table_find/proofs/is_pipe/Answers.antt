-- `table_find::is_pipe` meets its contract. Assumes nothing.
use Rattle.table_rows.proofs.ReadLaws.{is-pipe}
use Rattle.table_find.proofs.is_pipe.Goals as goal

pub returns : goal.returns
returns c = λ text m h hi. rw c.link_kind.ensures (is-pipe h c.args.i hi)
