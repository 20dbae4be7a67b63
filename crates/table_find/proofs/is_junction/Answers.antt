-- `table_find::is_junction` meets its contract. Assumes nothing.
use Rattle.table_rows.proofs.ReadLaws.{is-junction}
use Rattle.table_find.proofs.is_junction.Goals as goal

pub returns : goal.returns
returns c = λ text m h hi. is-junction h c.args.i hi
