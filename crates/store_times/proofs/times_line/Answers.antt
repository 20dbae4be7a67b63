-- `store_times::times_line` meets its contract. Assumes nothing.
use lib.ListN.{take}
use Rattle.leaf_fields.specs.Fields.{fields_at}
use Rattle.table_rows.proofs.AfterLaws.{sound-words}
use Rattle.store_times.proofs.StoreLaws.{time-set, time-bad}
use Rattle.store_times.proofs.times_line.Goals as goal

pub returns-in_err-t : goal.returns-in_err-t
returns-in_err-t c =
    let a = c.args in
    λ m h. time-bad h (fields_at (take a.end a.text.now) a.at) _ c.in_err-t.ensures c.from_residual.ensures

pub put_time-requires : goal.put_time-requires
put_time-requires c = sound-words c.requires.0

pub returns : goal.returns
returns c =
    let a = c.args in
    λ m h. time-set h (fields_at (take a.end a.text.now) a.at) _ c.in_ok-t.ensures c.put_time.ensures
