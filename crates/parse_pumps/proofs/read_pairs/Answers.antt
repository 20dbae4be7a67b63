-- `parse_pumps::read_pairs` meets its contract. Assumes nothing.
use Rattle.parse_fields.proofs.TakeLaws.{handed-on}
use Rattle.parse_pumps.proofs.PumpLaws.{one_more, pair-refused}
use Rattle.parse_pumps.proofs.read_pairs.Goals as goal

pub returns-in_err-p : goal.returns-in_err-p
returns-in_err-p c =
    let word = c.next_field.ensures.taken _ c.in-Some.is in
    let value = c.next_field-in-Some.ensures.taken _ c.in-Some-next_field.is in
    rw (handed-on c.from_residual.ensures) (pair-refused c.loop-word.invariant word.0 value.0 (c.in_err-p.ensures c.loop-word.invariant.fits value.1))

pub loop-word-preserved : goal.loop-word-preserved
loop-word-preserved c =
    let word = c.next_field.ensures.taken _ c.in-Some.is in
    let value = c.next_field-in-Some.ensures.taken _ c.in-Some-next_field.is in
    one_more c.loop-word.invariant word.0 value.0 _ (c.in_ok-p.ensures c.loop-word.invariant.fits value.1)
