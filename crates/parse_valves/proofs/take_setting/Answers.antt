-- `parse_valves::take_setting` meets its contract. Assumes nothing.
use lib.Ieee as Ieee
use Rattle.scope.specs.Links.{setting_from}
use Rattle.parse_fields.proofs.TakeLaws.{optional, may-fit}
use Rattle.parse_valves.proofs.take_setting.Goals as goal

pub returns-in-Gpv : goal.returns-in-Gpv
unfolding setting_from Ieee.of_bits
returns-in-Gpv c =
    let n = c.next_field-curve.ensures in
    (rw (c.in-Gpv.is, optional _ n, (c.field_end-next.ensures _ n).left), may-fit _ n)
