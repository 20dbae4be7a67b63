-- `parse_series::read_demand` meets its contract. Assumes nothing.
use Rattle.parse_fields.proofs.IdLaws.{named, unnamed}
use Rattle.parse_fields.proofs.TakeLaws.{handed-on, may-fit, optional}
use Rattle.scope.specs.Series.{demand_of}
use Rattle.parse_series.proofs.read_demand.Goals as goal

pub returns-in_err-id : goal.returns-in_err-id
unfolding demand_of
returns-in_err-id c = rw (handed-on c.from_residual.ensures, unnamed _ c.next_field.ensures c.in_err-id.ensures.value)

pub returns-in_err-base : goal.returns-in_err-base
unfolding demand_of
returns-in_err-base c =
    rw (handed-on c.from_residual-in_err-base.ensures, (named _ c.next_field.ensures c.in_ok-id.ensures.value).0, ← c.in_err-base.ensures)

pub returns : goal.returns
unfolding demand_of
returns c =
    let id = named _ c.next_field.ensures c.in_ok-id.ensures.value in
    (rw (id.0, ← c.in_ok-base.ensures, optional _ c.next_field-pattern.ensures), (id.1, may-fit _ c.next_field-pattern.ensures))
