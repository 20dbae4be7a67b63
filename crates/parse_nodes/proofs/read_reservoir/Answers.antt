-- `parse_nodes::read_reservoir` meets its contract. Assumes nothing.
use Rattle.parse_fields.proofs.IdLaws.{named, unnamed}
use Rattle.parse_fields.proofs.TakeLaws.{handed-on, may-fit, optional}
use Rattle.scope.specs.Nodes.{reservoir_of}
use Rattle.parse_nodes.proofs.read_reservoir.Goals as goal

pub returns-in_err-id : goal.returns-in_err-id
unfolding reservoir_of
returns-in_err-id c = rw (handed-on c.from_residual.ensures, unnamed _ c.next_field.ensures c.in_err-id.ensures.value)

pub returns-in_err-elevation : goal.returns-in_err-elevation
unfolding reservoir_of
returns-in_err-elevation c =
    rw (handed-on c.from_residual-in_err-elevation.ensures, (named _ c.next_field.ensures c.in_ok-id.ensures.value).0, ← c.in_err-elevation.ensures)

pub returns : goal.returns
unfolding reservoir_of
returns c =
    let id = named _ c.next_field.ensures c.in_ok-id.ensures.value in
    (rw (id.0, ← c.in_ok-elevation.ensures, optional _ c.next_field-pattern.ensures), (id.1, may-fit _ c.next_field-pattern.ensures))
