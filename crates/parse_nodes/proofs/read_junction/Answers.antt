-- `parse_nodes::read_junction` meets its contract. Assumes nothing.
use lib.Ieee as Ieee
use Rattle.parse_fields.proofs.IdLaws.{named, unnamed}
use Rattle.parse_fields.proofs.TakeLaws.{handed-on, may-fit, optional}
use Rattle.scope.specs.Nodes.{junction_of}
use Rattle.parse_nodes.proofs.read_junction.Goals as goal

pub returns-in_err-id : goal.returns-in_err-id
unfolding junction_of
returns-in_err-id c = rw (handed-on c.from_residual.ensures, unnamed _ c.next_field.ensures c.in_err-id.ensures.value)

pub returns-in_err-elevation : goal.returns-in_err-elevation
unfolding junction_of
returns-in_err-elevation c =
    rw (handed-on c.from_residual-in_err-elevation.ensures, (named _ c.next_field.ensures c.in_ok-id.ensures.value).0, ← c.in_err-elevation.ensures)

pub returns-in_err-demand : goal.returns-in_err-demand
unfolding junction_of Ieee.of_bits
returns-in_err-demand c =
    rw (handed-on c.from_residual-in_err-demand.ensures, (named _ c.next_field.ensures c.in_ok-id.ensures.value).0, ← c.in_ok-elevation.ensures, ← c.in_err-demand.ensures)

pub returns-in_err-disabled : goal.returns-in_err-disabled
unfolding junction_of Ieee.of_bits
returns-in_err-disabled c =
    rw (
      handed-on c.from_residual-in_err-disabled.ensures,
      (named _ c.next_field.ensures c.in_ok-id.ensures.value).0,
      ← c.in_ok-elevation.ensures,
      ← c.in_ok-demand.ensures,
      optional _ c.next_field-pattern.ensures,
      ← (c.field_end-at4.ensures _ c.next_field-pattern.ensures).left,
      ← c.in_err-disabled.ensures,
    )

pub returns : goal.returns
unfolding junction_of Ieee.of_bits
returns c =
    let id = named _ c.next_field.ensures c.in_ok-id.ensures.value in (
      rw (
        id.0,
        ← c.in_ok-elevation.ensures,
        ← c.in_ok-demand.ensures,
        optional _ c.next_field-pattern.ensures,
        ← (c.field_end-at4.ensures _ c.next_field-pattern.ensures).left,
        ← c.in_ok-disabled.ensures,
      ),
      (id.1, may-fit _ c.next_field-pattern.ensures),
    )
