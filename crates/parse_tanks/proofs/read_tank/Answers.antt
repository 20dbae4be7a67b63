-- `parse_tanks::read_tank` meets its contract. Assumes nothing.
use mathlib.Core.Path.{sym, ◌∙◌}
use Rattle.parse_fields.proofs.IdLaws.{named, unnamed}
use Rattle.parse_fields.proofs.TakeLaws.{handed-on}
use Rattle.scope.specs.Nodes.{tank_of}
use Rattle.parse_tanks.proofs.TankLaws.{or-levels, or-reservoir}
use Rattle.parse_tanks.proofs.read_tank.Goals as goal

pub returns-in_err-id : goal.returns-in_err-id
unfolding tank_of
returns-in_err-id c = rw (handed-on c.from_residual.ensures, unnamed _ c.next_field.ensures c.in_err-id.ensures.value)

pub returns-in_err-elevation : goal.returns-in_err-elevation
unfolding tank_of
returns-in_err-elevation c =
    rw (handed-on c.from_residual-in_err-elevation.ensures, (named _ c.next_field.ensures c.in_ok-id.ensures.value).0, ← c.in_err-elevation.ensures)

pub returns-then-is_some : goal.returns-then-is_some
unfolding tank_of
returns-then-is_some c =
    let id = named _ c.next_field.ensures c.in_ok-id.ensures.value in
    rw (id.0, ← c.in_ok-elevation.ensures, or-levels _ _ _ c.next_field-2.ensures (sym c.is_some.ensures ∙ c.if-is_some.true)) (c.read_levels.ensures id.1)

pub returns : goal.returns
unfolding tank_of
returns c =
    let id = named _ c.next_field.ensures c.in_ok-id.ensures.value in
    (rw (id.0, ← c.in_ok-elevation.ensures, or-reservoir _ _ _ c.next_field-2.ensures (sym c.is_some.ensures ∙ c.if-is_some.false)), (id.1, tt))
