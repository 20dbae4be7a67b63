-- `parse_tanks::read_levels` meets its contract. Assumes nothing.
use Rattle.scope.specs.Nodes.{levels_of}
use Rattle.parse_fields.proofs.TakeLaws.{handed-on}
use Rattle.parse_tanks.proofs.read_levels.Goals as goal

pub returns-in_err-initial : goal.returns-in_err-initial
unfolding levels_of
returns-in_err-initial c = λ fit. rw (handed-on c.from_residual.ensures, ← c.in_err-initial.ensures)

pub returns-in_err-minimum : goal.returns-in_err-minimum
unfolding levels_of
returns-in_err-minimum c = λ fit. rw (handed-on c.from_residual-in_err-minimum.ensures, ← c.in_ok-initial.ensures, ← c.in_err-minimum.ensures)

pub returns-in_err-maximum : goal.returns-in_err-maximum
unfolding levels_of
returns-in_err-maximum c =
    λ fit. rw (handed-on c.from_residual-in_err-maximum.ensures, ← c.in_ok-initial.ensures, ← c.in_ok-minimum.ensures, ← c.in_err-maximum.ensures)

pub returns-in_err-diameter : goal.returns-in_err-diameter
unfolding levels_of
returns-in_err-diameter c =
    λ fit. rw (
      handed-on c.from_residual-in_err-diameter.ensures,
      ← c.in_ok-initial.ensures,
      ← c.in_ok-minimum.ensures,
      ← c.in_ok-maximum.ensures,
      ← c.in_err-diameter.ensures,
    )

pub returns-in_err-volume : goal.returns-in_err-volume
unfolding levels_of
returns-in_err-volume c =
    λ fit. rw (
      handed-on c.from_residual-in_err-volume.ensures,
      ← c.in_ok-initial.ensures,
      ← c.in_ok-minimum.ensures,
      ← c.in_ok-maximum.ensures,
      ← c.in_ok-diameter.ensures,
      ← c.in_err-volume.ensures,
    )

pub returns : goal.returns
unfolding levels_of
returns c =
    λ fit. (
      rw (
        ← c.in_ok-initial.ensures,
        ← c.in_ok-minimum.ensures,
        ← c.in_ok-maximum.ensures,
        ← c.in_ok-diameter.ensures,
        ← c.in_ok-volume.ensures,
        c.take_curve-curve.ensures.0,
        ← c.past_field-at7.ensures.left,
        ← c.take_overflow-overflow.ensures,
      ),
      (fit, c.take_curve-curve.ensures.1),
    )
