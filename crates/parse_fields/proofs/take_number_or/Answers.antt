-- `parse_fields::take_number_or` meets its contract. Assumes nothing.
use mathlib.Core.Path.{ap, ◌∙◌}
use Rattle.parse_fields.specs.Taking.{took_in}
use Rattle.parse_fields.proofs.TakeLaws.{handed-on, took-part, took-other, took-refused}
use Rattle.parse_fields.proofs.take_number_or.Goals as goal

pub returns-in_err-x : goal.returns-in_err-x
returns-in_err-x c =
    let a = c.args in
    ap (took_in a.l.now) (handed-on c.from_residual.ensures)
    ∙ took-refused a.l.now a.at c.field_start-start.result c.field_start-start.ensures a.other.now _ c.field_or-text.ensures
    c.whole_number.result c.whole_number.ensures _ c.in_err-x.was

pub returns-then-start-l : goal.returns-then-start-l
returns-then-start-l c =
    let a = c.args in
    rw c.in_ok-x.was at (took-part a.l.now a.at c.field_start-start.result c.field_start-start.ensures a.other.now _ c.field_or-text.ensures
    c.whole_number.result c.whole_number.ensures c.if-start-l.true)

pub returns : goal.returns
returns c =
    let a = c.args in
    rw c.in_ok-x.was at (took-other a.l.now a.at c.field_start-start.result c.field_start-start.ensures a.other.now _ c.field_or-text.ensures
    c.whole_number.result c.whole_number.ensures c.if-start-l.false)
