-- `leaf_fields::next_field` meets its contract. Assumes nothing.
use Rattle.leaf_fields.proofs.FieldLaws.{next-from, next-nothing}
use Rattle.leaf_fields.proofs.next_field.Goals as goal

pub returns-then-start-l : goal.returns-then-start-l
returns-then-start-l c =
    let a = c.args in
    next-from a.l.now a.at c.field_start-start.result c.reach-end.result c.field_start-start.ensures c.if-start-l.true c.reach-end.ensures

pub returns : goal.returns
returns c =
    let a = c.args in
    next-nothing a.l.now a.at c.field_start-start.result 0 c.field_start-start.ensures c.if-start-l.false
