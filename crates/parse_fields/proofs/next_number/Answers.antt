-- `parse_fields::next_number` meets its contract. Assumes nothing.
use native.Mathlib.Omega.{arith}
use Rattle.parse_fields.proofs.TakeLaws.{numbered-from, numbered-none, numbered-plain, numbered-over, plain_fits}
use Rattle.parse_fields.proofs.next_number.Goals as goal

pub returns-in_default : goal.returns-in_default
returns-in_default c =
    let a = c.args in
    numbered-from a.l.now a.at _ c.field_start-start.ensures c.read_next.result c.read_next.ensures

pub overflow_add-end : goal.overflow_add-end
overflow_add-end c =
    omega (arith, plain_fits c.args.l.now c.args.at _ c.field_start-start.ensures c.if-start-l.true _ _ _ c.plain_number.ensures c.in-Some.is)

pub returns-then-end-l : goal.returns-then-end-l
returns-then-end-l c =
    let a = c.args in
    numbered-over a.l.now a.at _ c.field_start-start.ensures c.if-start-l.true _ _ _
    c.plain_number.ensures c.in-Some.is c.if-end-l.true

pub returns-then-start-l : goal.returns-then-start-l
returns-then-start-l c =
    let a = c.args in
    numbered-plain a.l.now a.at _ c.field_start-start.ensures c.if-start-l.true _ _ _
    c.plain_number.ensures c.in-Some.is

pub returns : goal.returns
returns c =
    let a = c.args in
    numbered-none a.l.now a.at _ c.field_start-start.ensures c.if-start-l.false
