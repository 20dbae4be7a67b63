-- `read_headers::is_plain` meets its contract. Assumes nothing.
use Rattle.std.proofs.Common.{arith}
use Rattle.read_headers.proofs.OwnLaws.{plain-nothing, plain-blank, plain-header, plain-rule, plain_other}
use Rattle.read_headers.proofs.is_plain.Goals as goal

pub returns-then-l-start : goal.returns-then-l-start
returns-then-l-start c =
    let a = c.args in
    plain-nothing a.l.now a.at _ c.field_start-start.ensures c.if-l-start.true

pub returns-in-59 : goal.returns-in-59
returns-in-59 c =
    let a = c.args in
    plain-blank a.l.now a.at _ c.field_start-start.ensures c.if-l-start.false c.in-59.is

pub returns-in-91 : goal.returns-in-91
returns-in-91 c =
    let a = c.args in
    plain-header a.l.now a.at _ c.field_start-start.ensures c.if-l-start.false c.in-91.is

pub returns-in-82 : goal.returns-in-82
returns-in-82 c =
    let a = c.args in
    plain-rule a.l.now a.at _ c.field_start-start.ensures c.if-l-start.false c.in-82.is

pub returns-in_default : goal.returns-in_default
returns-in_default c =
    let a = c.args in
    plain_other a.l.now a.at _ c.field_start-start.ensures c.if-l-start.false (omega arith) (omega arith) (omega arith)
