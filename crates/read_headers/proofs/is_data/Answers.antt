-- `read_headers::is_data` meets its contract. Assumes nothing.
use Rattle.std.proofs.Common.{arith}
use Rattle.read_headers.proofs.OwnLaws.{data-nothing, data-blank, data-header, data-other}
use Rattle.read_headers.proofs.is_data.Goals as goal

pub returns-then-l-start : goal.returns-then-l-start
returns-then-l-start c =
    let a = c.args in
    data-nothing a.l.now a.at _ c.field_start-start.ensures c.if-l-start.true

pub returns-in-59 : goal.returns-in-59
returns-in-59 c =
    let a = c.args in
    data-blank a.l.now a.at _ c.field_start-start.ensures c.if-l-start.false c.in-59.is

pub returns-in-91 : goal.returns-in-91
returns-in-91 c =
    let a = c.args in
    data-header a.l.now a.at _ c.field_start-start.ensures c.if-l-start.false c.in-91.is

pub returns-in_default : goal.returns-in_default
returns-in_default c =
    let a = c.args in
    data-other a.l.now a.at _ c.field_start-start.ensures c.if-l-start.false (omega arith) (omega arith)
