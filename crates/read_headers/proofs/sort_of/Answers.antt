-- `read_headers::sort_of` meets its contract. Assumes nothing.
use Rattle.std.proofs.Common.{arith}
use Rattle.read_headers.proofs.OwnLaws.{sort-nothing, sort-blank, sort-header, sort-rule, sort-other}
use Rattle.read_headers.proofs.sort_of.Goals as goal

pub returns-then-l-start : goal.returns-then-l-start
returns-then-l-start c =
    let a = c.args in
    sort-nothing a.l.now a.at _ c.field_start-start.ensures c.if-l-start.true

pub returns-in-59 : goal.returns-in-59
returns-in-59 c =
    let a = c.args in
    sort-blank a.l.now a.at _ c.field_start-start.ensures c.if-l-start.false c.in-59.is

pub returns-in-91 : goal.returns-in-91
returns-in-91 c =
    let a = c.args in
    sort-header a.l.now a.at _ c.field_start-start.ensures c.if-l-start.false c.in-91.is _ c.trimmed.ensures _ c.section_of.ensures

pub returns-in-82 : goal.returns-in-82
returns-in-82 c =
    let a = c.args in
    sort-rule a.l.now a.at _ c.field_start-start.ensures c.if-l-start.false c.in-82.is _ c.plain_sort.ensures

pub returns-in_default : goal.returns-in_default
returns-in_default c =
    let a = c.args in
    sort-other a.l.now a.at _ c.field_start-start.ensures c.if-l-start.false (omega arith) (omega arith) (omega arith)
