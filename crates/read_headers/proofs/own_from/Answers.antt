-- `read_headers::own_from` meets its contract. Assumes nothing.
use mathlib.Core.Path.{refl, sym, ◌∙◌}
use native.Mathlib.Omega.{arith}
use Rattle.leaf_scans.proofs.LineLaws.{end-le, end_more}
use Rattle.read_headers.proofs.OwnLaws.{told-own, told-other, own-end, no_own}
use Rattle.read_headers.proofs.own_from.Goals as goal

pub loop-p-init : goal.loop-p-init
loop-p-init c = (refl, omega arith)

pub returns-then-own_by : goal.returns-then-own_by
returns-then-own_by c =
    let args = c.args in
    let loop = c.loop-p in
    let line-end = c.line_end-e in
    let cut = c.cut in
    let sort-of = c.sort_of-k in
    told-own args.text.now loop.p line-end.result (omega arith) line-end.ensures loop.section loop.invariant _ cut.result.now _
    cut.ensures sort-of.ensures c.own_by.ensures c.if-own_by.true

pub loop-p-smaller : goal.loop-p-smaller
loop-p-smaller c =
    let args = c.args in
    let loop = c.loop-p in
    let line-end = c.line_end-e in
    omega (arith, end_more args.text.now loop.p line-end.result (omega arith) line-end.ensures, end-le args.text.now loop.p line-end.result (omega arith) line-end.ensures)

pub loop-p-preserved : goal.loop-p-preserved
loop-p-preserved c =
    let args = c.args in
    let loop = c.loop-p in
    let line-end = c.line_end-e in
    let cut = c.cut in
    let sort-of = c.sort_of-k in
    let own-by = c.own_by in
    told-other args.text.now loop.p line-end.result (omega arith) line-end.ensures loop.section loop.invariant _ cut.result.now _
    cut.ensures sort-of.ensures own-by.ensures _ c.section_by-section.ensures c.if-own_by.false

pub returns : goal.returns
returns c = no_own (sym c.loop-p.invariant.0 ∙ own-end c.args.text.now c.loop-p.p c.loop-p.section (omega arith))
