-- `read_runs::file_lines` meets its contract. Assumes nothing.
use native.Mathlib.Omega.{arith}
use mathlib.Core.Path.{sym, ap, ◌∙◌}
use lib.Seq.{length-take-le}
use Rattle.leaf_scans.proofs.LineLaws.{end-le, end_more}
use Rattle.table_rows.proofs.AfterLaws.{holds-words, holds-numbers}
use Rattle.read_steps.proofs.StepLaws.{sound}
use Rattle.read_steps.specs.declared.State.{State}
use Rattle.read_runs.proofs.FiledLaws.{end-inside}
use Rattle.read_runs.proofs.OnwardLaws.{fits, begin, came-to-end, not-data, stored, unstored}
use Rattle.read_runs.proofs.file_lines.Goals as goal

pub loop-t-init : goal.loop-t-init
loop-t-init c = begin 4 c.requires.0

pub slice_bounds-is_data-end : goal.slice_bounds-is_data-end
slice_bounds-is_data-end c =
    let e = c.line_ends-ends in
    let text = c.args.text.now in
    sym (length-take-le e.result.end text (end-le text _ _ c.loop-t-test.true e.ensures.0))

pub store_line-kept-requires : goal.store_line-kept-requires
store_line-kept-requires c =
    let g = c.loop-t.invariant in
    let z = c.line_ends-ends.ensures in
    (sound g.ready.stands, end-inside (fits g.ready c.loop-t-test.true) z.0 z.1)

pub moved-t-requires : goal.moved-t-requires
moved-t-requires c =
    let y = c.loop-t.invariant.ready in
    omega (arith, y.stands.line, c.loop-t-test.true, y.short)

pub loop-t-smaller : goal.loop-t-smaller
loop-t-smaller c =
    let line-ends = c.line_ends-ends in
    let args = c.args in
    let if1 = c.loop-t-test in
    let loop = c.loop-t in
    let e = line-ends in
    let text = args.text.now in
    let more = if1.true in
    let l = end_more text loop.t.at e.result.end more e.ensures.0 in
    omega (arith, more, ap (λ (t : State). t.at) c.moved-t.ensures, l)

pub loop-t-preserved : goal.loop-t-preserved
loop-t-preserved c =
    let pre = c.requires in
    let line-ends = c.line_ends-ends in
    let is-data = c.is_data in
    let if2 = c.if-is_data in
    let loop = c.loop-t in
    let if1 = c.loop-t-test in
    let Store-Line = c.store_line-kept in
    let q = pre in
    let z = line-ends.ensures in
    let d = sym is-data.ensures ∙ if2.true in
    let g = loop.invariant in
    let h = if1.true in
    stored g h z.0 q.1 q.2 q.3 z.1 d Store-Line.ensures c.in-Ok.is c.moved-t.ensures

pub shape_of-words-in-Err : goal.shape_of-words-in-Err
shape_of-words-in-Err c =
    let Store-Line = c.store_line-kept in
    let loop = c.loop-t in
    let pre = c.requires in
    Store-Line.auto.words
    ∙ holds-words loop.invariant.ready.stands.recs
    ∙ sym (holds-words pre.0.stands.recs)

pub shape_of-numbers-in-Err : goal.shape_of-numbers-in-Err
shape_of-numbers-in-Err c =
    let Store-Line = c.store_line-kept in
    let loop = c.loop-t in
    let pre = c.requires in
    Store-Line.auto.numbers
    ∙ holds-numbers loop.invariant.ready.stands.recs
    ∙ sym (holds-numbers pre.0.stands.recs)

pub returns-in-Err : goal.returns-in-Err
returns-in-Err c =
    let pre = c.requires in
    let line-ends = c.line_ends-ends in
    let is-data = c.is_data in
    let if2 = c.if-is_data in
    let loop = c.loop-t in
    let if1 = c.loop-t-test in
    let Store-Line = c.store_line-kept in
    let q = pre in
    let z = line-ends.ensures in
    let d = sym is-data.ensures ∙ if2.true in
    let g = loop.invariant in
    let h = if1.true in
    unstored g h z.0 q.1 q.2 q.3 z.1 d Store-Line.ensures c.in-Err.is

pub shape_of-words-else-is_data : goal.shape_of-words-else-is_data
shape_of-words-else-is_data c =
    let loop = c.loop-t in
    let pre = c.requires in
    holds-words loop.invariant.ready.stands.recs ∙ sym (holds-words pre.0.stands.recs)

pub shape_of-numbers-else-is_data : goal.shape_of-numbers-else-is_data
shape_of-numbers-else-is_data c =
    let loop = c.loop-t in
    let pre = c.requires in
    holds-numbers loop.invariant.ready.stands.recs ∙ sym (holds-numbers pre.0.stands.recs)

pub returns-else-is_data : goal.returns-else-is_data
returns-else-is_data c =
    let loop = c.loop-t in
    let if1 = c.loop-t-test in
    let line-ends = c.line_ends-ends in
    not-data loop.invariant if1.true line-ends.ensures.0 (sym c.is_data.ensures ∙ c.if-is_data.false)

pub shape_of-words : goal.shape_of-words
shape_of-words c = holds-words c.loop-t.invariant.ready.stands.recs ∙ sym (holds-words c.requires.0.stands.recs)

pub shape_of-numbers : goal.shape_of-numbers
shape_of-numbers c = holds-numbers c.loop-t.invariant.ready.stands.recs ∙ sym (holds-numbers c.requires.0.stands.recs)

pub returns : goal.returns
returns c = came-to-end c.loop-t.invariant c.loop-t-test.false
