-- `read_runs::join_lines` meets its contract. Assumes nothing.
use native.Mathlib.Omega.{arith}
use mathlib.Core.Path.{refl, sym, ap, ◌∙◌}
use lib.Seq.{length-take-le}
use Rattle.leaf_scans.proofs.LineLaws.{end-le, end_more}
use Rattle.read_steps.specs.declared.State.{State}
use Rattle.read_runs.proofs.OnwardLaws.{begin-joined, joined, left-joined}
use Rattle.read_runs.proofs.join_lines.Goals as goal

pub loop-t-init : goal.loop-t-init
loop-t-init c = begin-joined c.requires.0

pub slice_bounds-is_joined-end : goal.slice_bounds-is_joined-end
slice_bounds-is_joined-end c =
    let args = c.args in
    let if1 = c.loop-t-test in
    sym (length-take-le c.line_end-e.result args.text.now (end-le args.text.now _ _ if1.true c.line_end-e.ensures))

pub moved-t-requires : goal.moved-t-requires
moved-t-requires c =
    let loop = c.loop-t in
    let if1 = c.loop-t-test in
    let pre = c.requires in
    omega (arith, loop.invariant.line, if1.true, pre.1)

pub loop-t-smaller : goal.loop-t-smaller
loop-t-smaller c =
    let if1 = c.loop-t-test in
    let args = c.args in
    let loop = c.loop-t in
    let line-end = c.line_end-e in
    omega (arith, if1.true, ap (λ (t : State). t.at) c.moved-t.ensures, end_more args.text.now loop.t.at line-end.result if1.true line-end.ensures)

pub loop-t-preserved : goal.loop-t-preserved
loop-t-preserved c =
    let loop = c.loop-t in
    let if1 = c.loop-t-test in
    let line-end = c.line_end-e in
    let is-joined = c.is_joined in
    let if2 = c.if-is_joined in
    let pre = c.requires in
    joined loop.invariant if1.true pre.2 refl line-end.ensures (rw c.is_some.ensures at (sym is-joined.ensures ∙ if2.true)) c.moved-t.ensures

pub returns-else-is_joined : goal.returns-else-is_joined
returns-else-is_joined c = left-joined c.loop-t.invariant c.requires.2

pub returns : goal.returns
returns c = left-joined c.loop-t.invariant c.requires.2
