-- `read_steps::step` meets its contract. Assumes nothing.
use mathlib.Core.Path.{sym, ap, ◌∙◌}
use lib.Seq.{length-take-le}
use Rattle.leaf_scans.proofs.LineLaws.{end-le}
use Rattle.read_headers.specs.Own.{is_data}
use Rattle.read_steps.proofs.WayLaws.{sort-here}
use Rattle.read_steps.proofs.step.Goals as goal

pub slice_bounds-sort_of-end : goal.slice_bounds-sort_of-end
slice_bounds-sort_of-end c =
    let args = c.args in
    let pre = c.requires in
    let a = args in
    sym (length-take-le c.line_end-e.result a.text.now (end-le a.text.now a.s.at c.line_end-e.result pre.0.more c.line_end-e.ensures))

pub take_turn-requires : goal.take_turn-requires
take_turn-requires c =
    let q = c.requires in
    let k = sort-here q.0 c.line_end-e.ensures c.sort_of-k.ensures in
    (q.0, c.line_end-e.ensures, k, λ d. q.1 (ap is_data k ∙ d))
