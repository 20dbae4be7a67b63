-- `read_marks::counts_of` meets its contract. Assumes nothing.
use mathlib.Core.Path.{◌∙◌, ap}
use Rattle.read_marks.specs.Counted.{counted}
use Rattle.scope_lines.specs.Tables.{count_in}
use Rattle.read_marks.proofs.counts_of.Goals as goal

pub returns : goal.returns
unfolding counted
returns c =
    let e = c.cut-xs.ensures in
    rw (
      c.count.ensures ∙ ap (count_in 1) e,
      c.count-2.ensures ∙ ap (count_in 2) e,
      c.count-3.ensures ∙ ap (count_in 3) e,
      c.count-4.ensures ∙ ap (count_in 4) e,
      c.count-5.ensures ∙ ap (count_in 5) e,
      c.count-6.ensures ∙ ap (count_in 6) e,
      c.count-7.ensures ∙ ap (count_in 7) e,
      c.count-8.ensures ∙ ap (count_in 8) e,
    )
