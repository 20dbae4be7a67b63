-- `read_text::all_low` meets its contract. Assumes nothing.
use mathlib.Core.Path.{◌≡◌}
use mathlib.Core.Bool.{false, cond}
use lib.ListN.{drop}
use Rattle.scope.specs.Reading.{all_low}
use Rattle.read_text.proofs.all_low.Given as goal

abbrev pub invariant-loop-b : goal.invariant-loop-b
invariant-loop-b l = cond l.low (all_low (drop l.b-index l.text)) false ≡ all_low l.text
