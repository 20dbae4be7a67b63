-- `store_nodes::reservoir_line` meets its contract. Assumes nothing.
use Rattle.std.specs.Prelude.{Ok}
use mathlib.Core.Path.{refl, sym}
use lib.Seq.{length-take-le}
use Rattle.scope.specs.Nodes.{reservoir_step}
use Rattle.parse_fields.proofs.TakeLaws.{handed-on}
use Rattle.store_nodes.proofs.LineLaws.{node-text}
use Rattle.store_nodes.proofs.reservoir_line.Goals as goal

pub slice_bounds-read_reservoir-end : goal.slice_bounds-read_reservoir-end
slice_bounds-read_reservoir-end c = sym (length-take-le c.args.end c.args.text.now c.requires.1)

pub returns-in_err-line : goal.returns-in_err-line
unfolding reservoir_step
returns-in_err-line c = λ m h. rw (handed-on c.from_residual.ensures, c.in_err-line.ensures) (refl, refl, refl)

pub returns : goal.returns
unfolding reservoir_step
returns c =
    λ m h. let (is, fits) = node-text c.args.text.now c.args.end _ (Ok c.in_ok-line.line) c.in_ok-line.ensures in
    rw is (c.store_line.ensures fits m h)
