-- `store_nodes::junction_line` meets its contract. Assumes nothing.
use Rattle.std.specs.Prelude.{Ok}
use mathlib.Core.Path.{refl, sym}
use lib.Seq.{length-take-le}
use Rattle.scope.specs.Nodes.{junction_step}
use Rattle.parse_fields.proofs.TakeLaws.{handed-on}
use Rattle.store_nodes.proofs.LineLaws.{junction-text}
use Rattle.store_nodes.proofs.junction_line.Goals as goal

pub slice_bounds-read_junction-end : goal.slice_bounds-read_junction-end
slice_bounds-read_junction-end c = sym (length-take-le c.args.end c.args.text.now c.requires.1)

pub returns-in_err-j : goal.returns-in_err-j
unfolding junction_step
returns-in_err-j c = λ m h. rw (handed-on c.from_residual.ensures, c.in_err-j.ensures) (refl, refl, refl)

pub returns : goal.returns
unfolding junction_step
returns c =
    λ m h. let (is, fits) = junction-text c.args.text.now c.args.end _ (Ok c.in_ok-j.j) c.in_ok-j.ensures in
    rw is (c.store_junction.ensures fits.0 fits.1 m h)
