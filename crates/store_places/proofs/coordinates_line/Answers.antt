-- `store_places::coordinates_line` meets its contract. Assumes nothing.
use mathlib.Core.Path.{refl, sym}
use Rattle.std.specs.Prelude.{Ok}
use lib.Seq.{length-take-le}
use Rattle.scope.specs.Nodes.{coordinates_step}
use Rattle.parse_fields.proofs.TakeLaws.{handed-on}
use Rattle.parse_pairs.proofs.TextLaws.{pair-text}
use Rattle.store_places.proofs.coordinates_line.Goals as goal

pub slice_bounds-read_pair-end : goal.slice_bounds-read_pair-end
slice_bounds-read_pair-end c = sym (length-take-le c.args.end c.args.text.now c.requires.1)

pub returns-in_err-p : goal.returns-in_err-p
unfolding coordinates_step
returns-in_err-p c = λ m h. rw (handed-on c.from_residual.ensures, c.in_err-p.ensures) (refl, refl, refl)

pub returns : goal.returns
unfolding coordinates_step
returns c =
    λ m h. rw (pair-text c.args.text.now c.args.end _ (Ok c.in_ok-p.p) c.in_ok-p.ensures).0 (c.store_coordinates.ensures m h)
