-- `store_curves::curve_line` meets its contract. Assumes nothing.
use Rattle.std.specs.Prelude.{Ok}
use mathlib.Core.Path.{refl, sym}
use lib.Seq.{length-take-le}
use Rattle.scope.specs.Series.{curve_step}
use Rattle.parse_fields.proofs.TakeLaws.{handed-on}
use Rattle.parse_pairs.proofs.TextLaws.{pair-text}
use Rattle.store_curves.proofs.curve_line.Goals as goal

pub slice_bounds-read_pair-end : goal.slice_bounds-read_pair-end
slice_bounds-read_pair-end c = sym (length-take-le c.args.end c.args.text.now c.requires.1)

pub returns-in_err-p : goal.returns-in_err-p
unfolding curve_step
returns-in_err-p c = λ m h. rw (handed-on c.from_residual.ensures, c.in_err-p.ensures) (refl, refl, refl)

pub store_point-requires : goal.store_point-requires
store_point-requires c = (c.requires.0, (pair-text c.args.text.now c.args.end _ (Ok c.in_ok-p.p) c.in_ok-p.ensures).1)

pub returns : goal.returns
unfolding curve_step
returns c =
    λ m h. rw (pair-text c.args.text.now c.args.end _ (Ok c.in_ok-p.p) c.in_ok-p.ensures).0 (c.store_point.ensures m h)
