-- `store_places::emitter_line` meets its contract. Assumes nothing.
use mathlib.Core.Path.{refl, sym}
use Rattle.std.specs.Prelude.{Ok}
use lib.Seq.{length-take-le}
use Rattle.scope.specs.Nodes.{emitter_step}
use Rattle.parse_fields.proofs.TakeLaws.{handed-on}
use Rattle.parse_pairs.proofs.TextLaws.{emitter-text}
use Rattle.store_places.proofs.emitter_line.Goals as goal

pub slice_bounds-read_emitter-end : goal.slice_bounds-read_emitter-end
slice_bounds-read_emitter-end c = sym (length-take-le c.args.end c.args.text.now c.requires.1)

pub returns-in_err-e : goal.returns-in_err-e
unfolding emitter_step
returns-in_err-e c = λ m h. rw (handed-on c.from_residual.ensures, c.in_err-e.ensures) (refl, refl, refl)

pub returns : goal.returns
unfolding emitter_step
returns c =
    λ m h. rw (emitter-text c.args.text.now c.args.end _ (Ok c.in_ok-e.e) c.in_ok-e.ensures).0 (c.store_emitter.ensures m h)
