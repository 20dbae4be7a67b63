-- `store_patterns::pattern_line` meets its contract. Assumes nothing.
use mathlib.Core.Path.{refl, sym}
use lib.Seq.{length-take-le}
use Rattle.scope.specs.Series.{pattern_step}
use Rattle.parse_fields.proofs.TakeLaws.{handed-on}
use Rattle.parse_fields.proofs.TextLaws.{fits-text}
use Rattle.store_patterns.proofs.LineLaws.{pattern-text}
use Rattle.store_patterns.proofs.pattern_line.Goals as goal

pub slice_bounds-line-end : goal.slice_bounds-line-end
slice_bounds-line-end c = sym (length-take-le c.args.end c.args.text.now c.requires.1)

pub returns-in_err-p : goal.returns-in_err-p
unfolding pattern_step
returns-in_err-p c = λ m h. rw (handed-on c.from_residual.ensures, c.in_err-p.ensures) (refl, refl, refl)

pub store_pattern-requires : goal.store_pattern-requires
store_pattern-requires c =
    let r = c.in_ok-p.ensures in (c.requires.0, fits-text c.args.text.now c.args.end c.in_ok-p.p.id r.fits, (r.values, r.read))

pub returns : goal.returns
unfolding pattern_step
returns c =
    λ m h. let r = c.in_ok-p.ensures in rw (pattern-text c.args.text.now c.args.end r.whole r.fits) (c.store_pattern.ensures m r.values h r.read)
