-- `leaf_clock::before_colon` meets its contract. Assumes nothing.
use Rattle.std.proofs.Common.{arith}
use Rattle.leaf_clock.proofs.Colon.{colon-le}
use Rattle.leaf_clock.proofs.Parts.{start-length}
use Rattle.leaf_clock.proofs.before_colon.Goals as goal

pub slice_bounds-result-end : goal.slice_bounds-result-end
slice_bounds-result-end c = start-length c.args.s.now _ (omega (arith, c.colon_at.ensures, colon-le c.args.s.now))
