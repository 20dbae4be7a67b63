-- `leaf_scans::trimmed` meets its contract. Assumes nothing.
use mathlib.Core.Path.{◌∙◌}
use native.Mathlib.Omega.{arith}
use Rattle.leaf_scans.specs.declared.Kind.TheVariants.{Space}
use Rattle.leaf_scans.proofs.LineLaws.{trim-from}
use Rattle.leaf_scans.proofs.ScanLaws.{span-le}
use Rattle.leaf_scans.proofs.trimmed.Goals as goal

pub slice_bounds-trim_end-count : goal.slice_bounds-trim_end-count
slice_bounds-trim_end-count c = omega (arith, span-le Space c.args.l.now)

pub slice_bounds-trim_end-start : goal.slice_bounds-trim_end-start
slice_bounds-trim_end-start c = omega (arith, span-le Space c.args.l.now)

pub returns : goal.returns
returns c = c.trim_end.ensures ∙ trim-from _ _ c.reach.ensures
