-- `leaf_clock::whole_part` meets its contract. Assumes nothing.
use Rattle.std.proofs.Common.{◌∙◌}
use Rattle.leaf_clock.proofs.Cut.{cut-is}
use Rattle.leaf_clock.proofs.whole_part.Goals as goal

pub returns : goal.returns
returns c = c.saturating_f64_to_u64.ensures ∙ cut-is _
