-- `leaf_scans::line_ends` meets its contract. Assumes nothing.
use Rattle.leaf_scans.proofs.line_ends.Goals as goal

pub returns : goal.returns
returns c = c.ends_from.ensures _ c.line_stop.ensures
