-- `leaf_scans::line_end` meets its contract. Assumes nothing.
use Rattle.leaf_scans.proofs.LineLaws.{end-fed, end-last}
use Rattle.leaf_scans.proofs.line_end.Goals as goal

pub returns-then-e-text : goal.returns-then-e-text
returns-then-e-text c = end-fed c.args.text.now c.args.at _ c.find_either-e.ensures c.if-e-text.true

pub returns-else-e-text : goal.returns-else-e-text
returns-else-e-text c = end-last c.args.text.now c.args.at _ c.find_either-e.ensures c.if-e-text.false
