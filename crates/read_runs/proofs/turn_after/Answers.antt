-- `read_runs::turn_after` meets its contract. Assumes nothing.
use Rattle.read_runs.proofs.turn_after.Goals as goal

pub returns : goal.returns
returns c = rw c.moved.ensures (c.requires.1.refused c.in-Some.reason c.in-Some.end c.in-Some.is)
