-- `leaf_letters::cut` meets its contract. Assumes nothing.
use Rattle.leaf_letters.proofs.CutLaws.{cut_out, cut-rest, cut-part}
use Rattle.leaf_letters.proofs.cut.Goals as goal

pub returns-then-len-at : goal.returns-then-len-at
returns-then-len-at c = let a = c.args in cut_out a.text.now a.at a.n c.if-len-at.true

pub returns-then-len-at-2 : goal.returns-then-len-at-2
returns-then-len-at-2 c = let a = c.args in cut-rest a.text.now a.at a.n c.if-len-at-2.true

pub returns : goal.returns
returns c = let a = c.args in cut-part a.text.now a.at a.n
