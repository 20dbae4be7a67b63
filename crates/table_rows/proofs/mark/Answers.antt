-- `table_rows::mark` meets its contract. Assumes nothing.
use Prim.Native.Nat.{◌+◌}
use Rattle.table_rows.proofs.SlotLaws.{mark-free, mark-taken}
use Rattle.table_rows.proofs.mark.Goals as goal

pub returns-then-words-at-eq0 : goal.returns-then-words-at-eq0
returns-then-words-at-eq0 c = mark-free c.args.words.now c.args.at (c.args.i + 1) c.if-words-at-eq0.true

pub returns-else-words-at-eq0 : goal.returns-else-words-at-eq0
returns-else-words-at-eq0 c = mark-taken c.args.words.now c.args.at (c.args.i + 1) c.if-words-at-eq0.false
