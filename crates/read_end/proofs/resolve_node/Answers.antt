-- `read_end::resolve_node` meets its contract. Assumes nothing.
use native.Mathlib.Omega.{arith}
use lib.ListN.{get_or}
use Rattle.scope.specs.Records.{no_node}
use Rattle.table_rows.specs.Holding.{pattern_in}
use Rattle.table_rows.proofs.HoldLaws.{count-patterns, bound-nodes}
use Rattle.table_rows.proofs.AfterLaws.{sound-words}
use Rattle.read_end.proofs.ResolveLaws.{node_kept, node-name, node-sits, node-set}
use Rattle.read_end.proofs.resolve_node.Goals as goal

pub bounds-words-row : goal.bounds-words-row
bounds-words-row c = omega (arith, c.requires.2, bound-nodes c.requires.1.holds, sound-words c.requires.1)

pub returns-then-words-row-ne-RESERVOIR : goal.returns-then-words-row-ne-RESERVOIR
returns-then-words-row-ne-RESERVOIR c = λ m f h. node_kept h c.args.k c.requires.2 c.if-words-row-ne-RESERVOIR.true

pub pattern_index-requires : goal.pattern_index-requires
pattern_index-requires c =
    let h = c.requires.1 in
    (h.m, h.holds.words, count-patterns h.holds, omega (arith, c.requires.2, bound-nodes h.holds, sound-words h))

pub bounds-words-row-2 : goal.bounds-words-row-2
bounds-words-row-2 c = omega (arith, c.requires.2, bound-nodes c.requires.1.holds, sound-words c.requires.1)

pub returns : goal.returns
returns c =
    λ m f h. node-set h c.args.k c.requires.2 c.if-words-row-ne-RESERVOIR.false _ (omega (arith, c.requires.2, bound-nodes c.requires.1.holds, sound-words c.requires.1))
    (c.pattern_index.ensures m (pattern_in (get_or m.nodes c.args.k no_node).kind) h.words (count-patterns h)
    (node-sits h c.args.k c.requires.2 c.if-words-row-ne-RESERVOIR.false) (node-name h c.args.k c.requires.2 c.if-words-row-ne-RESERVOIR.false))
