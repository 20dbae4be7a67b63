-- `table_find::walk_rows` meets its contract. Assumes nothing.
use Prim.Native.Nat.{◌<◌}
use native.Mathlib.Omega.{arith}
use Rattle.table_find.proofs.WalkLaws.{start-search, next-search, found-search, none-search}
use Rattle.table_find.proofs.walk_rows.Goals as goal

pub loop-i-init : goal.loop-i-init
loop-i-init c =
    start-search c.args.text.now c.args.words.now c.args.base c.args.stride c.args.count c.args.name.now c.args.from c.requires.3 c.requires.4

pub returns-then-row_is : goal.returns-then-row_is
returns-then-row_is c =
    let inside : c.loop-i.i < c.args.count = omega arith in
    found-search c.args.text.now c.args.words.now c.args.base c.args.stride c.args.count c.args.name.now c.loop-i.i
    c.loop-i.invariant c.row_is.result c.row_is.ensures (inside) c.if-row_is.true

pub loop-i-preserved : goal.loop-i-preserved
loop-i-preserved c =
    let inside : c.loop-i.i < c.args.count = omega arith in
    next-search c.args.text.now c.args.words.now c.args.base c.args.stride c.args.count c.args.name.now c.loop-i.i
    c.loop-i.invariant c.row_is.result c.row_is.ensures (inside) c.if-row_is.false

pub returns : goal.returns
returns c =
    none-search c.args.text.now c.args.words.now c.args.base c.args.stride c.args.count c.args.name.now c.loop-i.i c.loop-i.invariant (omega arith)
