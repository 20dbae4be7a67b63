-- `leaf_words::find_near` meets its contract. Assumes nothing.
use Rattle.std.proofs.Common.{add-one, arith}
use Rattle.leaf_words.proofs.ScanLaws.{clear-on, clear_first, clear_second, clear-end}
use Rattle.leaf_words.proofs.find_near.Goals as goal
use Rattle.leaf_words.proofs.find_near.Goals.{then-text-i-via-then-text-i, then-text-i-via-else-text-i+then-text-i-2}

pub returns-then-text-i : goal.returns-then-text-i
returns-then-text-i c =
    let a = c.args in
    elim c.then-text-i.branch [
      | then-text-i-via-then-text-i w ↦ omega (arith, clear_first a.a a.b a.text.now c.loop-i.i c.loop-i-test.true w.if-text-i.true)
      | then-text-i-via-else-text-i+then-text-i-2 w ↦ omega (arith, clear_second a.a a.b a.text.now c.loop-i.i c.loop-i-test.true w.if-text-i-2.true)
    ]

pub loop-i-preserved : goal.loop-i-preserved
loop-i-preserved c =
    let a = c.args in
    (omega arith, rw add-one (omega (arith, clear-on a.a a.b a.text.now c.loop-i.i c.loop-i-test.true c.if-text-i.false c.if-text-i-2.false)))

pub returns : goal.returns
returns c =
    let a = c.args in
    omega (arith, clear-end a.a a.b a.text.now c.loop-i.i c.loop-i-test.false)
