-- `read_marks::count` meets its contract. Assumes nothing.
use native.Mathlib.Omega.{arith}
use native.Mathlib.Numerals.{add-one}
use Rattle.scope_lines.proofs.Marks.{count_at, count-end, count-le}
use Rattle.read_marks.proofs.count.Goals as goal

pub overflow_add-n : goal.overflow_add-n
overflow_add-n c =
    let a = c.args in
    omega (arith, count_at a.k a.xs.now c.loop-b.b-index c.loop-b-test.true, c.one-n.ensures, count-le a.k a.xs.now)

pub loop-b-preserved : goal.loop-b-preserved
loop-b-preserved c =
    let a = c.args in
    rw add-one (omega (arith, count_at a.k a.xs.now c.loop-b.b-index c.loop-b-test.true, c.one-n.ensures))

pub returns : goal.returns
returns c =
    let a = c.args in
    omega (arith, count-end a.k a.xs.now c.loop-b.b-index c.loop-b-test.false)
