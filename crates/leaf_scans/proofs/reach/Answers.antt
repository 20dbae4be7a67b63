-- `leaf_scans::reach` meets its contract. Assumes nothing.
use native.Mathlib.Omega.{arith}
use native.Mathlib.Numerals.{add-one}
use mathlib.Core.Path.{refl, sym, ◌∙◌}
use Rattle.leaf_scans.proofs.ScanLaws.{span-on, span-off, span-end}
use Rattle.leaf_scans.proofs.reach.Goals as goal

pub loop-i-init : goal.loop-i-init
loop-i-init c = refl

pub bounds-l-i : goal.bounds-l-i
bounds-l-i c = omega arith

pub overflow_add-i : goal.overflow_add-i
overflow_add-i c = omega arith

pub loop-i-smaller : goal.loop-i-smaller
loop-i-smaller c = omega arith

pub loop-i-preserved : goal.loop-i-preserved
loop-i-preserved c =
    let a = c.args in
    rw add-one (omega (arith, span-on a.k a.l.now c.loop-i.i c.loop-i-test.true (sym c.is_kind-ok.ensures ∙ c.if-ok.true)))

pub returns-else-ok : goal.returns-else-ok
returns-else-ok c =
    let a = c.args in
    omega (arith, span-off a.k a.l.now c.loop-i.i c.loop-i-test.true (sym c.is_kind-ok.ensures ∙ c.if-ok.false))

pub returns : goal.returns
returns c =
    let a = c.args in
    omega (arith, span-end a.k a.l.now c.loop-i.i c.loop-i-test.false)
