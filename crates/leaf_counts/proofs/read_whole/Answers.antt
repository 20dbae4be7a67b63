-- `leaf_counts::read_whole` meets its contract. Assumes nothing.
use mathlib.Core.Path.{sym, ap, ◌∙◌}
use Prim.Native.Nat.{ℕ, ◌+◌}
use native.Mathlib.Omega.{arith}
use lib.ListN.{drop}
use borrow.Author.Tests.{eqb-true, eqb-false}
use Rattle.leaf_counts.proofs.Counts.{from, from_more, from-none, from_end, whole-nil, whole-start}
use Rattle.leaf_counts.proofs.read_whole.Goals as goal

pub returns-then-is_empty : goal.returns-then-is_empty
returns-then-is_empty c = sym (whole-nil _ (eqb-true _ 0 (sym c.is_empty.ensures ∙ c.if-is_empty.true)))

pub loop-b-init : goal.loop-b-init
loop-b-init c = let n = eqb-false _ 0 (sym c.is_empty.ensures ∙ c.if-is_empty.false) in (omega arith, whole-start c.args.s.now (omega (arith, n)))

pub returns-in_err-v : goal.returns-in_err-v
returns-in_err-v c = c.from_residual.ensures ∙ sym (from-none _ c.loop-b.b-index _ c.loop-b-test.true c.in_err-v.ensures) ∙ c.loop-b.invariant.1

pub loop-b-preserved : goal.loop-b-preserved
loop-b-preserved c =
    let k = c.in_ok-v.ensures in
    (omega (arith, k), ap (λ (x : ℕ). from x (drop (c.loop-b.b-index + 1) c.args.s.now)) k.1 ∙ sym (from_more _ c.loop-b.b-index _ c.loop-b-test.true k.0.0) ∙ c.loop-b.invariant.1)

pub returns : goal.returns
returns c = sym (from_end _ c.loop-b.b-index _ c.loop-b-test.false c.loop-b.invariant.0) ∙ c.loop-b.invariant.1
