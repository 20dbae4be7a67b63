-- `parse_series::count_multipliers` meets its contract. Assumes nothing.
use native.Mathlib.Omega.{arith}
use mathlib.Core.Path.{sym, ◌∙◌}
use Rattle.leaf_fields.specs.Fields.{fields_at}
use Rattle.parse_fields.proofs.TakeLaws.{handed-on}
use Rattle.parse_series.proofs.PatternLaws.{start-going, keep-going, pass-going, less-going, done-going, bad-going, line-le}
use Rattle.parse_series.proofs.count_multipliers.Goals as goal
use Rattle.parse_series.proofs.count_multipliers.Goals.{then-n-first, else-n-first}

pub loop-number-init : goal.loop-number-init
loop-number-init c = start-going (fields_at c.args.l.now c.args.at) c.args.first.now

pub returns-in_err-x : goal.returns-in_err-x
returns-in_err-x c =
    let (f, k, q) = c.in-Some.ensures in
    rw (handed-on c.from_residual.ensures) (bad-going c.loop-number.invariant _ f _ _ k (sym q ∙ c.in_err-x.was))

pub overflow_add-n : goal.overflow_add-n
overflow_add-n c =
    let (f, k, q) = c.in-Some.ensures in
    let less = less-going c.loop-number.invariant _ f _ _ k (sym q ∙ c.in_ok-x.was) in
    omega (arith, less, c.loop-number.invariant.fewer, line-le c.args.l.now c.args.at)

pub loop-number-preserved : goal.loop-number-preserved
loop-number-preserved c =
    let (f, k, q) = c.in-Some.ensures in
    let g = c.loop-number.invariant in
    let is = sym q ∙ c.in_ok-x.was in
    elim c.if-n-first.branch [
      | then-n-first w ↦ rw (w.first-is, w.rest-is) (keep-going g _ f _ _ k is (omega (arith, w.if-n-first.true, g.room)))
      | else-n-first w ↦ rw (w.first-is, w.rest-is) (pass-going g _ f _ _ k is (omega (arith, w.if-n-first.false, g.room)))
    ]

pub returns : goal.returns
returns c = done-going c.args.l.now c.loop-number.rest c.loop-number.invariant c.in_default.ensures
