-- `leaf_decimals::power_of_ten` meets its contract. Assumes nothing.
use mathlib.Core.Path.{◌≡◌, sym, ap, ◌∙◌}
use native.Mathlib.Omega.{arith}
use Rattle.leaf_decimals.specs.Reach.{ten}
use Rattle.leaf_decimals.proofs.Tens.{tens-at}
use Rattle.leaf_decimals.proofs.power_of_ten.Goals as goal

pub returns-in-1 : goal.returns-in-1
returns-in-1 c = tens-at 1 (omega arith) ∙ sym (ap ten c.in-1.is)

pub returns-in-2 : goal.returns-in-2
returns-in-2 c = tens-at 2 (omega arith) ∙ sym (ap ten c.in-2.is)

pub returns-in-3 : goal.returns-in-3
returns-in-3 c = tens-at 3 (omega arith) ∙ sym (ap ten c.in-3.is)

pub returns-in-4 : goal.returns-in-4
returns-in-4 c = tens-at 4 (omega arith) ∙ sym (ap ten c.in-4.is)

pub returns-in-5 : goal.returns-in-5
returns-in-5 c = tens-at 5 (omega arith) ∙ sym (ap ten c.in-5.is)

pub returns-in-6 : goal.returns-in-6
returns-in-6 c = tens-at 6 (omega arith) ∙ sym (ap ten c.in-6.is)

pub returns-in-7 : goal.returns-in-7
returns-in-7 c = tens-at 7 (omega arith) ∙ sym (ap ten c.in-7.is)

pub returns-in-8 : goal.returns-in-8
returns-in-8 c = tens-at 8 (omega arith) ∙ sym (ap ten c.in-8.is)

pub returns-in-9 : goal.returns-in-9
returns-in-9 c = tens-at 9 (omega arith) ∙ sym (ap ten c.in-9.is)

pub returns-in-10 : goal.returns-in-10
returns-in-10 c = tens-at 10 (omega arith) ∙ sym (ap ten c.in-10.is)

pub returns-in-11 : goal.returns-in-11
returns-in-11 c = tens-at 11 (omega arith) ∙ sym (ap ten c.in-11.is)

pub returns-in-12 : goal.returns-in-12
returns-in-12 c = tens-at 12 (omega arith) ∙ sym (ap ten c.in-12.is)

pub returns-in-13 : goal.returns-in-13
returns-in-13 c = tens-at 13 (omega arith) ∙ sym (ap ten c.in-13.is)

pub returns-in-14 : goal.returns-in-14
returns-in-14 c = tens-at 14 (omega arith) ∙ sym (ap ten c.in-14.is)

pub returns-in-15 : goal.returns-in-15
returns-in-15 c = tens-at 15 (omega arith) ∙ sym (ap ten c.in-15.is)

pub returns-in-16 : goal.returns-in-16
returns-in-16 c = tens-at 16 (omega arith) ∙ sym (ap ten c.in-16.is)

pub returns-in-17 : goal.returns-in-17
returns-in-17 c = tens-at 17 (omega arith) ∙ sym (ap ten c.in-17.is)

pub returns-in-18 : goal.returns-in-18
returns-in-18 c = tens-at 18 (omega arith) ∙ sym (ap ten c.in-18.is)

pub returns-in-19 : goal.returns-in-19
returns-in-19 c = tens-at 19 (omega arith) ∙ sym (ap ten c.in-19.is)

pub returns-in-20 : goal.returns-in-20
returns-in-20 c = tens-at 20 (omega arith) ∙ sym (ap ten c.in-20.is)

pub returns-in-21 : goal.returns-in-21
returns-in-21 c = tens-at 21 (omega arith) ∙ sym (ap ten c.in-21.is)

pub returns-in-22 : goal.returns-in-22
returns-in-22 c = tens-at 22 (omega arith) ∙ sym (ap ten c.in-22.is)

pub returns-in_default : goal.returns-in_default
returns-in_default c =
    let e : c.args.k ≡ 0 = omega arith in
    tens-at 0 (omega arith) ∙ sym (ap ten e)
