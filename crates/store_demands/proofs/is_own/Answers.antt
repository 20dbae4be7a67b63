-- `store_demands::is_own` meets its contract. Assumes nothing.
use native.Mathlib.Omega.{arith}
use Rattle.store_demands.proofs.DemandLaws.{same-node, other-node}
use Rattle.store_demands.proofs.is_own.Goals as goal

pub overflow_mul-row : goal.overflow_mul-row
overflow_mul-row c = omega (arith, c.requires.0, c.requires.1)

pub overflow_add-row : goal.overflow_add-row
overflow_add-row c = omega (arith, c.requires.0, c.requires.1)

pub overflow_add-row-2 : goal.overflow_add-row-2
overflow_add-row-2 c = omega (arith, c.requires.0, c.requires.1)

pub offset_bounds-words-row : goal.offset_bounds-words-row
offset_bounds-words-row c = omega (arith, c.requires.0, c.requires.1)

pub bounds-words-row : goal.bounds-words-row
bounds-words-row c = omega (arith, c.requires.0, c.requires.1)

pub overflow_add-result : goal.overflow_add-result
overflow_add-result c = omega (arith, c.requires.0, c.requires.1)

pub offset_bounds-words-row-then-words-row : goal.offset_bounds-words-row-then-words-row
offset_bounds-words-row-then-words-row c = omega (arith, c.requires.0, c.requires.1)

pub bounds-words-row-then-words-row : goal.bounds-words-row-then-words-row
bounds-words-row-then-words-row c = omega (arith, c.requires.0, c.requires.1)

pub returns-then-words-row : goal.returns-then-words-row
returns-then-words-row c = λ text m hw hk. same-node hw c.args.k c.args.node hk c.if-words-row.true

pub returns : goal.returns
returns c = λ text m hw hk. other-node hw c.args.k c.args.node hk c.if-words-row.false
