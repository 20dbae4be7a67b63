-- `table_keys::four_letters` meets its contract. Assumes nothing.
use native.Mathlib.Omega.{arith}
use Rattle.table_keys.proofs.PackLaws.{four-packed}
use Rattle.table_keys.proofs.four_letters.Goals as goal

pub overflow_cast-result : goal.overflow_cast-result
overflow_cast-result c = omega (arith, c.type_inv.b 0)

pub overflow_mul-result : goal.overflow_mul-result
overflow_mul-result c = omega (arith, c.type_inv.b 0)

pub overflow_cast-result-2 : goal.overflow_cast-result-2
overflow_cast-result-2 c = omega (arith, c.type_inv.b 1)

pub overflow_add-result : goal.overflow_add-result
overflow_add-result c = omega (arith, c.type_inv.b 0, c.type_inv.b 1)

pub overflow_mul-result-2 : goal.overflow_mul-result-2
overflow_mul-result-2 c = omega (arith, c.type_inv.b 0, c.type_inv.b 1)

pub overflow_cast-result-3 : goal.overflow_cast-result-3
overflow_cast-result-3 c = omega (arith, c.type_inv.b 2)

pub overflow_add-result-2 : goal.overflow_add-result-2
overflow_add-result-2 c = omega (arith, c.type_inv.b 0, c.type_inv.b 1, c.type_inv.b 2)

pub overflow_mul-result-3 : goal.overflow_mul-result-3
overflow_mul-result-3 c = omega (arith, c.type_inv.b 0, c.type_inv.b 1, c.type_inv.b 2)

pub overflow_cast-result-4 : goal.overflow_cast-result-4
overflow_cast-result-4 c = omega (arith, c.type_inv.b 3)

pub overflow_add-result-3 : goal.overflow_add-result-3
overflow_add-result-3 c = omega (arith, c.type_inv.b 0, c.type_inv.b 1, c.type_inv.b 2, c.type_inv.b 3)

pub returns : goal.returns
returns c = four-packed c.args.b.now c.requires
