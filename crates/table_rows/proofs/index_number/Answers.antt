-- `table_rows::index_number` meets its contract. Assumes nothing.
use Rattle.std.specs.Prelude.{Option, ℕ}
use native.Mathlib.Omega.{arith}
use native.Mathlib.Numerals.{add-one}
use mathlib.Core.Path.{subst}
use Rattle.table_rows.specs.Holding.{Below}
use Rattle.table_rows.proofs.index_number.Goals as goal

pub overflow_add-result : goal.overflow_add-result
overflow_add-result c = omega (arith, subst (λ (x : Option ℕ). Below 65536 x) c.in-Some.is c.requires)

pub returns-in-Some : goal.returns-in-Some
returns-in-Some c = rw (c.in-Some.is, add-one)
