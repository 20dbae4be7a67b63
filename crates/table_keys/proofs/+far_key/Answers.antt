-- `table_keys::far_key` meets its contract: it calls itself with a letter less. Assumes nothing.
use Rattle.std.proofs.Common.{◌-◌, arith}
use Rattle.table_keys.proofs.PackLaws.{far_none, far-next, far-fits}
use Rattle.table_keys.proofs.+far_key.Goals as goal

pub returns-then-n-eq0 : goal.returns-then-n-eq0
returns-then-n-eq0 t c = far_none c.args.l.now _ c.if-n-eq0.true

pub overflow_mul-result : goal.overflow_mul-result
overflow_mul-result t c =
    omega (arith, far-fits c.args.l.now (c.args.n - 1) _ (λ i. (c.type_inv.l i).fits) (omega arith) c.far_key.ensures)

pub overflow_add-result : goal.overflow_add-result
overflow_add-result t c =
    omega (
      arith,
      far-fits c.args.l.now (c.args.n - 1) _ (λ i. (c.type_inv.l i).fits) (omega arith) c.far_key.ensures,
      c.type_inv.l (c.args.n - 1),
    )

pub returns : goal.returns
returns t c = far-next c.args.l.now c.args.n _ c.if-n-eq0.false (omega arith) c.far_key.ensures
