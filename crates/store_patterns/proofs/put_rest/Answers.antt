-- `store_patterns::put_rest` meets its contract. Assumes nothing.
use native.Mathlib.Omega.{arith}
use mathlib.Core.Path.{sym}
use Rattle.leaf_fields.specs.Fields.{fields_at}
use Rattle.store_patterns.proofs.StoringLaws.{took_one, start-storing, turn, ended}
use Rattle.store_patterns.proofs.put_rest.Goals as goal

pub loop-x-init : goal.loop-x-init
loop-x-init c =
    start-storing (fields_at c.args.l.now c.args.at) c.args.k c.args.pattern c.args.words.now c.args.numbers.now c.requires.0
    c.requires.1 c.requires.2 c.requires.3 c.requires.4

pub loop-x-smaller : goal.loop-x-smaller
loop-x-smaller c = omega (arith, (took_one _ _ _ (sym c.in-Ok.ensures)).0)

pub loop-x-preserved : goal.loop-x-preserved
loop-x-preserved c = turn c.loop-x.invariant _ _ (sym c.in-Ok.ensures)

pub returns : goal.returns
returns c = λ xs e. ended c.loop-x.invariant c.in_default.field-0 (sym c.in_default.ensures) xs e
