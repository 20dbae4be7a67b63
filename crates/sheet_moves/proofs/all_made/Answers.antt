-- `sheet_moves::all_made` meets its contract. Assumes nothing.
use native.Mathlib.Omega.{arith}
use mathlib.Core.Path.{◌∙◌}
use Rattle.sheet_moves.proofs.MovesLaws.{made_none, made-next, made_all}
use Rattle.sheet_moves.proofs.all_made.Goals as goal

pub loop-i-init : goal.loop-i-init
loop-i-init c = record { upper_bound = omega arith; value = λ m t. made_none m }

pub loop-i-preserved : goal.loop-i-preserved
loop-i-preserved c = record {
  upper_bound = omega arith;
  value = λ m t. made-next m c.loop-i.i (c.loop-i.invariant.value m t) (c.link_made-n.ensures.value m t);
}

pub returns : goal.returns
returns c = λ m t. c.loop-i.invariant.value m t ∙ made_all m (omega (arith, c.link_count-i-end.ensures.value m c.args.stored.numbers.now t))
