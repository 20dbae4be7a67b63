-- `table_keys::eight_letters` meets its contract. Assumes nothing.
use native.Mathlib.Omega.{arith}
use lib.ListN.{length-take}
use Rattle.table_keys.proofs.KeyLaws.{Bytes}
use Rattle.table_keys.proofs.PackLaws.{first_fits, last_fits, eight-packed}
use Rattle.table_keys.proofs.eight_letters.Goals as goal

pub slice_bounds-four_letters-end : goal.slice_bounds-four_letters-end
slice_bounds-four_letters-end c = omega (arith, length-take 4 c.args.b.now, c.requires)

pub four_letters-requires : goal.four_letters-requires
four_letters-requires c = omega (arith, length-take 4 c.args.b.now, c.requires)

pub overflow_mul-result : goal.overflow_mul-result
overflow_mul-result c =
    omega (arith, first_fits c.args.b.now c.requires (λ i. (c.type_inv.b i).fits) _ c.four_letters.ensures)

pub overflow_add-result : goal.overflow_add-result
overflow_add-result c =
    let h : Bytes c.args.b.now = λ i. (c.type_inv.b i).fits in
    omega (
      arith,
      first_fits c.args.b.now c.requires h _ c.four_letters.ensures,
      last_fits c.args.b.now c.requires h _ c.four_letters-2.ensures,
    )

pub returns : goal.returns
returns c =
    eight-packed c.args.b.now c.requires (λ i. (c.type_inv.b i).fits) _ c.four_letters-2.ensures _ c.four_letters.ensures
