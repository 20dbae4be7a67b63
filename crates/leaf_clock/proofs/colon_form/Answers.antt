-- `leaf_clock::colon_form` meets its contract. Assumes nothing.
use Rattle.std.proofs.Common.{sym, ap, ◌∙◌, arith}
use Rattle.std.specs.Prelude.{Err}
use Rattle.std.proofs.lemmas.Result.{err_from_is_err_and}
use Rattle.leaf_clock.proofs.Colon.{hour-le, no-hours, no-minutes, both}
use Rattle.leaf_clock.proofs.colon_form.Goals as goal

pub returns-in_err-h : goal.returns-in_err-h
returns-in_err-h c =
    let (e, is, q) = err_from_is_err_and c.from_residual.result c.from_residual.ensures.1 in
    is ∙ ap Err q ∙ no-hours _ _ _ _ (sym c.read_part.ensures.value ∙ c.in_err-h.was)

pub returns-in_err-m : goal.returns-in_err-m
returns-in_err-m c =
    let (e, is, q) = err_from_is_err_and c.from_residual-in_err-m.result c.from_residual-in_err-m.ensures.1 in
    is ∙ ap Err q ∙ no-minutes _ _ _ _ (sym c.read_part.ensures.value ∙ c.in_ok-h.was) _ (sym c.read_part-2.ensures.value ∙ c.in_err-m.was)

pub overflow_mul-result : goal.overflow_mul-result
overflow_mul-result c =
    omega (arith, c.hour_of.ensures, hour-le c.in_ok-h.h c.args.suffix.now, c.in_ok-h.ensures.most)

pub overflow_add-result : goal.overflow_add-result
overflow_add-result c =
    omega (arith, c.hour_of.ensures, hour-le c.in_ok-h.h c.args.suffix.now, c.in_ok-h.ensures.most, c.in_ok-m.ensures.most)

pub returns : goal.returns
returns c =
    both _ _ _ _ (sym c.read_part.ensures.value ∙ c.in_ok-h.was) _ (sym c.read_part-2.ensures.value ∙ c.in_ok-m.was) _ c.hour_of.ensures
