-- `leaf_clock::read_time` meets its contract. Assumes nothing.
use Rattle.std.specs.Prelude.{Ok, Err}
use Rattle.std.proofs.Common.{sym, ap, ◌∙◌, arith}
use Rattle.std.proofs.lemmas.Result.{err_from_is_err_and}
use Rattle.leaf_clock.proofs.Products.{by-nearest}
use Rattle.leaf_clock.proofs.Times.{with-colon, with_number, unit-none, unit-some}
use Rattle.leaf_clock.proofs.read_time.Goals as goal

pub returns-then-at-time : goal.returns-then-at-time
returns-then-at-time c =
    let a = c.args in
    let p = by-nearest a.time.now a.unit.now c.colon_form.result (with-colon a.time.now a.unit.now _ c.colon_at-at.ensures _ c.if-at-time.true _ c.before_colon.ensures c.colon_form.ensures) in
    record { value = p.0; nearest = p.1 }

pub returns-in_err-x : goal.returns-in_err-x
returns-in_err-x c =
    let a = c.args in
    let (e, is, q) = err_from_is_err_and c.from_residual.result c.from_residual.ensures.1 in
    let p = by-nearest a.time.now a.unit.now c.from_residual.result
    (with_number a.time.now a.unit.now _ c.colon_at-at.ensures _ c.if-at-time.false _ (sym c.in_err-x.was ∙ c.read_number.ensures.value) (is ∙ ap Err q)) in
    record { value = p.0; nearest = p.1 }

pub returns-in_err-unit : goal.returns-in_err-unit
returns-in_err-unit c =
    let a = c.args in
    let (e, is, q) = err_from_is_err_and c.from_residual-in_err-unit.result c.from_residual-in_err-unit.ensures.1 in
    let none = unit-none c.in_ok-x.x _ _ (rw c.unit_of.ensures at (sym c.ok_or.ensures.value ∙ c.in_err-unit.was)) in
    let p = by-nearest a.time.now a.unit.now c.from_residual-in_err-unit.result
    (with_number a.time.now a.unit.now _ c.colon_at-at.ensures _ c.if-at-time.false _ (sym c.in_ok-x.was ∙ c.read_number.ensures.value) (is ∙ ap Err q ∙ none)) in
    record { value = p.0; nearest = p.1 }

pub returns : goal.returns
returns c =
    let a = c.args in
    let some = unit-some c.in_ok-x.x _ _ (rw c.unit_of.ensures at (sym c.ok_or.ensures.value ∙ c.in_ok-unit.was)) in
    let p = by-nearest a.time.now a.unit.now (Ok c.in_unit.result)
    (with_number a.time.now a.unit.now _ c.colon_at-at.ensures _ c.if-at-time.false _ (sym c.in_ok-x.was ∙ c.read_number.ensures.value) (ap Ok c.in_unit.ensures ∙ some)) in
    record { value = p.0; nearest = p.1 }
