-- `leaf_words::find_either` meets its contract. Assumes nothing.
use Rattle.std.proofs.Common.{◌+◌, refl, ◌∙◌, arith}
use lib.Count.{trailing_le}
use Rattle.leaf_words.proofs.ScanLaws.{length_part, clear-end}
use Rattle.leaf_words.proofs.MarkLaws.{mark-found, mark-past}
use Rattle.leaf_words.proofs.find_either.Goals as goal

pub returns-then-n-from : goal.returns-then-n-from
returns-then-n-from c =
    let a = c.args in
    omega (arith, clear-end a.a a.b a.text.now a.from (omega arith))

pub loop-i-init : goal.loop-i-init
loop-i-init c = (refl, omega arith)

pub overflow_sub-n : goal.overflow_sub-n
overflow_sub-n c = omega arith

pub overflow_add-m : goal.overflow_add-m
overflow_add-m c = omega arith

pub slice_bounds-hits-end : goal.slice_bounds-hits-end
slice_bounds-hits-end c = omega arith

pub hits-h-requires : goal.hits-h-requires
hits-h-requires c =
    omega (arith, length_part c.loop-i.i (c.loop-i.i + 8) c.args.text.now (omega arith))

pub overflow_cast-result : goal.overflow_cast-result
overflow_cast-result c = omega (arith, trailing_le 64 c.hits-h.result)

pub overflow_add-result : goal.overflow_add-result
overflow_add-result c = omega (arith, trailing_le 64 c.hits-h.result)

pub returns-then-h-ne0 : goal.returns-then-h-ne0
returns-then-h-ne0 c =
    let a = c.args in
    mark-found a.a a.b a.text.now a.from c.loop-i.i _ c.loop-i.invariant.0 (omega arith) c.hits-h.ensures c.hits-h.type_inv c.if-h-ne0.true

pub overflow_add-e : goal.overflow_add-e
overflow_add-e c = omega arith

pub hits-k-requires : goal.hits-k-requires
hits-k-requires c =
    omega (arith, length_part (c.loop-i.i + 8) (c.loop-i.i + 8 + 8) c.args.text.now (omega arith))

pub overflow_cast-result-then-k-ne0 : goal.overflow_cast-result-then-k-ne0
overflow_cast-result-then-k-ne0 c = omega (arith, trailing_le 64 c.hits-k.result)

pub overflow_add-result-then-k-ne0 : goal.overflow_add-result-then-k-ne0
overflow_add-result-then-k-ne0 c = omega (arith, trailing_le 64 c.hits-k.result)

pub returns-then-k-ne0 : goal.returns-then-k-ne0
returns-then-k-ne0 c =
    let a = c.args in
    let h = mark-past a.a a.b a.text.now a.from c.loop-i.i _ c.loop-i.invariant.0 (omega arith) c.hits-h.ensures c.if-h-ne0.false in
    mark-found a.a a.b a.text.now a.from (c.loop-i.i + 8) _ h (omega arith) c.hits-k.ensures c.hits-k.type_inv c.if-k-ne0.true

pub loop-i-smaller : goal.loop-i-smaller
loop-i-smaller c = omega arith

pub loop-i-preserved : goal.loop-i-preserved
loop-i-preserved c =
    let a = c.args in
    let h = mark-past a.a a.b a.text.now a.from c.loop-i.i _ c.loop-i.invariant.0 (omega arith) c.hits-h.ensures c.if-h-ne0.false in
    (mark-past a.a a.b a.text.now a.from (c.loop-i.i + 8) _ h (omega arith) c.hits-k.ensures c.if-k-ne0.false, omega arith)

pub returns : goal.returns
returns c = c.find_near.ensures ∙ c.loop-i.invariant.0
