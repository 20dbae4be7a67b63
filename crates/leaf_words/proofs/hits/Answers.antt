-- `leaf_words::hits` meets its contract. Assumes nothing.
use Rattle.std.proofs.Common.{arith}
use lib.Bits.{xor_lt}
use Rattle.leaf_words.proofs.HitLaws.{hit-one, hit-either}
use Rattle.leaf_words.proofs.hits.Goals as goal

pub returns-then-a-b : goal.returns-then-a-b
returns-then-a-b c =
    let a = c.args in
    let x = xor_lt 64 _ _ c.word_of-w.type_inv c.eight.type_inv in
    hit-one a.a a.b a.block.now (omega arith) (omega arith) c.requires (λ i. (c.type_inv.block i).fits) _ _ _
    c.word_of-w.ensures c.eight.ensures x (omega (arith, x)) c.if-a-b.true

pub returns : goal.returns
returns c =
    let a = c.args in
    let x = xor_lt 64 _ _ c.word_of-w.type_inv c.eight.type_inv in
    let y = xor_lt 64 _ _ c.word_of-w.type_inv c.eight-2.type_inv in
    hit-either a.a a.b a.block.now (omega arith) (omega arith) c.requires (λ i. (c.type_inv.block i).fits) _ _ _
    c.word_of-w.ensures c.eight.ensures x (omega (arith, x)) _ _ c.eight-2.ensures y (omega (arith, y))
