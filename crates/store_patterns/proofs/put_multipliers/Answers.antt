-- `store_patterns::put_multipliers` meets its contract. Assumes nothing.
use Prim.Native.Nat.{◌≤◌}
use native.Mathlib.Omega.{arith}
use mathlib.Core.Path.{◌≡◌, sym, ◌∙◌}
use lib.ListN.{length, drop}
use lib.Seq.{length-take-le}
use Rattle.store_patterns.proofs.StoringLaws.{kept-room, rest-room, put-kept, put_both}
use Rattle.store_patterns.proofs.put_multipliers.Goals as goal

pub slice_bounds-put_numbers-end : goal.slice_bounds-put_numbers-end
slice_bounds-put_numbers-end c =
    sym (length-take-le c.args.p.count c.args.first.now c.if-p-first.true)

pub put_numbers-requires : goal.put_numbers-requires
put_numbers-requires c =
    let p = c.requires in (kept-room p.1 c.args.k p.2 c.if-p-first.true, p.3, p.4)

pub returns-then-p-first : goal.returns-then-p-first
returns-then-p-first c =
    λ xs g. let a = c.args in put-kept g a.k a.pattern a.words.now a.numbers.now c.if-p-first.true c.put_numbers.ensures

pub put_rest-requires : goal.put_rest-requires
put_rest-requires c =
    let more : length c.args.first.now ≤ c.args.p.count = omega (arith, c.if-p-first.false) in
    let p = c.requires in
    let long_w : length c.put_numbers-2.new.words ≡ length c.args.words.now = c.put_numbers-2.auto.words in
    let long_n : length c.put_numbers-2.new.numbers ≡ length c.args.numbers.now = c.put_numbers-2.auto.numbers in
    (drop (length c.args.first.now) p.0, p.1.left, rest-room p.1 c.args.k p.2 (more), long_w ∙ p.3, long_n ∙ p.4)

pub returns : goal.returns
returns c =
    let more : length c.args.first.now ≤ c.args.p.count = omega (arith, c.if-p-first.false) in
    λ xs g. let p = c.requires in
    put_both g c.args.k c.args.pattern c.args.words.now c.args.numbers.now (more) p.3 p.4
    (omega (arith, g.long, p.1.long, p.2)) c.put_numbers-2.ensures (c.put_rest.ensures _ g.left)
