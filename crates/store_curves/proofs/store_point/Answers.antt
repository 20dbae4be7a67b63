-- `store_curves::store_point` meets its contract. Assumes nothing.
use native.Mathlib.Omega.{arith}
use mathlib.Core.Path.{◌≡◌, sym, ◌∙◌}
use lib.ListN.{length}
use Rattle.table_rows.proofs.HoldLaws.{count-curves, count-points, bound-points}
use Rattle.table_rows.proofs.AfterLaws.{holds-words, holds-numbers}
use Rattle.store_curves.proofs.CurveLaws.{curves-full, no_room, starts, falling, points-full, goes_on-law}
use Rattle.store_curves.proofs.store_point.Goals as goal

pub find_at-requires : goal.find_at-requires
find_at-requires c =
    (c.requires.0.m, c.requires.0.holds.words, count-curves c.requires.0.holds)

pub falls_behind-requires : goal.falls_behind-requires
falls_behind-requires c =
    (bound-points c.requires.0.holds, holds-words c.requires.0.holds, holds-numbers c.requires.0.holds)

pub returns-then-falls_behind : goal.returns-then-falls_behind
returns-then-falls_behind c =
    λ m h. falling h c.args.p.id c.args.p.x c.args.p.y _ (sym (c.find_at.ensures m h.words (count-curves h)) ∙ c.in-Some.is)
    (sym (c.falls_behind.ensures c.args.text.now m h.words h.numbers (count-points h)) ∙ c.if-falls_behind.true)

pub put_point-requires : goal.put_point-requires
put_point-requires c =
    (c.if-k-lt-POINTS_MOST.true, holds-words c.requires.0.holds, holds-numbers c.requires.0.holds)

pub returns-then-k-lt-POINTS_MOST : goal.returns-then-k-lt-POINTS_MOST
returns-then-k-lt-POINTS_MOST c =
    λ m h. goes_on-law h c.args.p.id c.args.p.x c.args.p.y _ (sym (c.find_at.ensures m h.words (count-curves h)) ∙ c.in-Some.is)
    (sym (c.falls_behind.ensures c.args.text.now m h.words h.numbers (count-points h)) ∙ c.if-falls_behind.false) _ _
    c.if-k-lt-POINTS_MOST.true c.put_point.ensures.0 c.put_point.ensures.1

pub put_id-requires : goal.put_id-requires
put_id-requires c = (c.if-n-lt-CURVES_MOST.true, omega arith, omega arith, holds-words c.requires.0.holds)

pub put_point-requires-then-k-lt-POINTS_MOST-2 : goal.put_point-requires-then-k-lt-POINTS_MOST-2
put_point-requires-then-k-lt-POINTS_MOST-2 c =
    let h = c.requires.0.holds in
    let long : length c.put_id.new.words ≡ length c.args.words.now = c.put_id.auto.words in
    (c.if-k-lt-POINTS_MOST-2.true, long ∙ holds-words h, holds-numbers h)

pub returns-then-k-lt-POINTS_MOST-2 : goal.returns-then-k-lt-POINTS_MOST-2
returns-then-k-lt-POINTS_MOST-2 c =
    λ m h.
    let a = c.args in
    starts h a.p.id a.p.x a.p.y _ _ _ (sym (c.find_at.ensures m h.words (count-curves h)) ∙ c.in-None.is) c.requires.1 c.if-n-lt-CURVES_MOST.true c.if-k-lt-POINTS_MOST-2.true
    c.put_id.ensures c.put_point-then-k-lt-POINTS_MOST-2.ensures.0 c.put_point-then-k-lt-POINTS_MOST-2.ensures.1

pub returns-else-k-lt-POINTS_MOST : goal.returns-else-k-lt-POINTS_MOST
returns-else-k-lt-POINTS_MOST c =
    λ m h. points-full h c.args.p.id c.args.p.x c.args.p.y _ (sym (c.find_at.ensures m h.words (count-curves h)) ∙ c.in-Some.is)
    (sym (c.falls_behind.ensures c.args.text.now m h.words h.numbers (count-points h)) ∙ c.if-falls_behind.false) c.if-k-lt-POINTS_MOST.false

pub returns-else-k-lt-POINTS_MOST-2 : goal.returns-else-k-lt-POINTS_MOST-2
returns-else-k-lt-POINTS_MOST-2 c =
    λ m h. no_room h c.args.p.id c.args.p.x c.args.p.y (sym (c.find_at.ensures m h.words (count-curves h)) ∙ c.in-None.is) c.if-k-lt-POINTS_MOST-2.false

pub returns-else-n-lt-CURVES_MOST : goal.returns-else-n-lt-CURVES_MOST
returns-else-n-lt-CURVES_MOST c =
    λ m h. curves-full h c.args.p.id c.args.p.x c.args.p.y (sym (c.find_at.ensures m h.words (count-curves h)) ∙ c.in-None.is) c.if-n-lt-CURVES_MOST.false
