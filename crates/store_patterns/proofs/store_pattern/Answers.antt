-- `store_patterns::store_pattern` meets its contract. Assumes nothing.
use Prim.Native.Nat.{◌+◌, ◌≤◌}
use native.Mathlib.Omega.{arith}
use mathlib.Core.Path.{◌≡◌, sym, ◌∙◌}
use lib.ListN.{length}
use Rattle.scope.specs.Sections.{room_multipliers}
use Rattle.table_rows.proofs.HoldLaws.{count-patterns, bound-multipliers}
use Rattle.table_rows.proofs.AfterLaws.{holds-words, holds-numbers}
use Rattle.store_patterns.proofs.PatternStoreLaws.{count-le, values-full, patterns-full, goes_on-law, starts}
use Rattle.store_patterns.proofs.store_pattern.Goals as goal

pub find_at-requires : goal.find_at-requires
find_at-requires c =
    (c.requires.0.m, c.requires.0.holds.words, count-patterns c.requires.0.holds)

pub overflow_add-more : goal.overflow_add-more
overflow_add-more c =
    omega (arith, count-le c.requires.2.1, bound-multipliers c.requires.0.holds)

pub returns-then-more-gt-MULTIPLIERS_MOST : goal.returns-then-more-gt-MULTIPLIERS_MOST
returns-then-more-gt-MULTIPLIERS_MOST c = λ m xs h g. values-full h c.args.p.id xs (omega (arith, g.long, c.if-more-gt-MULTIPLIERS_MOST.true))

pub put_multipliers-requires : goal.put_multipliers-requires
put_multipliers-requires c =
    let fit : c.args.s.multipliers + length c.requires.2.0 ≤ room_multipliers = omega (arith, c.if-more-gt-MULTIPLIERS_MOST.false, c.requires.2.1.long) in
    (c.requires.2.0, c.requires.2.1, fit, holds-words c.requires.0.holds, holds-numbers c.requires.0.holds)

pub put_id-requires : goal.put_id-requires
put_id-requires c =
    (c.if-n-lt-PATTERNS_MOST.true, omega arith, omega arith, holds-words c.requires.0.holds)

pub put_multipliers-requires-then-n-lt-PATTERNS_MOST : goal.put_multipliers-requires-then-n-lt-PATTERNS_MOST
put_multipliers-requires-then-n-lt-PATTERNS_MOST c =
    let fit : c.args.s.multipliers + length c.requires.2.0 ≤ room_multipliers = omega (arith, c.if-more-gt-MULTIPLIERS_MOST.false, c.requires.2.1.long) in
    let p = c.requires in
    let h = p.0.holds in
    let long : length c.put_id.new.words ≡ length c.args.words.now = c.put_id.auto.words in
    (p.2.0, p.2.1, fit, long ∙ holds-words h, holds-numbers h)

pub returns-then-n-lt-PATTERNS_MOST : goal.returns-then-n-lt-PATTERNS_MOST
returns-then-n-lt-PATTERNS_MOST c =
    λ m xs h g. let n = g.long in
    rw (← n)
    (starts h c.args.p.id xs (omega (arith, n, c.if-more-gt-MULTIPLIERS_MOST.false)) _ _ _ (sym (c.find_at.ensures m h.words (count-patterns h)) ∙ c.in-None.is) c.requires.1 c.if-n-lt-PATTERNS_MOST.true
    c.put_id.ensures (c.put_multipliers-then-n-lt-PATTERNS_MOST.ensures xs g).0 (c.put_multipliers-then-n-lt-PATTERNS_MOST.ensures xs g).1)

pub returns-in-Some : goal.returns-in-Some
returns-in-Some c =
    λ m xs h g. rw (← g.long)
    (goes_on-law h c.args.p.id xs (omega (arith, g.long, c.if-more-gt-MULTIPLIERS_MOST.false)) _ _ _ (sym (c.find_at.ensures m h.words (count-patterns h)) ∙ c.in-Some.is)
    (c.put_multipliers.ensures xs g).0 (c.put_multipliers.ensures xs g).1)

pub returns-else-n-lt-PATTERNS_MOST : goal.returns-else-n-lt-PATTERNS_MOST
returns-else-n-lt-PATTERNS_MOST c =
    λ m xs h g. patterns-full h c.args.p.id xs (sym (c.find_at.ensures m h.words (count-patterns h)) ∙ c.in-None.is) c.if-n-lt-PATTERNS_MOST.false
