-- `leaf_letters::spells` meets its contract. Assumes nothing.
use Rattle.std.proofs.Common.{rules, ℕ}
use borrow.Author.Tests.{tests, ne_eqb}
use mathlib.Core.Path.{sym, ◌∙◌}
use lib.Dec.{eqb}
use lib.ListN.{length}
use Rattle.std.proofs.lemmas.Iterator.{YieldsList-from_slice, YieldsList-from_zip}
use Rattle.std.proofs.lemmas.Iterator.Search.{all_from_yields_List}
use Rattle.leaf_letters.specs.Words.{raised}
use Rattle.leaf_letters.proofs.WordLaws.{same-all, same-long}
use Rattle.leaf_letters.proofs.spells.Goals as goal

pub returns-then-a-w : goal.returns-then-a-w
returns-then-a-w c =
    all_from_yields_List {s = c.zip.result} (λ (p : ℕ × ℕ). eqb (raised p.0) p.1) c.all.new.self _ _ c.all.ensures.ran (YieldsList-from_zip (YieldsList-from_slice c.args.a.now cc) (YieldsList-from_slice c.args.w.now cc)) (λ x b q k. search (rules, tests))
    ∙ same-all raised c.args.a.now c.args.w.now c.if-a-w.true

pub returns-else-a-w : goal.returns-else-a-w
returns-else-a-w c = rw (ne_eqb (length c.args.a.now) (length c.args.w.now) c.if-a-w.false) (sym (same-long raised c.args.a.now c.args.w.now c.if-a-w.false))
