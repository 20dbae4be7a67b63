-- `leaf_decimals::is_word` meets its contract. Assumes nothing.
use Rattle.std.proofs.Common.{rules, ℕ}
use Rattle.std.proofs.lemmas.Iterator.{YieldsList-from_slice, YieldsList-from_zip}
use Rattle.std.proofs.lemmas.Iterator.Search.{all_from_yields_List}
use borrow.Author.Tests.{tests, ne_eqb}
use lib.Dec.{eqb}
use lib.ListN.{length}
use mathlib.Core.Path.{sym, ◌∙◌}
use Rattle.leaf_digits.specs.Bytes.{lower}
use Rattle.leaf_decimals.proofs.Words.{spells-all, spells-length}
use Rattle.leaf_decimals.proofs.is_word.Goals as goal

pub returns-then-s-w : goal.returns-then-s-w
returns-then-s-w c =
    all_from_yields_List {s = c.zip.result} (λ (p : ℕ × ℕ). eqb (lower p.0) p.1) c.all.new.self _ _ c.all.ensures.ran (YieldsList-from_zip (YieldsList-from_slice c.args.s.now cc) (YieldsList-from_slice c.args.w.now cc)) (λ x b q k. search (rules, tests))
    ∙ spells-all c.args.s.now c.args.w.now c.if-s-w.true

pub returns-else-s-w : goal.returns-else-s-w
returns-else-s-w c = rw (ne_eqb (length c.args.s.now) (length c.args.w.now) c.if-s-w.false) (sym (spells-length c.args.s.now c.args.w.now c.if-s-w.false))
