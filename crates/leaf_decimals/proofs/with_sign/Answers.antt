-- `leaf_decimals::with_sign` meets its contract. Assumes nothing.
use lib.Ieee.{neg}
use borrow.Author.Rules.{rules}
use Rattle.leaf_decimals.proofs.with_sign.Goals as goal

pub returns-then-minus : goal.returns-then-minus
unfolding neg
returns-then-minus c = search rules
