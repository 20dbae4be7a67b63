-- `store_links::store_link` meets its contract. Assumes nothing.
use Rattle.scope.specs.Links.{store_link}
use Rattle.table_rows.proofs.HoldLaws.{count-nodes}
use Rattle.store_links.proofs.LineLaws.{line-refused}
use Rattle.store_links.proofs.store_link.Goals as goal

pub returns-in_err-ends : goal.returns-in_err-ends
unfolding store_link
returns-in_err-ends c =
    λ m h. line-refused _ _ _ _ (rw (c.in_err-ends.ensures m h.words (count-nodes h))) c.from_residual.ensures

pub returns : goal.returns
unfolding store_link
returns c =
    λ m h. rw (c.in_ok-ends.ensures m h.words (count-nodes h)) (c.add_link.ensures m h)
