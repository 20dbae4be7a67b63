-- `rule_store::close_group` meets its contract. Assumes nothing.
use Rattle.rule_clauses.proofs.ClauseLaws.{handed-on}
use Rattle.rule_store.proofs.GroupLaws.{close-written, close-stored, close-refused}
use Rattle.rule_store.proofs.close_group.Goals as goal

pub take_lines-requires : goal.take_lines-requires
take_lines-requires c = c.requires

pub returns-in_err-q : goal.returns-in_err-q
returns-in_err-q c =
    λ m h. rw (handed-on c.from_residual.ensures) (close-refused c.args.at c.args.first h _ (c.in_err-q.ensures m h))

pub store_group-requires : goal.store_group-requires
store_group-requires c = (
  c.requires.m,
  (c.in_ok-q.ensures c.requires.m c.requires.holds).0,
  _,
  _,
  close-written c.args.at c.args.first c.requires.holds c.in_ok-q.q (c.in_ok-q.ensures c.requires.m c.requires.holds),
)

pub returns : goal.returns
returns c =
    λ m h. close-stored c.args.at c.args.first h c.in_ok-q.q (c.in_ok-q.ensures m h) _ _ _ (λ d. c.store_group.ensures m d _ _)
