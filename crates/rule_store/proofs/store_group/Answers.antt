-- `rule_store::store_group` meets its contract. Assumes nothing.
use native.Mathlib.Omega.{arith}
use Rattle.table_rows.proofs.HoldLaws.{bound-clauses}
use Rattle.table_rows.proofs.AfterLaws.{holds-words, holds-numbers}
use Rattle.rule_store.proofs.GroupLaws.{judge-asked, group-rules, group-clauses, group-stored, group-refused}
use Rattle.rule_store.proofs.store_group.Goals as goal

pub judge_group-requires : goal.judge_group-requires
judge_group-requires c = judge-asked c.requires.4

pub put_rule-requires : goal.put_rule-requires
put_rule-requires c =
    (group-rules c.requires.4 c.judge_group.result c.judge_group.ensures c.in-Ok.id c.in-Ok.is, holds-words c.requires.4.more)

pub overflow_add-result : goal.overflow_add-result
overflow_add-result c =
    omega (arith, group-rules c.requires.4 c.judge_group.result c.judge_group.ensures c.in-Ok.id c.in-Ok.is)

pub overflow_add-result-in-Ok : goal.overflow_add-result-in-Ok
overflow_add-result-in-Ok c =
    omega (arith, group-clauses c.requires.4 c.judge_group.result c.judge_group.ensures c.in-Ok.id c.in-Ok.is)

pub erase_clauses-requires : goal.erase_clauses-requires
erase_clauses-requires c =
    (bound-clauses c.requires.4.was, holds-words c.requires.4.more, holds-numbers c.requires.4.more)

pub returns-in-Ok : goal.returns-in-Ok
returns-in-Ok c =
    λ m d w f k. group-stored k c.judge_group.result c.judge_group.ensures c.in-Ok.id c.in-Ok.is c.put_rule.ensures

pub returns-in-Err : goal.returns-in-Err
returns-in-Err c =
    λ m d w f k. group-refused k c.judge_group.result c.judge_group.ensures _ c.in-Err.is (λ cs. c.erase_clauses.ensures c.args.text.now m _ w f cs k.was)
