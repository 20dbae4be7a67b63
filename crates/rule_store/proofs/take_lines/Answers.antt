-- `rule_store::take_lines` meets its contract. Assumes nothing.
use native.Mathlib.Omega.{arith}
use Rattle.table_rows.proofs.HoldLaws.{bound-clauses}
use Rattle.table_rows.proofs.AfterLaws.{holds-words, holds-numbers}
use Rattle.rule_store.proofs.GoingLaws.{falls}
use Rattle.rule_store.proofs.GroupLaws.{started, taking-start, taking-words, taking-end, taking-seen, taking-unseen}
use Rattle.rule_store.proofs.take_lines.Goals as goal

pub loop-line-init : goal.loop-line-init
loop-line-init c =
    λ m st. taking-start c.args.at c.args.first _ st.holds (c.no_sketch-q.ensures c.args.text.now)

pub read_line-read-requires : goal.read_line-read-requires
read_line-read-requires c =
    taking-words (c.loop-line.invariant c.requires.m (started c.requires.holds)) (started c.requires.holds).links-are

pub overflow_add-base : goal.overflow_add-base
overflow_add-base c =
    let t = c.loop-line.invariant c.requires.m (started c.requires.holds) in let h = (c.next_own.ensures.line _ c.in-Some.is) in
    omega (arith, t.going.sketched.long, t.going.below, h.after, h.some, h.inside, bound-clauses c.requires.holds)

pub put_line-requires : goal.put_line-requires
put_line-requires c =
    (holds-words (c.loop-line.invariant c.requires.m (started c.requires.holds)).held, holds-numbers (c.loop-line.invariant c.requires.m (started c.requires.holds)).held)

pub see-requires : goal.see-requires
see-requires c =
    let t = c.loop-line.invariant c.requires.m (started c.requires.holds) in let h = (c.next_own.ensures.line _ c.in-Some.is) in
    omega (arith, t.going.sketched.long, t.going.below, h.after, h.some, h.inside)

pub loop-line-smaller : goal.loop-line-smaller
loop-line-smaller c =
    falls (c.next_own.ensures.line _ c.in-Some.is)

pub loop-line-preserved : goal.loop-line-preserved
loop-line-preserved c =
    λ m st. taking-seen (c.loop-line.invariant m st) _ (c.next_own.ensures.line _ c.in-Some.is) c.own_bytes.result.now
    c.own_bytes.ensures st.links-are c.read_line-read.result c.read_line-read.ensures.result_value c.read_line-read.ensures.line_fits c.see.result c.see.ensures
    c.in-Ok.next c.in-Ok.is st.base-is _ _ c.put_line.ensures

pub erase_clauses-requires : goal.erase_clauses-requires
erase_clauses-requires c =
    let t = c.loop-line.invariant c.requires.m (started c.requires.holds) in
    (bound-clauses c.requires.holds, holds-words t.held, holds-numbers t.held)

pub returns-in-Err : goal.returns-in-Err
returns-in-Err c =
    λ m h. let st = started h in taking-unseen (c.loop-line.invariant m st) _ (c.next_own.ensures.line _ c.in-Some.is)
    c.own_bytes.result.now c.own_bytes.ensures st.links-are c.read_line-read.result c.read_line-read.ensures.result_value c.read_line-read.ensures.line_fits c.see.result c.see.ensures
    _ c.in-Err.is (λ cs. c.erase_clauses.ensures c.args.text.now m _ _ _ cs h st.base-is)

pub returns : goal.returns
returns c =
    λ m h. taking-end (c.loop-line.invariant m (started h)) (c.next_own.ensures.nothing c.in_default.is) c.args.words.now c.args.numbers.now
