-- `store_links::pump_line` meets its contract. Assumes nothing.
use lib.ListN.{take}
use Rattle.leaf_fields.specs.Fields.{fields_at}
use Rattle.scope.specs.Links.{pump_step}
use Rattle.table_rows.proofs.HoldLaws.{count-nodes}
use Rattle.store_links.proofs.LineLaws.{names-text, pump-text, few-pump, line-refused}
use Rattle.store_links.proofs.pump_line.Goals as goal

pub returns-in_err-names : goal.returns-in_err-names
returns-in_err-names c =
    let a = c.args in
    λ m h. line-refused _ _ _ _ (few-pump (fields_at (take a.end a.text.now) a.at) m c.in_err-names.ensures) c.from_residual.ensures

pub returns-in_err-ends : goal.returns-in_err-ends
unfolding pump_step
returns-in_err-ends c =
    let names = names-text c.args.text.now c.args.end _ c.in_ok-names.ensures in
    λ m h. line-refused _ _ _ _ (rw (names, c.in_err-ends.ensures m h.words (count-nodes h))) c.from_residual-in_err-ends.ensures

pub returns-in_err-pump : goal.returns-in_err-pump
unfolding pump_step
returns-in_err-pump c =
    let names = names-text c.args.text.now c.args.end _ c.in_ok-names.ensures in
    λ m h. line-refused _ _ _ _ (rw (names, c.in_ok-ends.ensures m h.words (count-nodes h), c.in_err-pump.ensures)) c.from_residual-in_err-pump.ensures

pub returns : goal.returns
unfolding pump_step
returns c =
    let names = names-text c.args.text.now c.args.end _ c.in_ok-names.ensures in
    let pump = pump-text c.args.text.now c.args.end _ c.in_ok-pump.ensures in
    λ m h. rw (names, c.in_ok-ends.ensures m h.words (count-nodes h), pump) (c.add_link.ensures m h)
