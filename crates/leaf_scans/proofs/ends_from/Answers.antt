-- `leaf_scans::ends_from` meets its contract. Assumes nothing.
use mathlib.Core.Path.{sym, ◌∙◌}
use Rattle.leaf_scans.proofs.EndLaws.{ends_last, ends-fed, ends-cut}
use Rattle.leaf_scans.proofs.ends_from.Goals as goal

pub returns-in-None : goal.returns-in-None
returns-in-None c = λ at es. ends_last c.args.text.now at _ es c.in-None.ensures.lookup.3

pub returns-in-Some-eq10 : goal.returns-in-Some-eq10
returns-in-Some-eq10 c = let h = c.in-Some-eq10.ensures.lookup in λ at es. ends-fed c.args.text.now at _ es h.3.0 (sym (h.3.1 0) ∙ c.in-Some-eq10.field-0-test)

pub returns-in-Some : goal.returns-in-Some
returns-in-Some c = let h = c.in-Some.ensures.lookup in λ at es. ends-cut c.args.text.now at _ es h.3.0 (λ e. c.in-Some.field-0-test.1 (h.3.1 0 ∙ e)) _ c.line_end-end.ensures
