-- `store_links::valve_line` meets its contract. Assumes nothing.
use Rattle.scope.specs.Links.{valve_step}
use Rattle.store_links.proofs.LineLaws.{line-refused, line-text}
use Rattle.store_links.proofs.valve_line.Goals as goal

pub returns-in_err-line : goal.returns-in_err-line
unfolding valve_step
returns-in_err-line c =
    λ m h. line-refused _ _ _ _ (rw c.in_err-line.ensures) c.from_residual.ensures

pub returns : goal.returns
unfolding valve_step
returns c =
    λ m h. rw (line-text c.args.text.now c.args.end _ c.in_ok-line.ensures) (c.store_link.ensures m h)
