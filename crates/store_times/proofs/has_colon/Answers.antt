-- `store_times::has_colon` meets its contract. Assumes nothing.
use mathlib.Core.Path.{◌∙◌}
use Rattle.store_times.proofs.ColonLaws.{any_colon}
use Rattle.store_times.proofs.has_colon.Goals as goal

pub returns : goal.returns
returns c = c.contains.ensures.value ∙ any_colon c.args.s.now
