-- `leaf_letters::equal` meets its contract. Assumes nothing.
use Rattle.leaf_letters.proofs.WordLaws.{same-pointwise}
use mathlib.Core.Path.{◌∙◌}
use Rattle.leaf_letters.proofs.equal.Goals as goal

pub returns : goal.returns
returns c = c.eq.ensures ∙ same-pointwise c.args.a.now c.args.b.now
