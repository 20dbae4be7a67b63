-- `leaf_letters::starts_with` meets its contract. Assumes nothing.
use Rattle.leaf_letters.proofs.WordLaws.{same-turned}
use mathlib.Core.Path.{◌∙◌}
use lib.ListN.{length, take}
use Rattle.leaf_letters.proofs.starts_with.Goals as goal

pub returns : goal.returns
returns c = c.starts_with.ensures.value ∙ same-turned (take (length c.args.w.now) c.args.a.now) c.args.w.now
