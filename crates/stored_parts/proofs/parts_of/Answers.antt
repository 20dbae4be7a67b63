-- `stored_parts::parts_of` meets its contract: the places that pass are counted. Assumes nothing.
use native.Mathlib.Omega.{arith}
use mathlib.Core.Path.{◌∙◌}
use lib.ListN.{get_or}
use Rattle.std.proofs.Common.{rules, tests}
use Rattle.std.proofs.lemmas.Iterator.{YieldsList-from_range}
use Rattle.std.proofs.lemmas.Iterator.Consumers.{YieldsList-from_filter, count_from_yields_List}
use Rattle.stored_parts.specs.Parts.{owners, is_place}
use Rattle.stored_parts.proofs.PartsLaws.{all-counted}
use Rattle.stored_parts.proofs.parts_of.Goals as goal

pub returns : goal.returns
returns c = λ m rest g e.
    count_from_yields_List c.filter.result c.count.result c.count.ensures.ran
    (YieldsList-from_filter _ (λ k. is_place c.args.owner (get_or (owners c.args.part m) k 0))
    (YieldsList-from_range 0 c.how_many.result c.how_many.result c.filter.ensures.source (omega arith)) c.filter.ensures.closure (λ x r q k. search (rules, tests)))
    ∙ all-counted (is_place c.args.owner) (owners c.args.part m) 0 (c.how_many.ensures m rest e)
