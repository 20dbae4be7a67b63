-- `stored_parts::conditions_between` meets its contract: the places that pass are counted. Assumes nothing.
use Prim.Native.Nat.{◌-◌}
use native.Mathlib.Omega.{arith}
use mathlib.Core.Path.{◌∙◌, refl}
use lib.ListN.{get_or}
use Rattle.std.proofs.Common.{rules, tests}
use Rattle.std.proofs.lemmas.Iterator.{YieldsList-from_range}
use Rattle.std.proofs.lemmas.Iterator.Consumers.{YieldsList-from_filter, count_from_yields_List}
use Rattle.scope.specs.Records.{no_clause}
use Rattle.scope.specs.Rules.{is_condition}
use Rattle.stored_parts.proofs.PartsLaws.{counted}
use Rattle.stored_parts.proofs.conditions_between.Goals as goal

pub returns-clause-value : goal.returns-clause-value
returns-clause-value c = λ m g le.
    count_from_yields_List c.filter.result c.count.result c.count.ensures.ran
    (YieldsList-from_filter _ (λ k. is_condition (get_or m.clauses k no_clause))
    (YieldsList-from_range c.args.first c.args.end (c.args.end - c.args.first) c.filter.ensures.source refl) c.filter.ensures.closure (λ x r q k. search (rules, tests)))
    ∙ counted is_condition m.clauses no_clause c.args.first (c.args.end - c.args.first) (omega (arith, le))
