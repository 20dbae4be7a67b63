-- `sheet_moves::rule_moves` meets its contract. Assumes nothing.
use native.Mathlib.Omega.{arith}
use mathlib.Core.Path.{◌≡◌, ◌∙◌}
use lib.ListN.{length}
use Rattle.sheet_moves.proofs.MovesLaws.{rule-is}
use Rattle.sheet_moves.proofs.rule_moves.Goals as goal

pub returns-clause-value : goal.returns-clause-value
returns-clause-value c = λ m t.
    let e : c.clause_count.result ≡ length m.clauses = c.clause_count.ensures.value m c.args.stored.numbers.now t in
    c.moves_between.ensures.value m t.stands (omega (arith, e, c.end_of-end.ensures.0))
    ∙ rule-is m c.args.i c.args.otherwise (c.rule_at-rule.ensures m c.args.stored.numbers.now t.stands) e c.end_of-end.ensures.1 c.end_of-end.ensures.2
