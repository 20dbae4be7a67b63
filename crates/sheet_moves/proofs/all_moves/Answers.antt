-- `sheet_moves::all_moves` meets its contract. Assumes nothing.
use native.Mathlib.Omega.{arith}
use mathlib.Core.Path.{◌≡◌, ◌∙◌}
use lib.ListN.{length}
use Rattle.std.specs.Prelude.{None}
use Rattle.sheet_moves.proofs.MovesLaws.{whole}
use Rattle.sheet_moves.proofs.all_moves.Goals as goal

pub returns-clause-value : goal.returns-clause-value
returns-clause-value c = λ m t.
    let e : c.clause_count.result ≡ length m.clauses = c.clause_count.ensures.value m c.args.stored.numbers.now t in
    c.moves_between.ensures.value m t.stands (omega (arith, e)) ∙ whole None c.args.otherwise m.clauses e
