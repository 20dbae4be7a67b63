-- `stored_records::clause_at` meets its contract. Assumes nothing.
use native.Mathlib.Omega.{arith}
use mathlib.Core.Path.{ap, ◌∙◌}
use Rattle.scope.specs.Layout.{clauses_at, clauses_width, clause_numbers_at}
use Rattle.scope.specs.Records.{no_clause}
use Rattle.table_rows.proofs.ClearLaws.{zero_number}
use Rattle.stored_records.specs.Back.{clause_back}
use Rattle.stored_records.proofs.BackLaws.{clause-is}
use Rattle.stored_records.proofs.PastLaws.{past_rows}
use Rattle.stored_records.proofs.clause_at.Goals as goal

pub returns-in-Some : goal.returns-in-Some
returns-in-Some c = λ m g. c.clause_from.ensures ∙ clause-is g c.args.i _ _ c.in-Some.ensures.1 c.in-Some.ensures.2 c.in-Some.ensures.0

pub returns-in-None : goal.returns-in-None
returns-in-None c = λ m g. rw zero_number
    (ap clause_back (past_rows g m.clauses no_clause c.args.i g.words.known.clauses.bound clauses_at clauses_width clause_numbers_at 1 (omega arith) (omega arith) c.in-None.ensures))
