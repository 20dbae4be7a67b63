-- `stored_series::time_at` meets its contract. Assumes nothing.
use Rattle.std.specs.Prelude.{None}
use native.Mathlib.Omega.{arith}
use mathlib.Core.Path.{ap, ◌∙◌}
use Rattle.scope.specs.Layout.{times_at, times_width}
use Rattle.stored_words.specs.Words.{amount_of}
use Rattle.stored_records.proofs.PastLaws.{past_row}
use Rattle.stored_series.proofs.BackLaws.{time-is}
use Rattle.stored_series.proofs.time_at.Goals as goal

pub returns-in_err-row : goal.returns-in_err-row
returns-in_err-row c = λ m f g.
    c.from_residual.ensures ∙ ap amount_of (past_row g m.times None c.args.i (omega (arith, g.words.known.times)) times_at times_width (omega arith) c.in_err-row.ensures)

pub returns : goal.returns
returns c = λ m f g. c.amount_from.ensures ∙ time-is g c.args.i _ c.in_ok-row.ensures.1 c.in_ok-row.ensures.0
