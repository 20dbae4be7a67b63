-- `stored_records::link_at` meets its contract. Assumes nothing.
use native.Mathlib.Omega.{arith}
use mathlib.Core.Path.{ap}
use Rattle.scope.specs.Layout.{links_at, links_width, link_numbers_at, link_numbers_width}
use Rattle.scope.specs.Records.{no_link}
use Rattle.table_rows.proofs.ClearLaws.{zero_number}
use Rattle.stored_records.specs.Back.{link_back}
use Rattle.stored_records.proofs.BackLaws.{link-is}
use Rattle.stored_records.proofs.PastLaws.{past_rows}
use Rattle.stored_records.proofs.link_at.Goals as goal

pub returns-in-Some : goal.returns-in-Some
returns-in-Some c = λ m g. rw (c.span_at.ensures, c.link_kind_from.ensures) (link-is g c.args.i _ _ c.in-Some.ensures.1 c.in-Some.ensures.2 c.in-Some.ensures.0)

pub returns-in-None : goal.returns-in-None
returns-in-None c = λ m g. rw zero_number
    (ap link_back (past_rows g m.links no_link c.args.i g.words.known.links.bound links_at links_width link_numbers_at link_numbers_width (omega arith) (omega arith) c.in-None.ensures))
