-- A link as it is stored. Assumes nothing.
use Rattle.std.specs.Prelude.{ℕ, ◌≡◌, List, Err, Ok, Result}
use Rattle.leaf_fields.specs.Fields.{Name}
use Rattle.scope.specs.declared.LinkKind.{LinkKind}
use Rattle.scope.specs.declared.Reason.{Reason}
use Rattle.scope.specs.Records.{Link}
use Rattle.scope.specs.Values.{Read, good, bad}
use Rattle.scope.specs.Links as scope
use Rattle.parse_pipes.specs.Lines.{kind_in}
use Rattle.store_links.specs.declared.Ends.{Ends}

-- ---- the places of the two nodes
abbrev pub ends_in : Ends → scope.Ends
ends_in e = record { start = e.start; end = e.end }

abbrev pub EndsAs : Read scope.Ends → Result Ends Reason → Type 0
EndsAs o (Ok e) = o ≡ good (ends_in e)
EndsAs o (Err why) = o ≡ bad why

-- ---- the link
abbrev pub link_in : List ℕ → Name → Ends → LinkKind → Link
link_in text id ends k = scope.new_link id (ends_in ends) (kind_in text k)
