-- `parse_valves::read_type` meets its contract. Assumes nothing.
use mathlib.Core.Path.{◌≡◌}
use lib.ListN.{drop}
use Rattle.scope.specs.Links.{type_of}
use Rattle.parse_valves.proofs.TypeLaws.{by_words}
use Rattle.parse_valves.proofs.read_type.Given as goal

abbrev pub invariant-loop-name : goal.invariant-loop-name
invariant-loop-name l = type_of l.word ≡ by_words (drop l.name-index l.name-items) l.word
