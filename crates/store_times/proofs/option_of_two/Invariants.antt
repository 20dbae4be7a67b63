-- `store_times::option_of_two` meets its contract. Assumes nothing.
use mathlib.Core.Path.{◌≡◌}
use lib.ListN.{drop}
use Rattle.scope.specs.Times.{option_of_two}
use Rattle.store_times.proofs.OptionLaws.{by_words}
use Rattle.store_times.proofs.option_of_two.Given as goal

abbrev pub invariant-loop-first : goal.invariant-loop-first
invariant-loop-first l = option_of_two l.a l.b ≡ by_words (drop l.first-index l.first-items) l.a l.b
