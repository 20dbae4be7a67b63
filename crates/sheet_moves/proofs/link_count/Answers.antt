-- `sheet_moves::link_count` meets its contract. Assumes nothing.
use native.Mathlib.Omega.{arith}
use mathlib.Core.Path.{ap}
use Rattle.scope.specs.declared.Counts.{Counts}
use Rattle.sheet_moves.proofs.link_count.Goals as goal

pub returns-clause-value : goal.returns-clause-value
returns-clause-value c = λ m f t.
    omega (arith, c.min.ensures, ap (λ (n : Counts). n.links) (c.counts.ensures m t.rest t.counts), t.stands.words.known.links.bound)
