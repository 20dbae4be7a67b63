-- `read_headers::next_own` meets its contract. Assumes nothing.
use mathlib.Core.Path.{subst}
use mathlib.Core.List.{List}
use Prim.Native.Nat.{ℕ}
use Rattle.read_headers.specs.Own.{OwnFrom}
use Rattle.read_headers.proofs.OwnLaws.{next-own}
use Rattle.read_headers.proofs.next_own.Goals as goal

pub returns : goal.returns
returns c =
    next-own c.args.text.now c.args.at c.args.from _
    (subst (λ (l : List ℕ). OwnFrom l c.args.from c.own_from.result) c.cut.ensures c.own_from.ensures)
