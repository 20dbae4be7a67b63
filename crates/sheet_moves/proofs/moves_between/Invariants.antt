-- `sheet_moves::moves_between` meets its contract: the loop counts the clauses before k. Assumes nothing.
use Prim.Native.Nat.{◌-◌, ◌≤◌}
use mathlib.Core.Path.{◌≡◌}
use lib.ListN.{length}
use Rattle.scope.specs.Records.{Network}
use Rattle.stored_records.specs.Back.{Stands}
use Rattle.sheet_actions.specs.Steps.{Few}
use Rattle.sheet_moves.proofs.MovesLaws.{sofar}
use Rattle.sheet_moves.proofs.moves_between.Given as goal

abbrev pub invariant-loop-k : goal.invariant-loop-k
invariant-loop-k l =
    record {
      within : l.k - l.first ≤ l.end - l.first;
      few : Few (l.k - l.first) l.n;
      value : (m : Network) → Stands m l.stored.words.now l.stored.numbers.now → l.end ≤ length m.clauses → l.n ≡ sofar l.which l.otherwise m.clauses l.first l.k;
    }
