-- `sheet_moves::all_made` meets its contract: the loop counts the links before i. Assumes nothing.
use Prim.Native.Nat.{◌*◌, ◌≤◌}
use mathlib.Core.Path.{◌≡◌}
use Rattle.scope.specs.Sections.{room_clauses}
use Rattle.scope.specs.Records.{Network}
use Rattle.sheet_moves.specs.Moves.{Tallied, made_below}
use Rattle.sheet_moves.proofs.all_made.Given as goal

abbrev pub invariant-loop-i : goal.invariant-loop-i
invariant-loop-i l =
    record {
      upper_bound : l.n ≤ 4 * room_clauses * l.i;
      value : (m : Network) → Tallied m l.stored.words.now l.stored.numbers.now → l.n ≡ made_below m l.i;
    }
