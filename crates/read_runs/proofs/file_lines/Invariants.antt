-- `read_runs::file_lines` meets its contract. Assumes nothing.
use Prim.Native.Nat.{◌-◌}
use lib.ListN.{length}
use Rattle.read_runs.proofs.OnwardLaws.{Come}
use Rattle.read_runs.proofs.file_lines.Given as goal

abbrev pub invariant-loop-t : goal.invariant-loop-t
invariant-loop-t l =
    Come l.text 4 l.initial.t l.initial.words l.initial.numbers l.t l.words l.numbers

abbrev pub decreases-loop-t : goal.decreases-loop-t
decreases-loop-t l =
    length l.text - l.t.at
