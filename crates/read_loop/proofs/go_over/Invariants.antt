-- `read_loop::go_over` meets its contract. Assumes nothing.
use Prim.Native.Nat.{◌-◌}
use lib.ListN.{length}
use Rattle.read_loop.proofs.AlongLaws.{Along}
use Rattle.read_loop.proofs.go_over.Given as goal

abbrev pub invariant-loop-s : goal.invariant-loop-s
invariant-loop-s l = Along l.marking l.text (length l.initial.classes) (length l.initial.reasons) l.words l.numbers l.classes l.reasons l.s

abbrev pub decreases-loop-s : goal.decreases-loop-s
decreases-loop-s l = length l.text - l.s.at
