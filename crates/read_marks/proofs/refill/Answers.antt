-- `read_marks::refill` meets its contract. Assumes nothing.
use native.Mathlib.Omega.{arith}
use mathlib.Core.Path.{ap, ◌∙◌}
use mathlib.Core.List.{List}
use Prim.Native.Nat.{ℕ, ◌-◌}
use lib.ListN.{take, drop, set, get_or}
use Rattle.std.proofs.lemmas.List.{get_or_default}
use Rattle.std.proofs.lemmas.List.Edits.{map_over_more}
use Rattle.scope_lines.specs.Tables.{swapped}
use Rattle.read_marks.proofs.RefilledLaws.{refilled-part}
use Rattle.read_marks.proofs.refill.Goals as goal

pub loop-class-preserved : goal.loop-class-preserved
loop-class-preserved c =
    let a = c.args in
    let l = c.loop-class in
    let part : List ℕ = take (a.to - a.from) (drop a.from a.classes.now) in
    ap (set l.class-items l.class-index) c.swap.ensures
    ∙ map_over_more (swapped a.k) part l.class-items l.class-index (get_or l.class-items l.class-index 0)
    (omega (arith, c.loop-class-test.true)) l.invariant (get_or_default l.class-items l.class-index 0 _ (omega (arith, c.loop-class-test.true, l.auto.class-items)))

pub returns : goal.returns
returns c =
    let a = c.args in
    let l = c.loop-class in
    refilled-part a.classes.now l.class-items a.from a.to a.k l.class-index c.requires.0 c.requires.1 (c.loop-class-test.false) l.invariant
