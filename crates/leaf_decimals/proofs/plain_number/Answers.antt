-- `leaf_decimals::plain_number` meets its contract. Assumes nothing.
use mathlib.Core.Path.{sym, ◌∙◌}
use Prim.Native.Nat.{◌<◌}
use native.Mathlib.Omega.{arith}
use lib.ListN.{length}
use Rattle.leaf_digits.specs.declared.Class.TheVariants.{Point}
use Rattle.leaf_digits.proofs.Classes.{is-class}
use Rattle.leaf_digits.proofs.Ends.{goes_on-law}
use Rattle.leaf_digits.proofs.Runs.{room-first, room-point}
use Rattle.leaf_decimals.proofs.Begun.{whole-read, point-read}
use Rattle.leaf_decimals.proofs.plain_number.Goals as goal

pub few_digits-d-requires : goal.few_digits-d-requires
few_digits-d-requires c = let e = c.min-to.ensures in (omega arith, omega (arith, e), room-first _ (omega (arith, e)))

pub returns-then-ends_at : goal.returns-then-ends_at
returns-then-ends_at c =
    let k = c.few_digits-d.ensures in
    whole-read c.args.s.now _ _ _ k.0 k.1 c.if-n-eq0.false (sym c.ends_at.ensures ∙ c.if-ends_at.true) _ c.valued.ensures

pub bounds-s-n : goal.bounds-s-n
bounds-s-n c = goes_on-law _ _ (sym c.ends_at.ensures ∙ c.if-ends_at.false)

pub few_digits-f-requires : goal.few_digits-f-requires
few_digits-f-requires c =
    let inside : let a = c.args in c.few_digits-d.result.end < length a.s.now = goes_on-law _ _ (sym c.ends_at.ensures ∙ c.if-ends_at.false) in
    (omega (arith, inside), omega (arith, c.min-to.ensures), room-point _ _ _ c.few_digits-d.ensures.1)

pub returns-then-ends_at-2 : goal.returns-then-ends_at-2
returns-then-ends_at-2 c =
    let inside : let a = c.args in c.few_digits-d.result.end < length a.s.now = goes_on-law _ _ (sym c.ends_at.ensures ∙ c.if-ends_at.false) in
    let p = is-class Point _ c.class_of.ensures c.in-Point.is in
    let k = c.few_digits-d.ensures in
    let f = c.few_digits-f.ensures in
    point-read c.args.s.now _ _ _ k.0 k.1 c.if-n-eq0.false p (inside) _ _ f.0 f.1 c.if-e-i.false
    (sym c.ends_at-2.ensures ∙ c.if-ends_at-2.true) _ c.valued-then-ends_at-2.ensures
