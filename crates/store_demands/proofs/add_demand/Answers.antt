-- `store_demands::add_demand` meets its contract. Assumes nothing.
use Prim.Native.Nat.{◌+◌}
use native.Mathlib.Omega.{arith}
use lib.ListN.{length}
use mathlib.Core.Path.{◌≡◌, refl, sym, ◌∙◌}
use Rattle.table_rows.proofs.HoldLaws.{count-demands, bound-demands}
use Rattle.table_rows.proofs.SlotLaws.{mark-alike}
use Rattle.table_rows.proofs.AfterLaws.{holds-words, holds-numbers}
use Rattle.store_demands.proofs.DemandLaws.{own_in, demands-full, appended, replaced}
use Rattle.store_demands.proofs.add_demand.Goals as goal

pub own_demand-requires : goal.own_demand-requires
own_demand-requires c = (bound-demands c.requires.0.holds, holds-words c.requires.0.holds)

pub put_demand-requires : goal.put_demand-requires
put_demand-requires c =
    let h = c.requires.0.holds in (
      omega (
        arith,
        own_in c.args.node c.requires.0.m.demands _ (sym (c.own_demand.ensures c.args.text.now c.requires.0.m h.words (count-demands h)) ∙ c.in-Some.is),
        h.words.known.demands.bound,
      ),
      holds-words h,
      holds-numbers h,
    )

pub put_demand-requires-then-n-lt-DEMANDS_MOST : goal.put_demand-requires-then-n-lt-DEMANDS_MOST
put_demand-requires-then-n-lt-DEMANDS_MOST c =
    (c.if-n-lt-DEMANDS_MOST.true, holds-words c.requires.0.holds, holds-numbers c.requires.0.holds)

pub mark-requires : goal.mark-requires
mark-requires c = (
  let k : length c.put_demand-then-n-lt-DEMANDS_MOST.new.words ≡ length c.args.words.now = c.put_demand-then-n-lt-DEMANDS_MOST.auto.words in
      omega (arith, k, holds-words c.requires.0.holds),
  omega (arith, c.if-n-lt-DEMANDS_MOST.true),
)

pub returns-then-n-lt-DEMANDS_MOST : goal.returns-then-n-lt-DEMANDS_MOST
returns-then-n-lt-DEMANDS_MOST c =
    λ m h.
    let a = c.args in
    appended h a.d.base a.d.pattern a.node _ _ (sym (c.own_demand.ensures c.args.text.now m h.words (count-demands h)) ∙ c.in-None.is) c.requires.1 c.requires.2 c.if-n-lt-DEMANDS_MOST.true
    (mark-alike (a.s.demands + 1) c.mark.ensures c.put_demand-then-n-lt-DEMANDS_MOST.ensures.0 refl)
    c.put_demand-then-n-lt-DEMANDS_MOST.ensures.1

pub returns-in-Some : goal.returns-in-Some
returns-in-Some c =
    λ m h. replaced h c.args.d.base c.args.d.pattern c.args.node _ _ _ (sym (c.own_demand.ensures c.args.text.now m h.words (count-demands h)) ∙ c.in-Some.is) c.requires.1
    c.put_demand.ensures.0 c.put_demand.ensures.1

pub returns-else-n-lt-DEMANDS_MOST : goal.returns-else-n-lt-DEMANDS_MOST
returns-else-n-lt-DEMANDS_MOST c =
    λ m h. demands-full h c.args.d.base c.args.d.pattern c.args.node (sym (c.own_demand.ensures c.args.text.now m h.words (count-demands h)) ∙ c.in-None.is) c.if-n-lt-DEMANDS_MOST.false
