-- `store_demands::own_demand` meets its contract. Assumes nothing.
use Prim.Native.Nat.{◌<◌}
use native.Mathlib.Omega.{arith}
use lib.ListN.{length}
use mathlib.Core.Path.{sym, ◌∙◌}
use Rattle.store_demands.proofs.DemandLaws.{own-found, first-not-own, none-in-slot}
use Rattle.store_demands.proofs.own_demand.Goals as goal

pub returns-then-is_own : goal.returns-then-is_own
returns-then-is_own c =
    λ text m hw e.
    let inside : c.first_in_slot-k.result < length m.demands = omega (arith, c.if-k-demands.true, e) in
    own-found hw c.args.node c.first_in_slot-k.result (λ p q. c.first_in_slot-k.ensures.2 p (omega (arith, q, e))) inside
    (sym c.if-is_own.true ∙ c.is_own.ensures text m hw inside)

pub returns-else-is_own : goal.returns-else-is_own
returns-else-is_own c =
    λ text m hw e.
    first-not-own hw c.args.node c.first_in_slot-k.result (λ p q. c.first_in_slot-k.ensures.2 p (omega (arith, q, e)))
    (sym c.if-is_own.false ∙ c.is_own.ensures text m hw (omega (arith, c.if-k-demands.true, e)))

pub returns-else-k-demands : goal.returns-else-k-demands
returns-else-k-demands c = λ text m hw e.
    none-in-slot hw c.args.node c.first_in_slot-k.result (λ p q. c.first_in_slot-k.ensures.2 p (omega (arith, q, e))) (omega (arith, c.if-k-demands.false, e))
