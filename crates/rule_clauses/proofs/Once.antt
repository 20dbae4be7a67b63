-- No second answer fits: two conditions, two heads of an action, or two answers to whether a kind fits, that say the same of one line are the same, the places of the names too. Assumes nothing.
use Rattle.rule_clauses.specs.declared.ActionHead.{ActionHead}
use Rattle.scope.specs.declared.Condition.{Condition}
use Rattle.scope.specs.declared.Reason.{Reason}
use Rattle.std.specs.Prelude.{Err, Ok, Result}
use Prim.Native.Nat.{ℕ}
use mathlib.Core.Path.{◌≡◌, ap}
use mathlib.Core.List.{List}
use Rattle.leaf_fields.proofs.FieldLaws.{span-once, opt-once}
use Rattle.scope.specs.Records as records
use Rattle.rule_values.proofs.Once.{read-once}
use Rattle.rule_clauses.specs.Clauses.{MayFit, condition_in, condition_read, ConditionFits, Head, head_in, head_read, HeadFits, kind_read}

pub condition-once : (l : List ℕ) (r s : Result Condition Reason) → ConditionFits l r → ConditionFits l s → condition_read l r ≡ condition_read l s → r ≡ s
condition-once l r s m n e = read-once (condition_in l) (λ c. MayFit l c.name) once r s m n e
  where
    once : (x y : Condition) → MayFit l x.name → MayFit l y.name → condition_in l x ≡ condition_in l y → x ≡ y
    once x y p q h =
        λ i. record {
          operator = (h i).operator;
          target = (h i).target;
          name = opt-once l x.name y.name p q (ap records.Condition.name h) i;
          comparison = (h i).comparison;
          value = (h i).value;
        }

pub head-once : (l : List ℕ) (r s : Result ActionHead Reason) → HeadFits l r → HeadFits l s → head_read l r ≡ head_read l s → r ≡ s
head-once l (Ok x) (Ok y) (k, m) (j, n) e =
    let h : head_in l x ≡ head_in l y = cc in
    λ i. Ok (record { kind = span-once l k j (ap Head.kind h) i; id = span-once l m n (ap Head.id h) i })
head-once l (Ok x) (Err why) m n e = cc
head-once l (Err why) (Ok y) m n e = cc
head-once l (Err why) (Err also) m n e = cc

pub kind-once : (r s : Result Unit Reason) → kind_read r ≡ kind_read s → r ≡ s
kind-once (Ok u) (Ok v) e = cc
kind-once (Ok u) (Err why) e = cc
kind-once (Err why) (Ok v) e = cc
kind-once (Err why) (Err also) e = cc
