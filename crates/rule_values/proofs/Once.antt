-- No second answer fits: two comparisons, or two values, that say the same are the same. Assumes nothing.
use Rattle.scope.specs.declared.Value.{Value}
use Rattle.scope.specs.declared.Comparison.{Comparison}
use Rattle.scope.specs.declared.Reason.{Reason}
use Rattle.std.specs.Prelude.{Err, IfOk, None, Ok, Option, Result, Some}
use mathlib.Core.Path.{◌≡◌, ap}
use Rattle.rule_values.specs.Values.{comparison_read, read_as, value_read}

pub comparison-once : (r s : Option Comparison) → comparison_read r ≡ comparison_read s → r ≡ s
comparison-once (Some a) (Some b) e = cc
comparison-once (Some a) None e = cc
comparison-once None (Some b) e = cc
comparison-once None None e = cc

-- two answers that say the same are the same, where two things placed alike that say the same are
pub read-once : {A B : Type 0} (into : B → A) (Placed : B → Type 0) → ((x y : B) → Placed x → Placed y → into x ≡ into y → x ≡ y)
    → (r s : Result B Reason) → IfOk r Placed → IfOk s Placed → read_as into r ≡ read_as into s → r ≡ s
read-once into Placed once (Ok x) (Ok y) p q e = let k : into x ≡ into y = cc in ap Ok (once x y p q k)
read-once into Placed once (Ok x) (Err why) p q e = cc
read-once into Placed once (Err why) (Ok y) p q e = cc
read-once into Placed once (Err why) (Err also) p q e = cc

pub value-once : (r s : Result Value Reason) → value_read r ≡ value_read s → r ≡ s
value-once (Ok v) (Ok w) e = cc
value-once (Ok v) (Err why) e = cc
value-once (Err why) (Ok w) e = cc
value-once (Err why) (Err also) e = cc
