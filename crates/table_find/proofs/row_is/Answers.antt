-- `table_find::row_is` meets its contract. Assumes nothing.
use Prim.Native.Nat.{ℕ}
use native.Mathlib.Omega.{arith}
use mathlib.Core.Path.{◌∙◌, ap}
use mathlib.Core.List.{List}
use Rattle.leaf_letters.specs.Words.{same}
use Rattle.table_find.proofs.LookLaws.{other_key, other_length, key-tells, row-letters}
use Rattle.table_find.proofs.row_is.Goals as goal

pub returns-then-words-row : goal.returns-then-words-row
returns-then-words-row c = λ n r. other_key r c.args.name.now (λ e. omega (arith, c.requires.1, e))

pub returns-then-n-name : goal.returns-then-n-name
returns-then-n-name c = λ n r. other_length r c.args.name.now (λ e. omega (arith, e))

pub returns-then-n-le8 : goal.returns-then-n-le8
returns-then-n-le8 c =
    λ n r. key-tells r c.args.name.now (λ i. omega (arith, c.type_inv.text i))
    (λ i. omega (arith, c.type_inv.name i)) (omega (arith, c.requires.1)) (omega arith) (omega arith)

pub returns : goal.returns
returns c = λ n r. c.equal.ensures ∙ ap (λ (l : List ℕ). same l c.args.name.now) (row-letters r)
