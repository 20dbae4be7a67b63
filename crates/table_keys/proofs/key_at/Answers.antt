-- `table_keys::key_at` meets its contract. Assumes nothing.
use native.Mathlib.Omega.{arith}
use mathlib.Core.Path.{sym, ap, ◌∙◌}
use lib.ListN.{length}
use Rattle.leaf_fields.specs.Fields.{part}
use Rattle.scope.specs.Tables.{key_of}
use Rattle.table_keys.proofs.PackLaws.{key-shifted, key-none, far-all, starts-inside}
use Rattle.table_keys.proofs.key_at.Goals as goal

pub returns-then-n-eq0 : goal.returns-then-n-eq0
returns-then-n-eq0 c =
    let a = c.args in
    key-none (part a.name.at a.name.end a.text.now) (sym (ap length c.letters_of-l.ensures) ∙ c.if-n-eq0.true)

pub returns-then-n-ge8 : goal.returns-then-n-ge8
returns-then-n-ge8 c = c.far_key.ensures ∙ ap key_of c.letters_of-l.ensures

pub overflow_sub-text : goal.overflow_sub-text
overflow_sub-text c = starts-inside _ _ _ (λ e. c.if-n-eq0.false (ap length c.letters_of-l.ensures ∙ e))

pub returns-then-text-at-ge8 : goal.returns-then-text-at-ge8
returns-then-text-at-ge8 c =
    let a = c.args in
    key-shifted a.text.now a.name.at (omega arith) (λ i. (c.type_inv.text i).fits) a.name.end _ _
    (ap length c.letters_of-l.ensures) (omega arith) c.eight_letters.ensures

pub returns : goal.returns
returns c =
    c.far_key-2.ensures ∙ far-all c.letters_of-l.result.now (omega arith) ∙ ap key_of c.letters_of-l.ensures
