-- `leaf_fields::letters_of` meets its contract. Assumes nothing.
use native.Mathlib.Omega.{arith}
use mathlib.Core.Path.{sym, ◌∙◌}
use Rattle.leaf_fields.proofs.FieldLaws.{part_none}
use Rattle.leaf_fields.proofs.letters_of.Goals as goal

pub returns-then-s : goal.returns-then-s
returns-then-s c =
    let a = c.args in
    c.cut.ensures ∙ sym (part_none a.s.at a.s.end a.l.now (omega arith))
