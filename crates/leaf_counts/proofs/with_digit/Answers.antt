-- `leaf_counts::with_digit` meets its contract. Assumes nothing.
use mathlib.Core.Path.{sym, ◌∙◌}
use Rattle.leaf_digits.proofs.Classes.{digit-range}
use Rattle.leaf_counts.proofs.with_digit.Goals as goal

pub digit_value-requires : goal.digit_value-requires
digit_value-requires c = digit-range _ (sym c.is_digit.ensures ∙ c.if-not-is_digit.false)
