-- The values that the leaves write: 0 where the text is refused. Assumes nothing.
use Rattle.leaf_decimals.specs.declared.NumberError.{NumberError}
use Rattle.std.specs.Prelude.{false, ℕ, pos, Float, Err, None, Ok, Option, Result, Some}
use Rattle.std.specs.Float.{fin}
use Rattle.leaf_decimals.specs.declared.NumberError.TheVariants.{Malformed, Beyond}

abbrev pub value_in : Result Float NumberError → Float
value_in (Ok x) = x
value_in (Err Malformed) = fin false 0 (pos 0)
value_in (Err Beyond) = fin false 0 (pos 0)

abbrev pub whole_in : Option ℕ → ℕ
whole_in (Some n) = n
whole_in None = 0
