-- The code's answers as those of scope's Rules, and the part of `comparison_of` that the code has by itself. Assumes nothing.
use Rattle.scope.specs.declared.Reason.{Reason}
use Rattle.std.specs.Prelude.{ℕ, cond, ◌||◌, List, Err, None, Ok, Option, Result, Some}
use Rattle.leaf_letters.specs.Words.{same}
use Rattle.scope.specs.declared.Reason.TheVariants as reason
use Rattle.scope.specs.declared.Comparison.{Comparison}
use Rattle.scope.specs.declared.Comparison.TheVariants.{Above, Below, AtLeast, AtMost}
use Rattle.scope.specs.declared.Value.{Value}
use Rattle.scope.specs.Spelling.{word_above, sign_above, word_below, sign_below, sign_at_least, sign_at_most}
use Rattle.scope.specs.Values.{Read, good, bad}

abbrev pub comparison_read : Option Comparison → Read Comparison
comparison_read (Some c) = good c
comparison_read None = bad reason.UnknownWord

-- `comparison_of` is its tests for IS and NOT, and then this
unfoldable pub order_of : List ℕ → Read Comparison
order_of w =
    cond (same w word_above || same w sign_above) (good Above)
    (cond (same w word_below || same w sign_below) (good Below)
    (cond (same w sign_at_least) (good AtLeast)
    (cond (same w sign_at_most) (good AtMost) (bad reason.UnknownWord))))

-- the code's answer as the definitions have it: what was read, as `into` says it in their terms, or why it is refused
abbrev pub read_as : {A B : Type 0} → (B → A) → Result B Reason → Read A
read_as into (Ok b) = good (into b)
read_as into (Err why) = bad why

abbrev pub value_read : Result Value Reason → Read Value
value_read = read_as (λ v. v)
