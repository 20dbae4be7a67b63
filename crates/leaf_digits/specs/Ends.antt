-- Where the word ends that a text begins with: at the first whitespace, or at the text's end. Assumes nothing.
use Rattle.std.specs.Prelude.{Bool, true, cond, List, [], ◌∷◌, ℕ, suc}
use Rattle.leaf_digits.specs.declared.Class.TheVariants.{Space}
use Rattle.leaf_digits.specs.Bytes.{class_of, is}

-- how many bytes stand before the first whitespace
unfoldable pub word_len : List ℕ → ℕ
unfolding class_of
word_len [] = 0
word_len (b ∷ t) = cond (is Space b) 0 (suc (word_len t))

-- nothing is left, or whitespace follows
abbrev pub ended : List ℕ → Bool
ended [] = true
ended (b ∷ t) = is Space b
