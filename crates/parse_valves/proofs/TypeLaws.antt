-- A valve's type, by a table of the words. Assumes nothing.
use Prim.Native.Nat.{ℕ, ◌+◌, ◌<◌, ◌≤◌}
use mathlib.Core.Path.{◌≡◌, sym, ◌∙◌}
use mathlib.Core.Bool.{Bool, true, false, cond}
use mathlib.Core.List.{List, [], ◌∷◌}
use lib.ListN.{length, get_or, drop}
use Rattle.std.proofs.Common.{drop_of_length-le}
use Rattle.std.proofs.lemmas.List.{at_drop_more}
use Rattle.leaf_letters.specs.Words.{spelled}
use Rattle.scope.specs.declared.Reason.TheVariants.{UnknownWord}
use Rattle.scope.specs.declared.ValveType.{ValveType}
use Rattle.scope.specs.Values.{Read, good, bad}

-- the type of the first word of the table that w spells
unfoldable pub by_words : List (List ℕ × ValveType) → List ℕ → Read ValveType
by_words [] w = bad UnknownWord
by_words (x ∷ xs) w = cond (spelled w x.0) (good x.1) (by_words xs w)

module _ (xs : List (List ℕ × ValveType)) (w : List ℕ) (i : ℕ) where
  module _ (d : List ℕ × ValveType) (h : i < length xs) {b : Bool} (e : b ≡ spelled w (get_or xs i d).0) where
    pub word-here : b ≡ true → by_words (drop i xs) w ≡ good (get_or xs i d).1
    unfolding by_words
    word-here t = at_drop_more (λ (ys : List (List ℕ × ValveType)). by_words ys w) xs i d h ∙ rw (sym e ∙ t)

    pub word-later : b ≡ false → by_words (drop i xs) w ≡ by_words (drop (i + 1) xs) w
    unfolding by_words
    word-later t = at_drop_more (λ (ys : List (List ℕ × ValveType)). by_words ys w) xs i d h ∙ rw (sym e ∙ t)

  pub words-over : length xs ≤ i → by_words (drop i xs) w ≡ bad UnknownWord
  unfolding by_words
  words-over h = rw (drop_of_length-le xs h)
