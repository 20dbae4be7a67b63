-- An option of two words, by a table of the words. Assumes nothing.
use Prim.Native.Nat.{ℕ, ◌+◌, ◌<◌, ◌≤◌}
use mathlib.Core.Path.{◌≡◌, sym, ◌∙◌}
use mathlib.Core.Bool.{Bool, true, false, cond, ◌&&◌}
use mathlib.Core.List.{List, [], ◌∷◌}
use lib.ListN.{length, get_or, drop}
use Rattle.std.proofs.Common.{Bor, drop_of_length-le}
use Rattle.std.proofs.lemmas.List.{at_drop_more}
use Rattle.leaf_letters.specs.Words.{spelled}
use Rattle.scope.specs.declared.TimeOption.{TimeOption}
use Rattle.scope.specs.declared.TimeOption.TheVariants.{Dropped}

-- the option of the first row of the table whose words a and b spell
unfoldable pub by_words : List (Bor (List ℕ) × Bor (List ℕ) × TimeOption) → List ℕ → List ℕ → TimeOption
by_words [] a b = Dropped
by_words (x ∷ xs) a b = cond (spelled a x.0.now && spelled b x.1.now) x.2 (by_words xs a b)

module _ (xs : List (Bor (List ℕ) × Bor (List ℕ) × TimeOption)) (a b : List ℕ) (i : ℕ) where
  module _ (d : Bor (List ℕ) × Bor (List ℕ) × TimeOption) (h : i < length xs) {r : Bool} (e : r ≡ (spelled a (get_or xs i d).0.now && spelled b (get_or xs i d).1.now)) where
    pub words-here : r ≡ true → by_words (drop i xs) a b ≡ (get_or xs i d).2
    unfolding by_words
    words-here t = at_drop_more (λ (ys : List (Bor (List ℕ) × Bor (List ℕ) × TimeOption)). by_words ys a b) xs i d h ∙ rw (sym e ∙ t)

    pub words-later : r ≡ false → by_words (drop i xs) a b ≡ by_words (drop (i + 1) xs) a b
    unfolding by_words
    words-later t = at_drop_more (λ (ys : List (Bor (List ℕ) × Bor (List ℕ) × TimeOption)). by_words ys a b) xs i d h ∙ rw (sym e ∙ t)

  pub words-over : length xs ≤ i → by_words (drop i xs) a b ≡ Dropped
  unfolding by_words
  words-over h = rw (drop_of_length-le xs h)
