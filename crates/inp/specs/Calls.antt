-- A survey by pointers and lengths: what `read_strict::read_survey` gives, with its counts in a fifth table, which may be too small as well. Assumes nothing.
use Rattle.std.specs.Prelude.{ℕ, Bool, cond, List, [], ◌∷◌, length, eqb, ltb, Float}
use Rattle.scope.specs.declared.Survey.{Survey}
use Rattle.scope.specs.Reading.{survey_answer, survey_words, survey_numbers, survey_classes, survey_reasons}
use Rattle.table_rows.specs.Table.{splice}

-- how many lines, and how many of each class
abbrev pub count_words : Survey → List ℕ
count_words s =
    s.lines ∷ s.blank ∷ s.header ∷ s.passed ∷ s.taken ∷ s.refused ∷ s.ruletaken ∷ s.rulerefused ∷ s.ruleopen ∷ []

-- what was lent: the text, the tables, the counts
module _ (text : List ℕ) (w : List ℕ) (f : List Float) (c r k : List ℕ) where
  abbrev pub short : Bool
  short = ltb (length k) 9

  unfoldable pub number_of : ℕ
  number_of = cond short 28 (survey_answer text w f c r).number

  unfoldable pub counts_after : List ℕ
  counts_after = cond (eqb number_of 28) k (splice k 0 (count_words (survey_answer text w f c r)))

  unfoldable pub words_after : List ℕ
  words_after = cond short w (survey_words text w f c r)

  unfoldable pub numbers_after : List Float
  numbers_after = cond short f (survey_numbers text w f c r)

  unfoldable pub classes_after : List ℕ
  classes_after = cond short c (survey_classes text w f c r)

  unfoldable pub reasons_after : List ℕ
  reasons_after = cond short r (survey_reasons text w f c r)
