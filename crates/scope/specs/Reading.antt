-- Document 01, "What a reader of a crew sheet may rely on", and the demands: what strict and survey reading answer, and what they leave in every table that is lent. Assumes nothing.
use Rattle.std.specs.Prelude.{ℕ, Bool, true, false, cond, ◌||◌, List, [], ◌∷◌, ◌++◌, length, drop, ltb, Float}
use Rattle.scope_lines.specs.Reader.{Reply, accepted, stopped, Standing, standing, Mark, strict, survey_marks, survey_recs, count}
use Rattle.scope_lines.specs.Text.{Line, lines_of, piece_no}
use Rattle.scope_lines.specs.Tables.{code_of, reason_in, marks_in}
use Rattle.scope.specs.declared.Answer.{Answer}
use Rattle.scope.specs.declared.Survey.{Survey}
use Rattle.scope.specs.declared.Section.{Section}
use Rattle.scope.specs.declared.Section.TheVariants.{Passed}
use Rattle.scope.specs.declared.Reason.TheVariants.{TooLong, HighByte, SmallTable}
use Rattle.scope.specs.Sections.{room_text, room_lines}
use Rattle.scope.specs.Answers.{reason_no}
use Rattle.scope.specs.Records.{Network, no_network}
use Rattle.scope.specs.Lines.{inp}
use Rattle.scope.specs.Tables.{words_of, numbers_of}
use Rattle.scope.specs.Layout.{room_words, room_numbers}

-- ---- the two readings of a text: before any header, no group open, nothing stored
abbrev pub at_start : Standing Section Line Network
at_start = standing Passed [] no_network

unfoldable pub strict_of : List ℕ → Reply Line Network
strict_of text = strict inp false at_start (lines_of text)

unfoldable pub marks_of : List ℕ → List Mark
marks_of text = survey_marks inp false at_start (lines_of text)

unfoldable pub surveyed : List ℕ → Network
surveyed text = survey_recs inp false at_start (lines_of text)

-- ---- texts that are refused whole: "text over 65,536 bytes (before 21)", "a byte above 127 anywhere"
unfoldable pub all_low : List ℕ → Bool
all_low [] = true
all_low (b ∷ bs) = cond (ltb 127 b) false (all_low bs)

abbrev pub by_text : {A : Type 0} → List ℕ → A → A → A → A
by_text text long high a = cond (ltb room_text (length text)) long (cond (all_low text) a high)

-- ---- strict reading
abbrev pub says : ℕ → ℕ → Answer
says n l = record { number = n; line = l }

unfoldable pub told : Reply Line Network → Answer
told (accepted m) = says 0 0
told (stopped n p m) = says n (piece_no p)

unfoldable pub network_in : Reply Line Network → Network
network_in (accepted m) = m
network_in (stopped n p m) = m

-- "a buffer lent to be written is smaller than its room (before 20)": lengths of the words and of the numbers
unfoldable pub too_small : ℕ → ℕ → Bool
too_small w f = ltb w room_words || ltb f room_numbers

unfoldable pub strict_answer : List ℕ → ℕ → ℕ → Answer
strict_answer text w f =
    cond (too_small w f) (says (reason_no SmallTable) 0) (by_text text (says (reason_no TooLong) 0) (says (reason_no HighByte) 0) (told (strict_of text)))

-- the network that strict reading stores: none of a text that is refused whole
unfoldable pub strict_network : List ℕ → Network
strict_network text = by_text text no_network no_network (network_in (strict_of text))

-- a lent table that holds the network; what lies beyond its room stays as it was
abbrev pub words_holding : Network → List ℕ → List ℕ
words_holding m w = words_of m ++ drop room_words w

abbrev pub numbers_holding : Network → List Float → List Float
numbers_holding m f = numbers_of m ++ drop room_numbers f

unfoldable pub strict_words : List ℕ → List ℕ → ℕ → List ℕ
strict_words text w f = cond (too_small (length w) f) w (words_holding (strict_network text) w)

unfoldable pub strict_numbers : List ℕ → ℕ → List Float → List Float
strict_numbers text w f = cond (too_small w (length f)) f (numbers_holding (strict_network text) f)

-- ---- survey reading
abbrev pub no_survey : ℕ → Survey
no_survey n = record { number = n; lines = 0; blank = 0; header = 0; passed = 0; taken = 0; refused = 0; ruletaken = 0; rulerefused = 0; ruleopen = 0 }

-- "The eight counts add up to the lines of the text."
unfoldable pub survey_of : List ℕ → Survey
survey_of text =
    record {
      number = 0;
      lines = length (lines_of text);
      blank = count 1 (marks_of text);
      header = count 2 (marks_of text);
      passed = count 3 (marks_of text);
      taken = count 4 (marks_of text);
      refused = count 5 (marks_of text);
      ruletaken = count 6 (marks_of text);
      rulerefused = count 7 (marks_of text);
      ruleopen = count 8 (marks_of text);
    }

-- lengths of the words, the numbers, the classes and the reasons
unfoldable pub survey_small : ℕ → ℕ → ℕ → ℕ → Bool
survey_small w f c r = too_small w f || ltb c room_lines || ltb r room_lines

unfoldable pub survey_network : List ℕ → Network
survey_network text = by_text text no_network no_network (surveyed text)

-- "zero in every class and reason" of a text that is refused whole; "entries after the last line are zero"
unfoldable pub survey_marked : List ℕ → List Mark
survey_marked text = by_text text [] [] (marks_of text)

abbrev pub marks_holding : (Mark → ℕ) → List Mark → List ℕ → List ℕ
marks_holding g ms c = marks_in g room_lines ms ++ drop room_lines c

module _ (text : List ℕ) (w : List ℕ) (f : List Float) (c r : List ℕ) where
  -- one of the four tables is too small
  abbrev pub lacking : Bool
  lacking = survey_small (length w) (length f) (length c) (length r)

  unfoldable pub survey_answer : Survey
  survey_answer = cond lacking (no_survey (reason_no SmallTable)) (by_text text (no_survey (reason_no TooLong)) (no_survey (reason_no HighByte)) (survey_of text))

  unfoldable pub survey_words : List ℕ
  survey_words = cond lacking w (words_holding (survey_network text) w)

  unfoldable pub survey_numbers : List Float
  survey_numbers = cond lacking f (numbers_holding (survey_network text) f)

  unfoldable pub survey_classes : List ℕ
  survey_classes = cond lacking c (marks_holding code_of (survey_marked text) c)

  unfoldable pub survey_reasons : List ℕ
  survey_reasons = cond lacking r (marks_holding reason_in (survey_marked text) r)
