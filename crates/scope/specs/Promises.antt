-- The words of the theorems in proofs/Theorems.antt: demand 3, and "What a reader of a crew sheet may rely on". Assumes nothing.
use Rattle.std.specs.Prelude.{ℕ, ◌≤◌, ◌≡◌, true, false, List, ◌∷◌, ◌++◌, length, get_or, Float}
use Rattle.scope_lines.specs.Reader.{Mark, marked, blank, rule_taken, unclosed, after, marks}
use Rattle.scope_lines.specs.Text.{Line, lines_of, strike_text, renumber}
use Rattle.scope_lines.specs.Demand3.{EndsAt, up_to_struck}
use Rattle.scope_lines.specs.Stretch.{owned}
use Rattle.scope.specs.declared.Section.TheVariants.{Passed}
use Rattle.scope.specs.Sections.{room_text, room_lines}
use Rattle.scope.specs.Records.{Network, no_network}
use Rattle.scope.specs.Lines.{inp}
use Rattle.scope.specs.Layout.{room_words, room_numbers}
use Rattle.scope.specs.Reading.{at_start, all_low, marks_of, survey_of, survey_classes, survey_reasons}

-- a text that is not refused whole
pub record Readable (text : List ℕ) : Type 0 where
  pub short : length text ≤ room_text
  pub low : all_low text ≡ true

-- tables with room: lengths of the words and of the numbers
pub record Roomy (w f : ℕ) : Type 0 where
  pub words : room_words ≤ w
  pub numbers : room_numbers ≤ f

-- ..and for a survey: the words, the numbers, the classes and the reasons
pub record SurveyRoom (w : List ℕ) (f : List Float) (c r : List ℕ) : Type 0 where
  pub words : room_words ≤ length w
  pub numbers : room_numbers ≤ length f
  pub classes : room_lines ≤ length c
  pub reasons : room_lines ≤ length r

-- the text without its refused lines and the lines of its refused groups
abbrev pub struck_text : List ℕ → List ℕ
struck_text text = strike_text (marks_of text) text

-- the text up to the line after the lines `before`, the refusals in these struck
abbrev pub up_to_line : List ℕ → List Line → List ℕ
up_to_line text before = up_to_struck inp false Passed no_network text before

-- the number that line i has there: how many of the lines up to it are kept
abbrev pub number_then : List Line → ℕ → ℕ
number_then before i = renumber (marks inp false unclosed at_start before) i

-- "A group ends at the line that closes it": the one that `first` opens, after the lines `before`, at `closer`, after the lines `mid`
abbrev pub GroupEnds : List Line → Line → List Line → Line → Type 0
GroupEnds before first mid closer = EndsAt inp false at_start before first mid closer

-- the lines of that group: its first and, of `mid`, those that stand in RULES and are neither blank nor headers
abbrev pub group_lines : List Line → Line → List Line → List Line
group_lines before first mid = first ∷ owned inp.sort inp.rules (after inp false at_start before).sec mid

-- what the lines `before` store in a survey
abbrev pub stored_by : List Line → Network
stored_by before = (after inp false at_start before).recs

-- what the survey says of the line after the first i
abbrev pub mark_at : List ℕ → ℕ → Mark
mark_at text i = get_or (marks_of text) i (marked blank 0)

-- a group of the class rule taken, before which i rules are stored
pub record TakenAt (text : List ℕ) (i : ℕ) : Type 0 where
  pub before : List Line
  pub first : Line
  pub mid : List Line
  pub closer : Line
  pub rest : List Line
  pub splits : lines_of text ≡ before ++ first ∷ (mid ++ closer ∷ rest)
  pub ends : GroupEnds before first mid closer
  pub taken : (mark_at text (length before)).class ≡ rule_taken
  pub place : length (stored_by (before ++ first ∷ mid)).rules ≡ i

-- what the survey says of the line after the first i, in the tables that it is lent for classes and reasons
module _ (text w : List ℕ) (f : List Float) (c r : List ℕ) where
  abbrev pub class_at : ℕ → ℕ
  class_at i = get_or (survey_classes text w f c r) i 0

  abbrev pub reason_at : ℕ → ℕ
  reason_at i = get_or (survey_reasons text w f c r) i 0

-- the survey refuses nothing
pub record NoRefusal (text : List ℕ) : Type 0 where
  pub no_line : (survey_of text).refused ≡ 0
  pub no-group : (survey_of text).rulerefused ≡ 0
