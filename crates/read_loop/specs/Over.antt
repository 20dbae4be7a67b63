-- What going over a text gives: to strict reading, and to a survey. Assumes nothing.
use Rattle.std.specs.Prelude.{ℕ, ◌≡◌, List, length, take, replicate, Float, Option, None, Some}
use Rattle.scope_lines.specs.Tables.{code_of, reason_in, marks_in}
use Rattle.scope.specs.declared.Counts.{Counts}
use Rattle.scope.specs.declared.Answer.{Answer}
use Rattle.scope.specs.Answers.{reason_no}
use Rattle.read_marks.specs.declared.Refusal.{Refusal}
use Rattle.scope.specs.Sections.{room_lines}
use Rattle.scope.specs.Reading.{says, told, strict_of, network_in, survey_of, surveyed, marks_of}
use Rattle.table_rows.specs.Holding.{Holds}
use Rattle.read_marks.specs.Counted.{counted}

-- nothing is marked yet, and there is room for every line
abbrev pub Unmarked : List ℕ → List ℕ → Type 0
Unmarked c r = (length c ≡ room_lines) × (length r ≡ room_lines) × (c ≡ replicate (length c) 0) × (r ≡ replicate (length r) 0)

-- what is said of a refusal, or of none
abbrev pub said_of : Option Refusal → Answer
said_of None = says 0 0
said_of (Some r) = says (reason_no r.reason) r.piece

-- strict reading: the refusal that ended it
abbrev pub Done : List ℕ → List ℕ → List Float → Option Refusal → Counts → Type 0
Done text w f r n = (said_of r ≡ told (strict_of text)) × Holds text (network_in (strict_of text)) n w f

-- a survey: the marks of its lines
abbrev pub Overseen : List ℕ → List ℕ → List Float → List ℕ → List ℕ → ℕ → Counts → Type 0
Overseen text w f c r lines n =
    (counted (take lines c) lines ≡ survey_of text) × Holds text (surveyed text) n w f
    × (c ≡ marks_in code_of room_lines (marks_of text)) × (r ≡ marks_in reason_in room_lines (marks_of text))
