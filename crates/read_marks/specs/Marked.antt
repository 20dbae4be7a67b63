-- What a line that closes a group, or a piece that is refused, makes of the marks. Assumes nothing.
use Rattle.std.specs.Prelude.{ℕ, ◌-◌, List, set, Option, None, Some}
use Rattle.scope_lines.specs.Tables.{refilled}
use Rattle.scope.specs.Answers.{reason_no}
use Rattle.read_marks.specs.declared.Closed.{Closed}
use Rattle.read_marks.specs.declared.Refusal.{Refusal}

-- the class of the group that a line closed, and the number of a refusal; 0 for none
abbrev pub closed_no : Option Closed → ℕ
closed_no None = 0
closed_no (Some c) = c.class

abbrev pub refused_no : Option Refusal → ℕ
refused_no None = 0
refused_no (Some r) = reason_no r.reason

-- the classes, where the group is closed at the line of this number, counted from 0; the reasons
abbrev pub closed_in : Option Closed → ℕ → List ℕ → List ℕ
closed_in None line xs = xs
closed_in (Some c) line xs = refilled xs (c.first - 1) line c.class

abbrev pub refused_in : Option Refusal → List ℕ → List ℕ
refused_in None xs = xs
refused_in (Some r) xs = set xs (r.piece - 1) (reason_no r.reason)
