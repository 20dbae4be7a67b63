-- What a line does, in the numbers that a program keeps. Assumes nothing.
use Rattle.std.specs.Prelude.{◌≡◌, Bool, true, false, ℕ}
use Rattle.scope_lines.specs.Reader.{Verdict, good, bad, Standing, Outcome, still, filed, joins, closes, Own, itself, last, fresh, still_class, code, group_class, fate_of, a_group, unclosed, mark}
use Rattle.scope_lines.specs.Text.{Line, piece_no}

-- the number of a refusal, 0 for none
unfoldable pub refusal_in : {R : Type 0} → Verdict R → ℕ
refusal_in (good r) = 0
refusal_in (bad n) = n

unfoldable pub fine_in : {R : Type 0} → Verdict R → Bool
fine_in (good r) = true
fine_in (bad n) = false

unfoldable pub refusal : {S R : Type 0} → Outcome S R → ℕ
refusal (still c s) = 0
refusal (filed v) = refusal_in v
refusal joins = 0
refusal (closes v own) = refusal_in v

unfoldable pub fine : {S R : Type 0} → Outcome S R → Bool
fine (still c s) = true
fine (filed v) = fine_in v
fine joins = true
fine (closes v own) = fine_in v

-- the class of the group that the line closes, 0 for none
unfoldable pub closed_by : {S R : Type 0} → Outcome S R → ℕ
closed_by (still c s) = 0
closed_by (filed v) = 0
closed_by joins = 0
closed_by (closes v own) = code (group_class (fate_of v))

-- the number of the piece that ends at line l: the line's own, or that of the group's first line; 0 for none
unfoldable pub piece_by : {S R : Type 0} → Standing S Line R → Line → Outcome S R → ℕ
piece_by m l (still c s) = 0
piece_by m l (filed v) = l.no
piece_by m l joins = 0
piece_by m l (closes v own) = piece_no (a_group m.group)

-- the class of the line that closes a group, whose class is k
unfoldable pub own_class : {S : Type 0} → Own S → ℕ → ℕ
own_class (itself c s) k = code (still_class c)
own_class last k = k
own_class fresh k = 8

-- what the code says of line l, read where the reading stands at m, and whose outcome is o
pub record Tells {S R : Type 0} (m : Standing S Line R) (l : Line) (o : Outcome S R) (class closed reason piece : ℕ) : Type 0 where
  pub its-class : class ≡ code (mark m o unclosed).class
  pub its-closed : closed ≡ closed_by o
  pub its-reason : reason ≡ refusal o
  pub its-piece : piece ≡ piece_by m l o
  pub fair : refusal o ≡ 0 → fine o ≡ true
