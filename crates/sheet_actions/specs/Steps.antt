-- Which actions are meant, and what one clause adds to the counts. Assumes nothing.
use Rattle.std.specs.Prelude.{ℕ, ◌+◌, ◌≤◌, Bool, true, false, cond, ◌&&◌, not, eqb, Option, Some, None}
use Rattle.scope.specs.declared.LinkStatus.{LinkStatus}
use Rattle.scope.specs.declared.LinkStatus.TheVariants.{Open, Closed, Active}
use Rattle.scope.specs.declared.Value.{Value}
use Rattle.scope.specs.declared.Value.TheVariants.{Number, Status}
use Rattle.stored_records.specs.declared.Clause.{Clause}
use Rattle.stored_records.specs.declared.Clause.TheVariants.{Condition, Action}
use Rattle.sheet_actions.specs.declared.Moves.{Moves}

-- under ELSE or under THEN, of any link or of the link at a place
abbrev pub is_branch : Bool → Bool → Bool
is_branch true otherwise = otherwise
is_branch false otherwise = not otherwise

abbrev pub is_at : Option ℕ → ℕ → Bool
is_at None link = true
is_at (Some i) link = eqb link i

-- each of the four counts is at most n
pub record Few (n : ℕ) (x : Moves) : Type 0 where
  pub closes : x.closes ≤ n
  pub opens : x.opens ≤ n
  pub activates : x.activates ≤ n
  pub sets : x.sets ≤ n

-- the counts with one move more
abbrev pub with_status : Moves → LinkStatus → Moves
with_status n Closed = record { closes = n.closes + 1; opens = n.opens; activates = n.activates; sets = n.sets }
with_status n Open = record { closes = n.closes; opens = n.opens + 1; activates = n.activates; sets = n.sets }
with_status n Active = record { closes = n.closes; opens = n.opens; activates = n.activates + 1; sets = n.sets }

abbrev pub with_move : Moves → Value → Moves
with_move n (Status s) = with_status n s
with_move n (Number x) = record { closes = n.closes; opens = n.opens; activates = n.activates; sets = n.sets + 1 }

-- the counts with what a clause adds
abbrev pub with_clause : Option ℕ → Bool → Moves → Clause → Moves
with_clause which otherwise n (Condition c) = n
with_clause which otherwise n (Action a) = cond (is_branch otherwise a.otherwise && is_at which a.link) (with_move n a.value) n
