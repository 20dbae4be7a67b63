-- How often the stored rules close, open, activate and set links. Assumes nothing.
use Rattle.std.specs.Prelude.{ℕ, zero, suc, ◌+◌, ◌≡◌, Bool, true, false, cond, ◌&&◌, List, [], ◌∷◌, ◌++◌, length, get_or, take, drop, ltb, Float, Option, Some, None}
use Rattle.scope.specs.Records.{Network, Rule, Clause, condition, action, Action, counts_of, no_rule}
use Rattle.scope.specs.Tables.{tally_words}
use Rattle.scope.specs.Layout.{record_words}
use Rattle.scope.specs.declared.LinkStatus.TheVariants.{Open, Closed, Active}
use Rattle.scope.specs.declared.Value.{Value}
use Rattle.scope.specs.declared.Value.TheVariants.{Number, Status}
use Rattle.stored_records.specs.Back.{Stands}
use Rattle.sheet_actions.specs.declared.Moves.{Moves}
use Rattle.sheet_actions.specs.Steps.{is_branch, is_at}

-- the tables as a reading leaves them: they hold the network, and its counts stand after its records
pub record Tallied (m : Network) (w : List ℕ) (f : List Float) : Type 0 where
  pub stands : Stands m w f
  pub rest : List ℕ
  pub counts : drop record_words w ≡ tally_words (counts_of m) ++ rest

-- ---- what an action does: one of four things
abbrev pub closes : Value → Bool
closes (Status Closed) = true
closes (Status Open) = false
closes (Status Active) = false
closes (Number x) = false

abbrev pub opens : Value → Bool
opens (Status Closed) = false
opens (Status Open) = true
opens (Status Active) = false
opens (Number x) = false

abbrev pub activates : Value → Bool
activates (Status Closed) = false
activates (Status Open) = false
activates (Status Active) = true
activates (Number x) = false

abbrev pub sets : Value → Bool
sets (Status Closed) = false
sets (Status Open) = false
sets (Status Active) = false
sets (Number x) = true

-- ---- which actions are meant: those under ELSE or those under THEN, of any link or of the link at a place
abbrev pub chosen : Option ℕ → Bool → Action → Bool
chosen which otherwise a = is_branch otherwise a.otherwise && is_at which a.link

-- ---- how many of the actions are as asked; a condition counts nothing
abbrev pub one_if : Bool → ℕ
one_if b = cond b 1 0

unfoldable pub how_many : (Action → Bool) → List Clause → ℕ
how_many asked [] = 0
how_many asked (condition c ∷ cs) = how_many asked cs
how_many asked (action a ∷ cs) = one_if (asked a) + how_many asked cs

abbrev pub moves_of : (Action → Bool) → List Clause → Moves
moves_of meant cs =
    record {
      closes = how_many (λ a. meant a && closes a.value) cs;
      opens = how_many (λ a. meant a && opens a.value) cs;
      activates = how_many (λ a. meant a && activates a.value) cs;
      sets = how_many (λ a. meant a && sets a.value) cs;
    }

-- ---- of a rule, of a link, of all rules
abbrev pub clauses_of : Network → Rule → List Clause
clauses_of m r = take r.count (drop r.first m.clauses)

abbrev pub rule_moves : Network → ℕ → Bool → Moves
rule_moves m i otherwise = moves_of (chosen None otherwise) (clauses_of m (get_or m.rules i no_rule))

abbrev pub link_moves : Network → ℕ → Bool → Moves
link_moves m i otherwise = moves_of (chosen (Some i) otherwise) m.clauses

abbrev pub all_moves : Network → Bool → Moves
all_moves m otherwise = moves_of (chosen None otherwise) m.clauses

-- ---- what a crew does when every closure is opened again. At a link: its closings, and its openings or as many as its closings, whichever are more:
-- each closure needs an opening, and an opening without a closure is a move too.
abbrev pub larger : ℕ → ℕ → ℕ
larger a b = cond (ltb a b) b a

abbrev pub made : Moves → Moves → ℕ
made then otherwise = (then.closes + otherwise.closes) + larger (then.closes + otherwise.closes) (then.opens + otherwise.opens)

abbrev pub made_at : Network → ℕ → ℕ
made_at m i = made (link_moves m i false) (link_moves m i true)

-- at the first n links
unfoldable pub made_below : Network → ℕ → ℕ
made_below m zero = 0
made_below m (suc n) = made_below m n + made_at m n

-- at all links
abbrev pub made_in_all : Network → ℕ
made_in_all m = made_below m (length m.links)
