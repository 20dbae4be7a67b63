-- What a line of a group says, and how the code has it. The rules themselves stand in scope's Rules. Assumes nothing.
use Rattle.scope.specs.declared.Reason.{Reason}
use Rattle.std.specs.Prelude.{ℕ, Bool, true, false, List, [], ◌∷◌, IfOk, None, Option, Result, Some}
use Rattle.leaf_fields.specs.Fields.{Name, name_in, Fits}
use Rattle.scope.specs.declared.Reason.TheVariants as reason
use Rattle.scope.specs.declared.Operator.TheVariants as operator
use Rattle.scope.specs.declared.Action as A
use Rattle.scope.specs.Records.{Network, Condition, Action, condition, action}
use Rattle.scope.specs.Values.{Read, good, bad, on_read, on_took, name_from, count_from}
use Rattle.scope.specs.Rules.{Draft, condition_of, action_of, with_id, with_priority, with_clause}
use Rattle.rule_clauses.specs.Clauses.{MayFit, read_as, condition_in, rule_word}
use Rattle.rule_clauses.specs.declared.RuleWord.{RuleWord}
use Rattle.rule_clauses.specs.declared.RuleWord.TheVariants as word
use Rattle.rule_lines.specs.declared.Saying.{Saying}
use Rattle.rule_lines.specs.declared.Saying.TheVariants as saying

-- ---- actions
abbrev pub action_in : List ℕ → A.Action → Action
action_in l a = record { link = a.link; name = name_in l a.name; value = a.value; otherwise = a.otherwise }

abbrev pub action_read : List ℕ → Result A.Action Reason → Read Action
action_read l = read_as (action_in l)

abbrev pub ActionFits : List ℕ → Result A.Action Reason → Type 0
ActionFits l r = IfOk r (λ a. Fits l a.name)

-- ---- what a line says: the id, the priority, a condition; an action, with whether a THEN and an ELSE were read with it or before it
pub data Said : Type 0 where
  said_id : Name → Said
  said_rank : ℕ → Said
  said_condition : Condition → Said
  said_action : Bool → Bool → Action → Said

abbrev pub with_said : Said → Draft → Draft
with_said (said_id n) d = with_id n d
with_said (said_rank n) d = with_priority n d
with_said (said_condition c) d = with_clause d.acting d.otherwise (condition c) d
with_said (said_action acting otherwise a) d = with_clause acting otherwise (action a) d

-- by its first word, and whether a THEN and an ELSE were read before it
abbrev pub id_said : List Name → Read Said
id_said fs = on_took (name_from fs) (λ n fs. good (said_id n))

abbrev pub and_said : Bool → Network → Bool → List Name → Read Said
and_said false m otherwise fs = on_read (condition_of operator.And fs) (λ c. good (said_condition c))
and_said true m otherwise fs = on_read (action_of otherwise m fs) (λ a. good (said_action true otherwise a))

abbrev pub said_by : Option RuleWord → Network → Bool → Bool → List Name → Read Said
said_by (Some word.Rule) m acting otherwise fs = id_said fs
said_by (Some word.If) m acting otherwise fs = on_read (condition_of operator.And fs) (λ c. good (said_condition c))
said_by (Some word.Or) m acting otherwise fs = on_read (condition_of operator.Or fs) (λ c. good (said_condition c))
said_by (Some word.Then) m acting otherwise fs = on_read (action_of false m fs) (λ a. good (said_action true otherwise a))
said_by (Some word.And) m acting otherwise fs = and_said acting m otherwise fs
said_by (Some word.Else) m acting otherwise fs = on_read (action_of true m fs) (λ a. good (said_action acting true a))
said_by (Some word.Priority) m acting otherwise fs = on_read (count_from fs) (λ n. good (said_rank n))
said_by None m acting otherwise fs = bad reason.UnknownWord

unfoldable pub said_of : Network → Bool → Bool → List Name → Read Said
said_of m acting otherwise [] = bad reason.Missing
said_of m acting otherwise (w ∷ fs) = said_by (rule_word w.letters) m acting otherwise fs

-- what the code says of it; its names lie in l
abbrev pub said_in : List ℕ → Saying → Said
said_in l (saying.Named s) = said_id (name_in l s)
said_in l (saying.Ranked n) = said_rank n
said_in l (saying.Condition c) = said_condition (condition_in l c)
said_in l (saying.Action a) = said_action a.acting a.otherwise (action_in l a.action)

abbrev pub said_read : List ℕ → Result Saying Reason → Read Said
said_read l = read_as (said_in l)

abbrev pub SayingFits : List ℕ → Saying → Type 0
SayingFits l (saying.Named s) = Fits l s
SayingFits l (saying.Ranked n) = Unit
SayingFits l (saying.Condition c) = MayFit l c.name
SayingFits l (saying.Action a) = Fits l a.action.name

abbrev pub LineFits : List ℕ → Result Saying Reason → Type 0
LineFits l r = IfOk r (SayingFits l)
