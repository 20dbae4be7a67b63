-- Document 01 on the lines of a rule group, said of the group as a whole: which of its lines are conditions and which are actions, and what a group that is taken stores. The words of
-- the theorems `group-stores` and `taken-stands`; a line is given by its fields. Assumes nothing.
use Rattle.std.specs.Prelude.{ℕ, ◌<◌, ◌≡◌, Bool, false, cond, not, ◌&&◌, ◌||◌, List, [], ◌∷◌, ◌++◌, map, length, take, drop, get_or, None, Option, Some}
use Rattle.leaf_fields.specs.Fields.{Name, rest}
use Rattle.leaf_letters.specs.Words.{same}
use Rattle.scope.specs.declared.Operator.TheVariants.{And, Or}
use Rattle.scope.specs.Spelling.{word_rule, word_if, word_and, word_or, word_then, word_else, word_priority}
use Rattle.scope.specs.Records.{Network, Rule, Clause, condition, action, Condition, Action, with_rules, with_clauses, no_rule}
use Rattle.scope.specs.Values.{Read, good, on_read, on_took, name_from, count_from}
use Rattle.scope.specs.Rules.{condition_of, action_of}

-- a line with the first word w; whether there is one among some lines; the last of them that is one
abbrev pub opens_with : List ℕ → List Name → Bool
opens_with w [] = false
opens_with w (f ∷ fs) = same f.letters w

unfoldable pub among : List ℕ → List (List Name) → Bool
among w [] = false
among w (l ∷ ls) = opens_with w l || among w ls

unfoldable pub last_from : Option (List Name) → List ℕ → List (List Name) → Option (List Name)
last_from o w [] = o
last_from o w (l ∷ ls) = last_from (cond (opens_with w l) (Some l) o) w ls

abbrev pub last_with : List ℕ → List (List Name) → Option (List Name)
last_with w ls = last_from None w ls

-- ---- "AND is a condition until a THEN has been read, else an action": by the lines before it, is a line a condition; is it an action?
abbrev pub is_condition_line : List (List Name) → List Name → Bool
is_condition_line before l = opens_with word_if l || opens_with word_or l || (opens_with word_and l && not (among word_then before))

abbrev pub is_action_line : List (List Name) → List Name → Bool
is_action_line before l = opens_with word_then l || opens_with word_else l || (opens_with word_and l && among word_then before)

-- "ELSE marks its action as an else action and every later AND action too; a THEN action is never one."
abbrev pub is_else_line : List (List Name) → List Name → Bool
is_else_line before l = opens_with word_else l || (opens_with word_and l && among word_else before)

-- any other line than these and RULE and PRIORITY
abbrev pub is_other_line : List (List Name) → List Name → Bool
is_other_line before l = not (opens_with word_rule l || opens_with word_priority l || is_condition_line before l || is_action_line before l)

-- what a condition or an action says, by the fields after its first word
abbrev pub condition_on : List Name → Read Condition
condition_on l = condition_of (cond (opens_with word_or l) Or And) (rest l)

abbrev pub action_on : Network → List (List Name) → List Name → Read Action
action_on m before l = action_of (is_else_line before l) m (rest l)

-- ---- of all lines of a group, in order: what each says, by the lines before it
unfoldable pub over_lines : {X : Type 0} → (List (List Name) → List Name → List X) → List (List Name) → List (List Name) → List X
over_lines say before [] = []
over_lines say before (l ∷ ls) = say before l ++ over_lines say (before ++ (l ∷ [])) ls

abbrev pub condition_at : List (List Name) → List Name → List (Read Condition)
condition_at before l = cond (is_condition_line before l) (condition_on l ∷ []) []

abbrev pub action_at : Network → List (List Name) → List Name → List (Read Action)
action_at m before l = cond (is_action_line before l) (action_on m before l ∷ []) []

abbrev pub clause_at : Network → List (List Name) → List Name → List (Read Clause)
clause_at m before l =
    cond (is_condition_line before l) (on_read (condition_on l) (λ c. good (condition c)) ∷ []) []
    ++ cond (is_action_line before l) (on_read (action_on m before l) (λ a. good (action a)) ∷ []) []

abbrev pub else_at : List (List Name) → List Name → List Bool
else_at before l = cond (is_action_line before l) (is_else_line before l ∷ []) []

abbrev pub other_at : List (List Name) → List Name → List (List Name)
other_at before l = cond (is_other_line before l) (l ∷ []) []

abbrev pub conditions_from : List (List Name) → List (Read Condition)
conditions_from ls = over_lines condition_at [] ls

abbrev pub actions_from : Network → List (List Name) → List (Read Action)
actions_from m ls = over_lines (action_at m) [] ls

-- ..which of these are else actions
abbrev pub elses_from : List (List Name) → List Bool
elses_from ls = over_lines else_at [] ls

abbrev pub clauses_from : Network → List (List Name) → List (Read Clause)
clauses_from m ls = over_lines (clause_at m) [] ls

abbrev pub others_from : List (List Name) → List (List Name)
others_from ls = over_lines other_at [] ls

-- the id is that of the last RULE line; "The last PRIORITY counts."
abbrev pub id_from : Option (List Name) → Read (Option Name)
id_from None = good None
id_from (Some l) = on_took (name_from (rest l)) (λ n fs. good (Some n))

abbrev pub priority_from : Option (List Name) → Read (Option ℕ)
priority_from None = good None
priority_from (Some l) = on_read (count_from (rest l)) (λ n. good (Some n))

-- ---- the conditions, and the actions, among some clauses
abbrev pub conditions_in : List Clause → List Condition
conditions_in [] = []
conditions_in (condition c ∷ cs) = c ∷ conditions_in cs
conditions_in (action a ∷ cs) = conditions_in cs

abbrev pub actions_in : List Clause → List Action
actions_in [] = []
actions_in (condition c ∷ cs) = actions_in cs
actions_in (action a ∷ cs) = a ∷ actions_in cs

-- ---- a rule and its clauses `new` are what the lines ls say, links being looked up in m: each line that says a clause was good, none is lost, added or moved, and there are
-- no other lines but RULE and PRIORITY
pub record Says (ls : List (List Name)) (m : Network) (rule : Rule) (new : List Clause) : Type 0 where
  pub clauses : map (λ (c : Clause). good c) new ≡ clauses_from m ls
  pub conditions : map (λ (c : Condition). good c) (conditions_in new) ≡ conditions_from ls
  pub actions : map (λ (a : Action). good a) (actions_in new) ≡ actions_from m ls
  pub elses : map (λ (a : Action). a.otherwise) (actions_in new) ≡ elses_from ls
  pub others : others_from ls ≡ []
  pub count : rule.count ≡ length new
  pub id : id_from (last_with word_rule ls) ≡ good (Some rule.id)
  pub priority : priority_from (last_with word_priority ls) ≡ good rule.priority

-- the group makes m' of m: one rule more, and its clauses behind the others, which it spans; all else is as it was
pub record Stores (ls : List (List Name)) (m m' : Network) : Type 0 where
  pub rule : Rule
  pub new : List Clause
  pub says : Says ls m rule new
  pub stored : m' ≡ with_clauses (m.clauses ++ new) (with_rules (m.rules ++ (rule ∷ [])) m)
  pub first : rule.first ≡ length m.clauses
  pub spans : take rule.count (drop rule.first m'.clauses) ≡ new

-- ..and in a network n that is read on from there, the rule after the rules of m spans these clauses
pub record StoredIn (ls : List (List Name)) (m n : Network) : Type 0 where
  pub rule : Rule
  pub new : List Clause
  pub says : Says ls m rule new
  pub inside : length m.rules < length n.rules
  pub placed : get_or n.rules (length m.rules) no_rule ≡ rule
  pub spans : take rule.count (drop rule.first n.clauses) ≡ new
