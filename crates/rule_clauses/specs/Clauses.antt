-- The code's answers as those of scope's Rules, and those of its definitions that the code reads in parts. Assumes nothing.
use Rattle.scope.specs.declared.Reason.{Reason}
use Rattle.std.specs.Prelude.{ℕ, Bool, true, false, cond, get_or, IfOk, List, [], ◌∷◌, Err, None, Ok, Option, Result, Some}
use Rattle.leaf_fields.specs.Fields.{Name, fields_at, name_in, Fits}
pub use Rattle.leaf_fields.specs.Fields.{opt_in, MayFit}
pub use Rattle.rule_values.specs.Values.{read_as, value_read}
use Rattle.leaf_letters.specs.Words.{same}
use Rattle.scope.specs.declared.Reason.TheVariants.{Missing}
use Rattle.scope.specs.declared.Reason.TheVariants as reason
use Rattle.scope.specs.declared.Target.{Target}
use Rattle.scope.specs.declared.Operator.{Operator}
use Rattle.scope.specs.declared.Value.{Value}
use Rattle.scope.specs.declared.Condition as C
use Rattle.scope.specs.Spelling.{word_rule, word_if, word_and, word_or, word_then, word_else, word_priority, word_is}
use Rattle.scope.specs.declared.Operator.TheVariants as operator
use Rattle.scope.specs.Records.{Network, Condition, Action, no_link}
use Rattle.scope.specs.Values.{Read, good, bad, on_read, Took, took, refused, on_took, on_found, name_from}
use Rattle.scope.specs.Rules as R
use Rattle.scope.specs.Rules.{system_target, node_target, tank_target, link_target, comparison_of, value_of, deed_of, kind_fits, Draft, ruled, conditioned, acted, anded, ranked}
use Rattle.rule_clauses.specs.declared.Owner.{Owner}
use Rattle.rule_clauses.specs.declared.Owner.TheVariants.{System, Node, Tank, Link}
use Rattle.rule_clauses.specs.declared.Aim.{Aim}
use Rattle.rule_clauses.specs.declared.ActionHead.{ActionHead}
use Rattle.rule_clauses.specs.declared.RuleWord.{RuleWord}
use Rattle.rule_clauses.specs.declared.RuleWord.TheVariants.{Rule, If, Or, Then, And, Else, Priority}

-- ---- targets
abbrev pub attribute_of : Owner → List ℕ → Option Target
attribute_of System w = system_target w
attribute_of Node w = node_target w
attribute_of Tank w = tank_target w
attribute_of Link w = link_target w

-- the attribute after SYSTEM, or after the id n
abbrev pub attribute_from : (List ℕ → Option Target) → Option Name → List Name → Took R.Aim
attribute_from target n [] = refused Missing
attribute_from target n (a ∷ fs) = R.aimed n (target a.letters) fs

abbrev pub aim_in : List ℕ → Aim → R.Aim
aim_in l a = record { target = a.target; name = opt_in l a.name }

abbrev pub target_read : List ℕ → Result Aim Reason → Took R.Aim
target_read l (Ok a) = took (aim_in l a) (fields_at l a.next)
target_read l (Err why) = refused why

abbrev pub TargetFits : List ℕ → Result Aim Reason → Type 0
TargetFits l r = IfOk r (λ a. MayFit l a.name)

-- ---- conditions
abbrev pub condition_in : List ℕ → C.Condition → Condition
condition_in l c = record { operator = c.operator; target = c.target; name = opt_in l c.name; comparison = c.comparison; value = c.value }

abbrev pub condition_read : List ℕ → Result C.Condition Reason → Read Condition
condition_read l = read_as (condition_in l)

abbrev pub ConditionFits : List ℕ → Result C.Condition Reason → Type 0
ConditionFits l r = IfOk r (λ c. MayFit l c.name)

-- a condition on what is aimed at, by the fields after that: the comparison and the value
unfoldable pub condition_on : Operator → R.Aim → List Name → Read Condition
condition_on o aim fs =
    on_took (name_from fs) (λ word fs.
    on_read (comparison_of word.letters) (λ comparison.
    on_read (value_of aim.target fs) (λ value.
    good (record { operator = o; target = aim.target; name = aim.name; comparison = comparison; value = value }))))

-- ---- actions, in three parts: the kind word and the id; the kind of the link; STATUS or SETTING, IS and the value
pub record Head : Type 0 where
  pub kind : Name
  pub id : Name

abbrev pub head_from : List Name → Took Head
head_from [] = refused Missing
head_from (k ∷ []) = refused Missing
head_from (k ∷ i ∷ fs) = took (record { kind = k; id = i }) fs

abbrev pub head_in : List ℕ → ActionHead → Head
head_in l h = record { kind = name_in l h.kind; id = name_in l h.id }

abbrev pub head_read : List ℕ → Result ActionHead Reason → Took Head
head_read l (Ok h) = took (head_in l h) (fields_at l h.id.end)
head_read l (Err why) = refused why

abbrev pub HeadFits : List ℕ → Result ActionHead Reason → Type 0
HeadFits l r = IfOk r (λ h. Fits l h.kind × Fits l h.id)

abbrev pub kind_read : Result Unit Reason → Read Unit
kind_read = read_as (λ u. u)

unfoldable pub deed_from : List Name → Read Value
deed_from fs =
    on_took (name_from fs) (λ what fs.
    on_took (name_from fs) (λ is fs.
    cond (same is.letters word_is)
    (on_took (name_from fs) (λ v fs. deed_of what.letters v))
    (bad reason.UnknownWord)))

abbrev pub action_with : Bool → ℕ → Name → Value → Action
action_with otherwise i id v = record { link = i; name = id; value = v; otherwise = otherwise }

-- an action, once its link is looked up
abbrev pub action_at : Bool → Network → Head → List Name → Option ℕ → Read Action
action_at otherwise m h fs f =
    on_found f (λ i.
    on_read (kind_fits h.kind.letters (get_or m.links i no_link).kind) (λ fits.
    on_read (deed_from fs) (λ v. good (action_with otherwise i h.id v))))
    (bad reason.NotFound)

-- ---- the first word of a line
unfoldable pub rule_word : List ℕ → Option RuleWord
rule_word w =
    cond (same w word_rule) (Some Rule)
    (cond (same w word_if) (Some If)
    (cond (same w word_or) (Some Or)
    (cond (same w word_then) (Some Then)
    (cond (same w word_and) (Some And)
    (cond (same w word_else) (Some Else)
    (cond (same w word_priority) (Some Priority) None))))))

-- a line, by its first word
abbrev pub line_by : Option RuleWord → Network → Draft → List Name → Read Draft
line_by (Some Rule) m d fs = ruled fs d
line_by (Some If) m d fs = conditioned operator.And fs d
line_by (Some Or) m d fs = conditioned operator.Or fs d
line_by (Some Then) m d fs = acted true d.otherwise false m fs d
line_by (Some And) m d fs = anded d.acting m fs d
line_by (Some Else) m d fs = acted d.acting true true m fs d
line_by (Some Priority) m d fs = ranked fs d
line_by None m d fs = bad reason.UnknownWord
