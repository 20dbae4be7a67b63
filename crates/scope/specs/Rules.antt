-- Document 01, "Records by section": rules. A group's lines are read one after another; nothing is stored before all of them are good. Assumes nothing.
use Rattle.std.specs.Prelude.{ℕ, ◌+◌, ◌^◌, Bool, true, false, cond, ◌&&◌, ◌||◌, List, [], ◌∷◌, ◌++◌, length, get_or, ltb, leb, pos, Float, None, Option, Some}
use Rattle.std.specs.Float.{binary64}
use Rattle.std.specs.Float.Ieee.{of_int}
use Rattle.leaf_decimals.specs.Numbers.{number_of}
use Rattle.leaf_fields.specs.Fields.{Name}
use Rattle.leaf_letters.specs.Words.{same}
use Rattle.scope.specs.declared.Reason.TheVariants.{Missing, Used, NotFound, WrongKind, UnknownWord, NoCondition, NoAction, NoId, BeyondReach, NoRoom}
use Rattle.scope.specs.declared.SystemAttribute.TheVariants as system
use Rattle.scope.specs.declared.NodeAttribute.TheVariants as node
use Rattle.scope.specs.declared.TankAttribute.TheVariants as tankHas
use Rattle.scope.specs.declared.LinkAttribute.TheVariants as link
use Rattle.scope.specs.declared.Target.{Target}
use Rattle.scope.specs.declared.Target.TheVariants.{System, Node, Tank, Link}
use Rattle.scope.specs.declared.Comparison.{Comparison}
use Rattle.scope.specs.declared.Comparison.TheVariants.{Equal, NotEqual, Above, Below, AtLeast, AtMost}
use Rattle.scope.specs.declared.Operator.{Operator}
use Rattle.scope.specs.declared.Operator.TheVariants.{And, Or}
use Rattle.scope.specs.declared.Value.{Value}
use Rattle.scope.specs.declared.Value.TheVariants.{Number, Status}
use Rattle.scope.specs.declared.LinkStatus.TheVariants.{Open, Closed, Active}
use Rattle.scope.specs.Spelling.{word_rule, word_if, word_and, word_or, word_then, word_else, word_priority, word_system, word_node, word_tank, word_link, word_pipe}
use Rattle.scope.specs.Spelling.{word_valve, word_pump, word_demand, word_time, word_clocktime, word_head, word_pressure, word_level, word_filltime, word_draintime}
use Rattle.scope.specs.Spelling.{word_flow, word_status, word_setting, word_is, sign_equals, word_not, sign_unequal, word_above, sign_above, word_below, sign_below}
use Rattle.scope.specs.Spelling.{sign_at_least, sign_at_most, word_open, word_closed, word_active}
use Rattle.scope.specs.Sections.{room_rules, room_clauses}
use Rattle.scope.specs.Records.{Network, LinkKind, pipe, pump, valve, Clause, condition, action, Condition, Action, with_rules, with_clauses, link_ids, rule_ids, lookup, no_link}
use Rattle.scope.specs.Values.{Read, good, bad, on_read, Took, took, refused, on_took, on_found, name_from, as_number, count_from, time_at}

-- ---- "a condition's target is one of four kinds, each with its own attribute (system, node, tank, link); ids in conditions are not looked up"
abbrev pub system_target : List ℕ → Option Target
system_target w =
    cond (same w word_demand) (Some (System system.Demand))
    (cond (same w word_time) (Some (System system.Time))
    (cond (same w word_clocktime) (Some (System system.Clocktime)) None))

abbrev pub node_target : List ℕ → Option Target
node_target w =
    cond (same w word_demand) (Some (Node node.Demand))
    (cond (same w word_head) (Some (Node node.Head))
    (cond (same w word_pressure) (Some (Node node.Pressure)) None))

abbrev pub tank_target : List ℕ → Option Target
tank_target w =
    cond (same w word_level) (Some (Tank tankHas.Level))
    (cond (same w word_filltime) (Some (Tank tankHas.Filltime))
    (cond (same w word_draintime) (Some (Tank tankHas.Draintime)) None))

abbrev pub link_target : List ℕ → Option Target
link_target w =
    cond (same w word_flow) (Some (Link link.Flow))
    (cond (same w word_status) (Some (Link link.Status))
    (cond (same w word_setting) (Some (Link link.Setting)) None))

-- the target, and the id of a node, a tank or a link
pub record Aim : Type 0 where
  pub target : Target
  pub name : Option Name

abbrev pub aimed : Option Name → Option Target → List Name → Took Aim
aimed n None fs = refused UnknownWord
aimed n (Some t) fs = took (record { target = t; name = n }) fs

-- the attribute after SYSTEM; the id and the attribute after another word
abbrev pub system_from : List Name → Took Aim
system_from [] = refused Missing
system_from (a ∷ fs) = aimed None (system_target a.letters) fs

abbrev pub named_from : (List ℕ → Option Target) → List Name → Took Aim
named_from target [] = refused Missing
named_from target (n ∷ []) = refused Missing
named_from target (n ∷ a ∷ fs) = aimed (Some n) (target a.letters) fs

abbrev pub is_link_word : List ℕ → Bool
is_link_word w = same w word_link || same w word_pipe || same w word_valve || same w word_pump

unfoldable pub aim_from : List Name → Took Aim
aim_from [] = refused Missing
aim_from (w ∷ fs) =
    cond (same w.letters word_system) (system_from fs)
    (cond (same w.letters word_node) (named_from node_target fs)
    (cond (same w.letters word_tank) (named_from tank_target fs)
    (cond (is_link_word w.letters) (named_from link_target fs) (refused UnknownWord))))

-- "Comparisons are IS or =, NOT or <>, ABOVE or >, BELOW or <, >= and <=, in capitals."
unfoldable pub comparison_of : List ℕ → Read Comparison
comparison_of w =
    cond (same w word_is || same w sign_equals) (good Equal)
    (cond (same w word_not || same w sign_unequal) (good NotEqual)
    (cond (same w word_above || same w sign_above) (good Above)
    (cond (same w word_below || same w sign_below) (good Below)
    (cond (same w sign_at_least) (good AtLeast)
    (cond (same w sign_at_most) (good AtMost) (bad UnknownWord))))))

-- "A condition's value is a number or one of three status words. System TIME and CLOCKTIME values are times; above 2^53 seconds they are 22."
abbrev pub is_time : Target → Bool
is_time (System system.Demand) = false
is_time (System system.Time) = true
is_time (System system.Clocktime) = true
is_time (Node a) = false
is_time (Tank a) = false
is_time (Link a) = false

abbrev pub seconds_value : ℕ → Read Value
seconds_value n = cond (leb n (2 ^ 53)) (good (Number (of_int binary64 (pos n)))) (bad BeyondReach)

abbrev pub number_value : Took Float → Read Value
number_value (took x fs) = good (Number x)
number_value (refused r) = bad r

abbrev pub measured : Bool → Name → List Name → Read Value
measured true v fs = on_read (time_at v fs) seconds_value
measured false v fs = number_value (as_number (number_of v.letters) [])

unfoldable pub value_of : Target → List Name → Read Value
value_of t [] = bad Missing
value_of t (v ∷ fs) =
    cond (same v.letters word_open) (good (Status Open))
    (cond (same v.letters word_closed) (good (Status Closed))
    (cond (same v.letters word_active) (good (Status Active)) (measured (is_time t) v fs)))

-- a condition, by the fields after its first word
unfoldable pub condition_of : Operator → List Name → Read Condition
condition_of o fs =
    on_took (aim_from fs) (λ aim fs.
    on_took (name_from fs) (λ word fs.
    on_read (comparison_of word.letters) (λ comparison.
    on_read (value_of aim.target fs) (λ value.
    good (record { operator = o; target = aim.target; name = aim.name; comparison = comparison; value = value })))))

-- ---- "Actions: link looked up (4) before the kind word (7), then the kind (5)."
abbrev pub is_pipe : LinkKind → Bool
is_pipe (pipe p) = true
is_pipe (pump p) = false
is_pipe (valve v) = false

abbrev pub is_pump : LinkKind → Bool
is_pump (pipe p) = false
is_pump (pump p) = true
is_pump (valve v) = false

abbrev pub is_valve : LinkKind → Bool
is_valve (pipe p) = false
is_valve (pump p) = false
is_valve (valve v) = true

abbrev pub of_kind : Bool → Read Unit
of_kind true = good tt
of_kind false = bad WrongKind

unfoldable pub kind_fits : List ℕ → LinkKind → Read Unit
kind_fits w k =
    cond (same w word_link) (good tt)
    (cond (same w word_pipe) (of_kind (is_pipe k))
    (cond (same w word_valve) (of_kind (is_valve k))
    (cond (same w word_pump) (of_kind (is_pump k)) (bad UnknownWord))))

-- STATUS and OPEN or CLOSED, or SETTING and a number
abbrev pub status_value : List ℕ → Read Value
status_value w = cond (same w word_open) (good (Status Open)) (cond (same w word_closed) (good (Status Closed)) (bad UnknownWord))

unfoldable pub deed_of : List ℕ → Name → Read Value
deed_of what v =
    cond (same what word_status) (status_value v.letters)
    (cond (same what word_setting) (number_value (as_number (number_of v.letters) [])) (bad UnknownWord))

-- an action, by the fields after its first word; `otherwise` where it is an else action
unfoldable pub action_of : Bool → Network → List Name → Read Action
action_of otherwise m fs =
    on_took (name_from fs) (λ kind fs.
    on_took (name_from fs) (λ id fs.
    on_found (lookup (link_ids m) id.letters) (λ i.
    on_read (kind_fits kind.letters (get_or m.links i no_link).kind) (λ fits.
    on_took (name_from fs) (λ what fs.
    on_took (name_from fs) (λ is fs.
    cond (same is.letters word_is)
    (on_took (name_from fs) (λ v fs.
    on_read (deed_of what.letters v) (λ value.
    good (record { link = i; name = id; value = value; otherwise = otherwise }))))
    (bad UnknownWord)))))
    (bad NotFound)))

-- ---- a group, as far as its lines are read: whether a THEN was, whether an ELSE was
pub record Draft : Type 0 where
  pub id : Option Name
  pub priority : Option ℕ
  pub acting : Bool
  pub otherwise : Bool
  pub clauses : List Clause

abbrev pub no_draft : Draft
no_draft = record { id = None; priority = None; acting = false; otherwise = false; clauses = [] }

abbrev pub with_id : Name → Draft → Draft
with_id n d = record { id = Some n; priority = d.priority; acting = d.acting; otherwise = d.otherwise; clauses = d.clauses }

abbrev pub with_priority : ℕ → Draft → Draft
with_priority n d = record { id = d.id; priority = Some n; acting = d.acting; otherwise = d.otherwise; clauses = d.clauses }

abbrev pub with_clause : Bool → Bool → Clause → Draft → Draft
with_clause acting otherwise c d = record { id = d.id; priority = d.priority; acting = acting; otherwise = otherwise; clauses = d.clauses ++ (c ∷ []) }

abbrev pub ruled : List Name → Draft → Read Draft
ruled fs d = on_took (name_from fs) (λ n fs. good (with_id n d))

abbrev pub conditioned : Operator → List Name → Draft → Read Draft
conditioned o fs d = on_read (condition_of o fs) (λ c. good (with_clause d.acting d.otherwise (condition c) d))

-- an action; a THEN or an ELSE was read with it or before it
abbrev pub acted : Bool → Bool → Bool → Network → List Name → Draft → Read Draft
acted acting otherwise marked m fs d = on_read (action_of marked m fs) (λ a. good (with_clause acting otherwise (action a) d))

-- "AND is a condition until a THEN has been read, else an action."
abbrev pub anded : Bool → Network → List Name → Draft → Read Draft
anded false m fs d = conditioned And fs d
anded true m fs d = acted true d.otherwise d.otherwise m fs d

-- "The last PRIORITY counts."
abbrev pub ranked : List Name → Draft → Read Draft
ranked fs d = on_read (count_from fs) (λ n. good (with_priority n d))

-- "ELSE marks its action as an else action and every later AND action too; a THEN action is never one."
unfoldable pub line_of : Network → Draft → List Name → Read Draft
line_of m d [] = bad Missing
line_of m d (w ∷ fs) =
    cond (same w.letters word_rule) (ruled fs d)
    (cond (same w.letters word_if) (conditioned And fs d)
    (cond (same w.letters word_or) (conditioned Or fs d)
    (cond (same w.letters word_then) (acted true d.otherwise false m fs d)
    (cond (same w.letters word_and) (anded d.acting m fs d)
    (cond (same w.letters word_else) (acted d.acting true true m fs d)
    (cond (same w.letters word_priority) (ranked fs d) (bad UnknownWord)))))))

unfoldable pub lines_of : Network → Draft → List (List Name) → Read Draft
lines_of m d [] = good d
lines_of m d (l ∷ ls) = on_read (line_of m d l) (λ e. lines_of m e ls)

-- ---- "a rule group has no condition; no action; no id, in that order"; then 3; then 23
abbrev pub is_condition : Clause → Bool
is_condition (condition c) = true
is_condition (action a) = false

abbrev pub is_action : Clause → Bool
is_action (condition c) = false
is_action (action a) = true

abbrev pub some? : (Clause → Bool) → List Clause → Bool
some? is [] = false
some? is (c ∷ cs) = is c || some? is cs

abbrev pub with_rule : Name → Draft → Network → Network
with_rule id d m =
    with_clauses (m.clauses ++ d.clauses)
    (with_rules (m.rules ++ (record { id = id; priority = d.priority; first = length m.clauses; count = length d.clauses } ∷ [])) m)

unfoldable pub add_rule : Name → Draft → Network → Read Network
add_rule id d m =
    on_found (lookup (rule_ids m) id.letters) (λ i. bad Used)
    (cond (ltb (length m.rules) room_rules && leb (length m.clauses + length d.clauses) room_clauses) (good (with_rule id d m)) (bad NoRoom))

abbrev pub named : Option Name → Draft → Network → Read Network
named None d m = bad NoId
named (Some id) d m = add_rule id d m

unfoldable pub judged : Draft → Network → Read Network
judged d m = cond (some? is_condition d.clauses) (cond (some? is_action d.clauses) (named d.id d m) (bad NoAction)) (bad NoCondition)

-- what a group's lines, as their fields, do to the network: "Links are looked up when the group closes."
unfoldable pub group_step : List (List Name) → Network → Read Network
group_step ls m = on_read (lines_of m no_draft ls) (λ d. judged d m)
