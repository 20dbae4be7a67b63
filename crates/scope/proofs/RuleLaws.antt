-- Rule groups are read alike where places are forgotten. Assumes nothing.
use Rattle.std.specs.Prelude.{None, Option, Some}
use Prim.Native.Nat.{ℕ, ◌+◌}
use mathlib.Core.Path.{◌≡◌, refl, ap, ap₂, sym, ◌∙◌, subst}
use mathlib.Core.Bool.{Bool, true, false, ◌&&◌, ◌||◌}
use mathlib.Core.List.{List, [], ◌∷◌, ◌++◌, map, map-append}
use lib.ListN.{length, get_or, length-map, get_or-map}
use lib.Dec.{ltb, leb}
use Rattle.leaf_fields.specs.Fields.{Name}
use Rattle.leaf_letters.specs.Words.{same}
use Rattle.scope.specs.declared.Target.{Target}
use Rattle.scope.specs.declared.Operator.{Operator}
use Rattle.scope.specs.declared.Operator.TheVariants.{And, Or}
use Rattle.scope.specs.Spelling.{word_rule, word_if, word_and, word_or, word_then, word_else, word_priority, word_system, word_node, word_tank, word_is, word_open, word_closed, word_active}
use Rattle.scope.specs.Sections.{room_rules, room_clauses}
use Rattle.scope.specs.Records as R
use Rattle.scope.specs.Records.{Network, LinkKind, pipe, pump, valve, Rule, Clause, condition, action, with_rules, with_clauses, rule_ids, lookup, no_link}
use Rattle.scope.specs.Values.{count_from}
use Rattle.scope.specs.Rules.{system_target, node_target, tank_target, link_target, Aim, aimed, system_from, named_from, is_link_word, aim_from, comparison_of}
use Rattle.scope.specs.Rules.{is_time, measured, value_of, condition_of, kind_fits, deed_of, action_of, Draft, no_draft, with_clause, conditioned, acted, anded}
use Rattle.scope.specs.Rules.{line_of, lines_of, is_condition, is_action, some?, with_rule, add_rule, named, judged, group_step}
use Rattle.scope.specs.Bare.{forget, forget_maybe, forget_link, forget_link_kind, forget_rule, forget_clause, forget_condition, forget_action, bare}
use Rattle.scope.proofs.Carry.{ReadLike, goods, bads, TookLike, tooks, refuseds, itself, same_read, on-took, on_read-law, on-found, on-cond, on-if, took-if, name, lookup-ids}
use Rattle.scope.proofs.LinkLaws.{link-found}
use Rattle.scope.proofs.TimeLaws.{time-at}

-- ---- conditions
abbrev forget_aim : Aim → Aim
forget_aim a = record { target = a.target; name = forget_maybe a.name }

aims : (n : Option Name) (t : Option Target) (fs : List Name) → TookLike forget_aim (aimed n t fs) (aimed (forget_maybe n) t (map forget fs))
aims n None fs = refuseds
aims n (Some t) fs = tooks

system-from : (fs : List Name) → TookLike forget_aim (system_from fs) (system_from (map forget fs))
system-from [] = refuseds
system-from (a ∷ fs) = aims None (system_target a.letters) fs

named-from : (target : List ℕ → Option Target) (fs : List Name) → TookLike forget_aim (named_from target fs) (named_from target (map forget fs))
named-from target [] = refuseds
named-from target (n ∷ []) = refuseds
named-from target (n ∷ a ∷ fs) = aims (Some n) (target a.letters) fs

aim-from : (fs : List Name) → TookLike forget_aim (aim_from fs) (aim_from (map forget fs))
unfolding aim_from
aim-from [] = refuseds
aim-from (w ∷ fs) =
    took-if (same w.letters word_system) (system-from fs)
    (took-if (same w.letters word_node) (named-from node_target fs)
    (took-if (same w.letters word_tank) (named-from tank_target fs)
    (took-if (is_link_word w.letters) (named-from link_target fs) refuseds)))

measures : (t : Bool) (v : Name) (fs : List Name) → ReadLike itself (measured t v fs) (measured t (forget v) (map forget fs))
measures true v fs = on_read-law _ (time-at v fs) (λ n. same_read _)
measures false v fs = same_read _

value-of : (t : Target) (fs : List Name) → ReadLike itself (value_of t fs) (value_of t (map forget fs))
unfolding value_of
value-of t [] = bads
value-of t (v ∷ fs) =
    on-if (same v.letters word_open) (goods refl)
    (on-if (same v.letters word_closed) (goods refl)
    (on-if (same v.letters word_active) (goods refl) (measures (is_time t) v fs)))

condition-of : (o : Operator) (fs : List Name) → ReadLike forget_condition (condition_of o fs) (condition_of o (map forget fs))
unfolding condition_of
condition-of o fs =
    on-took _ (aim-from fs) (λ aim fs.
    on-took _ (name fs) (λ word fs.
    on_read-law _ (same_read (comparison_of word.letters)) (λ comparison.
    on_read-law _ (value-of aim.target fs) (λ value. goods refl))))

-- ---- actions
fits-kind : (w : List ℕ) (k : LinkKind) → ReadLike itself (kind_fits w k) (kind_fits w (forget_link_kind k))
unfolding kind_fits
fits-kind w (pipe p) = same_read _
fits-kind w (pump p) = same_read (kind_fits w (pump p))
fits-kind w (valve v) = same_read (kind_fits w (valve v))

link_at : (m : Network) (i : ℕ) → forget_link (get_or m.links i no_link) ≡ get_or (bare m).links i no_link
link_at m i = sym (get_or-map forget_link m.links i no_link)

fits-link : (w : List ℕ) (m : Network) (i : ℕ) → ReadLike itself (kind_fits w (get_or m.links i no_link).kind) (kind_fits w (get_or (bare m).links i no_link).kind)
fits-link w m i =
    let l : R.Link = get_or m.links i no_link in
    subst (λ (x : R.Link). ReadLike itself (kind_fits w l.kind) (kind_fits w x.kind)) (link_at m i) (fits-kind w l.kind)

action-of : (otherwise : Bool) (m : Network) (fs : List Name) → ReadLike forget_action (action_of otherwise m fs) (action_of otherwise (bare m) (map forget fs))
unfolding action_of deed_of
action-of otherwise m fs =
    on-took _ (name fs) (λ kind fs.
    on-took _ (name fs) (λ id fs.
    on-found _ (link-found m id.letters) (λ i.
    on_read-law _ (fits-link kind.letters m i) (λ fits.
    on-took _ (name fs) (λ what fs.
    on-took _ (name fs) (λ is fs.
    on-if (same is.letters word_is)
    (on-took _ (name fs) (λ v fs.
    on_read-law _ (same_read (deed_of what.letters v)) (λ value. goods refl)))
    bads))))
    bads))

-- ---- groups
abbrev forget_draft : Draft → Draft
forget_draft d = record { id = forget_maybe d.id; priority = d.priority; acting = d.acting; otherwise = d.otherwise; clauses = map forget_clause d.clauses }

clause-added : (acting otherwise : Bool) (c : Clause) (d : Draft) → forget_draft (with_clause acting otherwise c d) ≡ with_clause acting otherwise (forget_clause c) (forget_draft d)
clause-added acting otherwise c d =
    ap (λ cs. record { id = forget_maybe d.id; priority = d.priority; acting = acting; otherwise = otherwise; clauses = cs }) (map-append forget_clause d.clauses (c ∷ []))

conditions : (o : Operator) (fs : List Name) (d : Draft) → ReadLike forget_draft (conditioned o fs d) (conditioned o (map forget fs) (forget_draft d))
conditions o fs d = on_read-law _ (condition-of o fs) (λ c. goods (clause-added d.acting d.otherwise (condition c) d))

acts : (acting otherwise marked : Bool) (m : Network) (fs : List Name) (d : Draft)
    → ReadLike forget_draft (acted acting otherwise marked m fs d) (acted acting otherwise marked (bare m) (map forget fs) (forget_draft d))
acts acting otherwise marked m fs d = on_read-law _ (action-of marked m fs) (λ a. goods (clause-added acting otherwise (action a) d))

ands : (acting : Bool) (m : Network) (fs : List Name) (d : Draft) → ReadLike forget_draft (anded acting m fs d) (anded acting (bare m) (map forget fs) (forget_draft d))
ands false m fs d = conditions And fs d
ands true m fs d = acts true d.otherwise d.otherwise m fs d

count-from : (fs : List Name) → ReadLike itself (count_from fs) (count_from (map forget fs))
count-from [] = bads
count-from (f ∷ fs) = same_read _

line-of : (m : Network) (d : Draft) (fs : List Name) → ReadLike forget_draft (line_of m d fs) (line_of (bare m) (forget_draft d) (map forget fs))
unfolding line_of
line-of m d [] = bads
line-of m d (w ∷ fs) =
    on-if (same w.letters word_rule) (on-took _ (name fs) (λ n fs. goods refl))
    (on-if (same w.letters word_if) (conditions And fs d)
    (on-if (same w.letters word_or) (conditions Or fs d)
    (on-if (same w.letters word_then) (acts true d.otherwise false m fs d)
    (on-if (same w.letters word_and) (ands d.acting m fs d)
    (on-if (same w.letters word_else) (acts d.acting true true m fs d)
    (on-if (same w.letters word_priority) (on_read-law _ (count-from fs) (λ n. goods refl)) bads))))))

lines-of : (m : Network) (d : Draft) (ls : List (List Name)) → ReadLike forget_draft (lines_of m d ls) (lines_of (bare m) (forget_draft d) (map (map forget) ls))
unfolding lines_of
lines-of m d [] = goods refl
lines-of m d (l ∷ ls) = on_read-law _ (line-of m d l) (λ e. lines-of m e ls)

clause-kinds : (is : Clause → Bool) → ((c : Clause) → is c ≡ is (forget_clause c)) → (cs : List Clause) → some? is cs ≡ some? is (map forget_clause cs)
clause-kinds is h [] = refl
clause-kinds is h (c ∷ cs) = ap₂ ◌||◌ (h c) (clause-kinds is h cs)

condition-stays : (c : Clause) → is_condition c ≡ is_condition (forget_clause c)
condition-stays (condition c) = refl
condition-stays (action a) = refl

action-stays : (c : Clause) → is_action c ≡ is_action (forget_clause c)
action-stays (condition c) = refl
action-stays (action a) = refl

rule_found : (m : Network) (w : List ℕ) → lookup (rule_ids m) w ≡ lookup (rule_ids (bare m)) w
rule_found m w = lookup-ids (λ r. r.id) forget_rule (λ r. refl) m.rules w

clauses-long : (cs : List Clause) → length cs ≡ length (map forget_clause cs)
clauses-long cs = sym (length-map cs forget_clause)

abbrev rule_of : Name → Draft → ℕ → ℕ → Rule
rule_of id d first count = record { id = id; priority = d.priority; first = first; count = count }

rule-added : (id : Name) (d : Draft) (m : Network) → bare (with_rule id d m) ≡ with_rule (forget id) (forget_draft d) (bare m)
rule-added id d m =
    ap₂ (λ rs cs. with_clauses cs (with_rules rs (bare m)))
    (map-append forget_rule m.rules (rule_of id d (length m.clauses) (length d.clauses) ∷ [])
    ∙ ap₂ (λ a b. map forget_rule m.rules ++ (rule_of (forget id) d a b ∷ [])) (clauses-long m.clauses) (clauses-long d.clauses))
    (map-append forget_clause m.clauses d.clauses)

add-rule : (id : Name) (d : Draft) (m : Network) → ReadLike bare (add_rule id d m) (add_rule (forget id) (forget_draft d) (bare m))
unfolding add_rule
add-rule id d m =
    on-found _ (rule_found m id.letters) (λ i. bads)
    (on-cond _
    (ap (λ a. ltb a room_rules && leb (length m.clauses + length d.clauses) room_clauses) (sym (length-map m.rules forget_rule))
    ∙ ap₂ (λ a b. ltb (length (bare m).rules) room_rules && leb (a + b) room_clauses) (clauses-long m.clauses) (clauses-long d.clauses))
    (goods (rule-added id d m)) bads)

names : (id : Option Name) (d : Draft) (m : Network) → ReadLike bare (named id d m) (named (forget_maybe id) (forget_draft d) (bare m))
names None d m = bads
names (Some id) d m = add-rule id d m

judges : (d : Draft) (m : Network) → ReadLike bare (judged d m) (judged (forget_draft d) (bare m))
unfolding judged
judges d m =
    on-cond _ (clause-kinds is_condition condition-stays d.clauses)
    (on-cond _ (clause-kinds is_action action-stays d.clauses) (names d.id d m) bads) bads

pub group-step : (ls : List (List Name)) (m : Network) → ReadLike bare (group_step ls m) (group_step (map (map forget) ls) (bare m))
unfolding group_step
group-step ls m = on_read-law _ (lines-of m no_draft ls) (λ d. judges d m)
