-- What a group that is taken stores: its conditions and its actions, line by line. Assumes nothing.
use Rattle.std.specs.Prelude.{None, Some, Option}
use Prim.Native.Nat.{ℕ, ◌+◌}
use native.Mathlib.Omega.{arith}
use mathlib.Core.Path.{◌≡◌, refl, ap, ap₂, sym, ◌∙◌, subst}
use mathlib.Core.Bool.{Bool, true, false, cond, ◌&&◌, ◌||◌}
use mathlib.Core.List.{List, [], ◌∷◌, ◌++◌, map, append_assoc, append-nil, map-append}
use lib.ListN.{length, take, drop, get_or}
use lib.Seq.{take-length, drop-append_seam}
use lib.Dec.{ltb, leb}
use Rattle.leaf_fields.specs.Fields.{Name, rest}
use Rattle.leaf_letters.specs.Words.{same}
use Rattle.leaf_letters.proofs.WordLaws.{same-equal}
use Rattle.scope.specs.declared.Reason.TheVariants.{Used, NoCondition, NoAction, NoRoom}
use Rattle.scope.specs.declared.Operator.{Operator}
use Rattle.scope.specs.declared.Operator.TheVariants.{And, Or}
use Rattle.scope.specs.Spelling.{word_rule, word_if, word_and, word_or, word_then, word_else, word_priority, word_is}
use Rattle.scope.specs.Sections.{room_rules, room_clauses}
use Rattle.scope.specs.Records.{Network, Clause, condition, action, Condition, Action, link_ids, rule_ids, lookup, no_link}
use Rattle.scope.specs.Values.{Read, good, bad, on_read, on_found, name_from, count_from}
use Rattle.scope.specs.Rules.{Draft, no_draft, with_id, with_priority, with_clause, condition_of, kind_fits, deed_of, action_of, anded, line_of, lines_of}
use Rattle.scope.specs.Rules.{is_condition, is_action, some?, with_rule, add_rule, named, judged, group_step}
use Rattle.scope.specs.Groups.{opens_with, among, last_from, last_with, is_condition_line, is_action_line, is_else_line, condition_on, action_on, over_lines}
use Rattle.scope.specs.Groups.{condition_at, action_at, clause_at, else_at, other_at, conditions_from, actions_from, elses_from, others_from, clauses_from, id_from}
use Rattle.scope.specs.Groups.{priority_from, conditions_in, actions_in, Stores}
use Rattle.scope.proofs.WrittenLaws.{Fine, goodly, badly, from_found, from-if}
use Rattle.scope.proofs.Untouched.{from-read, from-took}

abbrev Ls : Type 0
Ls = List (List Name)

-- ---- one line more
or-false : (b : Bool) → b ≡ (b || false)
or-false true = refl
or-false false = refl

or-true : (b : Bool) → true ≡ (b || true)
or-true true = refl
or-true false = refl

among-more : (w : List ℕ) (ls : Ls) (l : List Name) → among w (ls ++ (l ∷ [])) ≡ (among w ls || opens_with w l)
unfolding among
among-more w [] l = sym (or-false (opens_with w l))
among-more w (x ∷ ls) l = go (opens_with w x) (among-more w ls l)
  where
    go : (b : Bool) → among w (ls ++ (l ∷ [])) ≡ (among w ls || opens_with w l) → (b || among w (ls ++ (l ∷ []))) ≡ ((b || among w ls) || opens_with w l)
    go true e = refl
    go false e = e

last_more : (o : Option (List Name)) (w : List ℕ) (ls : Ls) (l : List Name) → last_from o w (ls ++ (l ∷ [])) ≡ cond (opens_with w l) (Some l) (last_from o w ls)
unfolding last_from
last_more o w [] l = refl
last_more o w (x ∷ ls) l = last_more (cond (opens_with w x) (Some x) o) w ls l

over-more : {X : Type 0} (say : Ls → List Name → List X) (b ls : Ls) (l : List Name) → over_lines say b (ls ++ (l ∷ [])) ≡ over_lines say b ls ++ say (b ++ ls) l
unfolding over_lines
over-more say b [] l = append-nil (say b l) ∙ ap (λ x. say x l) (sym (append-nil b))
over-more say b (x ∷ ls) l =
    ap (λ xs. say b x ++ xs) (over-more say (b ++ (x ∷ [])) ls l ∙ ap (λ y. over_lines say (b ++ (x ∷ [])) ls ++ say y l) (append_assoc b (x ∷ []) ls))
    ∙ sym (append_assoc (say b x) (over_lines say (b ++ (x ∷ [])) ls) (say (b ++ x ∷ ls) l))

conditions-append : (xs ys : List Clause) → conditions_in (xs ++ ys) ≡ conditions_in xs ++ conditions_in ys
conditions-append [] ys = refl
conditions-append (condition c ∷ xs) ys = ap (λ (l : List Condition). c ∷ l) (conditions-append xs ys)
conditions-append (action a ∷ xs) ys = conditions-append xs ys

actions-append : (xs ys : List Clause) → actions_in (xs ++ ys) ≡ actions_in xs ++ actions_in ys
actions-append [] ys = refl
actions-append (condition c ∷ xs) ys = actions-append xs ys
actions-append (action a ∷ xs) ys = ap (λ (l : List Action). a ∷ l) (actions-append xs ys)

-- an action is marked as it is read
fine-good : {A : Type 0} {P : A → Type 0} {r : Read A} {a : A} → Fine P r → r ≡ good a → P a
fine-good {P = P} (goodly p) e = subst P (cc) p
fine-good badly e = absurd (let z : ◌≡◌ {A = ℕ} 0 1 = cc in omega arith)

action-marked : (mark : Bool) (m : Network) (fs : List Name) (a : Action) → action_of mark m fs ≡ good a → a.otherwise ≡ mark
unfolding action_of
action-marked mark m fs a k =
    fine-good {P = λ (x : Action). x.otherwise ≡ mark}
    (from-took (name_from fs) (λ kind fs.
    from-took (name_from fs) (λ id fs.
    from_found (lookup (link_ids m) id.letters) (λ i.
    from-read (kind_fits kind.letters (get_or m.links i no_link).kind) (λ fits.
    from-took (name_from fs) (λ what fs.
    from-took (name_from fs) (λ is fs.
    from-if (same is.letters word_is)
    (from-took (name_from fs) (λ v fs. from-read (deed_of what.letters v) (λ value. goodly refl)))
    badly))))
    badly))) k

-- ---- the draft of the lines ls, and what the line l adds to it
abbrev goods : {A : Type 0} → List A → List (Read A)
goods xs = map (λ x. good x) xs

abbrev elses_in : List Clause → List Bool
elses_in cs = map (λ (a : Action). a.otherwise) (actions_in cs)

record Drafted (m : Network) (ls : Ls) (d : Draft) : Type 0 where
  acting : d.acting ≡ among word_then ls
  otherwise : d.otherwise ≡ among word_else ls
  clauses : goods d.clauses ≡ clauses_from m ls
  conditions : goods (conditions_in d.clauses) ≡ conditions_from ls
  actions : goods (actions_in d.clauses) ≡ actions_from m ls
  elses : elses_in d.clauses ≡ elses_from ls
  others : others_from ls ≡ []
  id : id_from (last_with word_rule ls) ≡ good d.id
  priority : priority_from (last_with word_priority ls) ≡ good d.priority

record Adds (m : Network) (ls : Ls) (d : Draft) (l : List Name) (e : Draft) : Type 0 where
  new : List Clause
  acting : e.acting ≡ (d.acting || opens_with word_then l)
  otherwise : e.otherwise ≡ (d.otherwise || opens_with word_else l)
  with-new : e.clauses ≡ d.clauses ++ new
  clauses : goods new ≡ clause_at m ls l
  conditions : goods (conditions_in new) ≡ condition_at ls l
  actions : goods (actions_in new) ≡ action_at m ls l
  elses : elses_in new ≡ else_at ls l
  others : other_at ls l ≡ []
  id : id_from (cond (opens_with word_rule l) (Some l) (last_with word_rule ls)) ≡ good e.id
  priority : priority_from (cond (opens_with word_priority l) (Some l) (last_with word_priority ls)) ≡ good e.priority

goods-append : {A : Type 0} (xs ys : List A) → goods (xs ++ ys) ≡ goods xs ++ goods ys
goods-append xs ys = map-append (λ x. good x) xs ys

module _ (m : Network) (ls : Ls) (d : Draft) (drafted : Drafted m ls d) where
  one_more : (l : List Name) (e : Draft) → Adds m ls d l e → Drafted m (ls ++ (l ∷ [])) e
  one_more l e a = record {
    acting = a.acting ∙ ap (◌|| opens_with word_then l) drafted.acting ∙ sym (among-more word_then ls l);
    otherwise = a.otherwise ∙ ap (◌|| opens_with word_else l) drafted.otherwise ∙ sym (among-more word_else ls l);
    clauses = ap goods a.with-new ∙ goods-append d.clauses a.new ∙ ap₂ (λ x y. x ++ y) drafted.clauses a.clauses ∙ sym (over-more (clause_at m) [] ls l);
    conditions = ap (λ cs. goods (conditions_in cs)) a.with-new ∙ ap goods (conditions-append d.clauses a.new) ∙ goods-append (conditions_in d.clauses) (conditions_in a.new)
        ∙ ap₂ (λ x y. x ++ y) drafted.conditions a.conditions ∙ sym (over-more condition_at [] ls l);
    actions = ap (λ cs. goods (actions_in cs)) a.with-new ∙ ap goods (actions-append d.clauses a.new) ∙ goods-append (actions_in d.clauses) (actions_in a.new)
        ∙ ap₂ (λ x y. x ++ y) drafted.actions a.actions ∙ sym (over-more (action_at m) [] ls l);
    elses = ap elses_in a.with-new ∙ ap (map (λ (x : Action). x.otherwise)) (actions-append d.clauses a.new)
        ∙ map-append (λ (x : Action). x.otherwise) (actions_in d.clauses) (actions_in a.new)
        ∙ ap₂ (λ x y. x ++ y) drafted.elses a.elses ∙ sym (over-more else_at [] ls l);
    others = over-more other_at [] ls l ∙ ap₂ (λ x y. x ++ y) drafted.others a.others;
    id = ap id_from (last_more None word_rule ls l) ∙ a.id;
    priority = ap priority_from (last_more None word_priority ls l) ∙ a.priority;
  }

  -- ---- a line, by what it is
  module _ (l : List Name) (no-rule : opens_with word_rule l ≡ false) (no-priority : opens_with word_priority l ≡ false) where
    same_id : id_from (cond (opens_with word_rule l) (Some l) (last_with word_rule ls)) ≡ good d.id
    same_id = rw no-rule drafted.id

    same-priority : priority_from (cond (opens_with word_priority l) (Some l) (last_with word_priority ls)) ≡ good d.priority
    same-priority = rw no-priority drafted.priority

    an-action : (t u mark : Bool) (a : Action) → t ≡ (d.acting || opens_with word_then l) → u ≡ (d.otherwise || opens_with word_else l)
        → is_condition_line ls l ≡ false → is_action_line ls l ≡ true → is_else_line ls l ≡ mark → action_of mark m (rest l) ≡ good a
        → Adds m ls d l (with_clause t u (action a) d)
    an-action t u mark a et eu nc ya em k =
        let w : action_on m ls l ≡ good a = ap (λ x. action_of x m (rest l)) em ∙ k in
        record {
          new = action a ∷ [];
          acting = et;
          otherwise = eu;
          with-new = refl;
          clauses = rw (nc, ya, w);
          conditions = rw nc;
          actions = rw (ya, w);
          elses = rw (ya, em, action-marked mark m (rest l) a k);
          others = rw (no-rule, no-priority, nc, ya);
          id = same_id;
          priority = same-priority;
        }

    a-condition : (o : Operator) (c : Condition) → opens_with word_then l ≡ false → opens_with word_else l ≡ false
        → is_condition_line ls l ≡ true → is_action_line ls l ≡ false → cond (opens_with word_or l) Or And ≡ o → condition_of o (rest l) ≡ good c
        → Adds m ls d l (with_clause d.acting d.otherwise (condition c) d)
    a-condition o c nt ne yc na eo k =
        let w : condition_on l ≡ good c = ap (λ x. condition_of x (rest l)) eo ∙ k in
        record {
          new = condition c ∷ [];
          acting = or-false d.acting ∙ ap (d.acting ||◌) (sym nt);
          otherwise = or-false d.otherwise ∙ ap (d.otherwise ||◌) (sym ne);
          with-new = refl;
          clauses = rw (yc, na, w);
          conditions = rw (yc, w);
          actions = rw na;
          elses = rw na;
          others = rw (no-rule, no-priority, yc);
          id = same_id;
          priority = same-priority;
        }

    on-action : (t u mark : Bool) (e : Draft) (o : Read Action) → t ≡ (d.acting || opens_with word_then l) → u ≡ (d.otherwise || opens_with word_else l)
        → is_condition_line ls l ≡ false → is_action_line ls l ≡ true → is_else_line ls l ≡ mark → action_of mark m (rest l) ≡ o
        → on_read o (λ a. good (with_clause t u (action a) d)) ≡ good e → Adds m ls d l e
    on-action t u mark e (good a) et eu nc ya em w k = let z : with_clause t u (action a) d ≡ e = cc in rw z at (an-action t u mark a et eu nc ya em w)
    on-action t u mark e (bad why) et eu nc ya em w k = absurd (let z : ◌≡◌ {A = ℕ} 0 1 = cc in omega arith)

    on-condition : (p : Operator) (e : Draft) (o : Read Condition) → opens_with word_then l ≡ false → opens_with word_else l ≡ false
        → is_condition_line ls l ≡ true → is_action_line ls l ≡ false → cond (opens_with word_or l) Or And ≡ p → condition_of p (rest l) ≡ o
        → on_read o (λ c. good (with_clause d.acting d.otherwise (condition c) d)) ≡ good e → Adds m ls d l e
    on-condition p e (good c) nt ne yc na eo w k =
        let z : with_clause d.acting d.otherwise (condition c) d ≡ e = cc in rw z at (a-condition p c nt ne yc na eo w)
    on-condition p e (bad why) nt ne yc na eo w k = absurd (let z : ◌≡◌ {A = ℕ} 0 1 = cc in omega arith)

  -- ---- by its first word
  abbrev line_with : ℕ → List ℕ → List Name → List Name
  line_with at w fs = record { at = at; letters = w } ∷ fs

  abbrev AddsWith : List ℕ → ℕ → List Name → Draft → Type 0
  AddsWith w at fs e = line_of m d (line_with at w fs) ≡ good e → Adds m ls d (line_with at w fs) e

  then-line : (at : ℕ) (fs : List Name) (e : Draft) → AddsWith word_then at fs e
  unfolding line_of same
  then-line at fs e k =
      on-action (line_with at word_then fs) refl refl true d.otherwise false e (action_of false m fs) (or-true d.acting) (or-false d.otherwise) refl refl refl refl k

  else-line : (at : ℕ) (fs : List Name) (e : Draft) → AddsWith word_else at fs e
  unfolding line_of same
  else-line at fs e k =
      on-action (line_with at word_else fs) refl refl d.acting true true e (action_of true m fs) (or-false d.acting) (or-true d.otherwise) refl refl refl refl k

  if-line : (at : ℕ) (fs : List Name) (e : Draft) → AddsWith word_if at fs e
  unfolding line_of same
  if-line at fs e k = on-condition (line_with at word_if fs) refl refl And e (condition_of And fs) refl refl refl refl refl refl k

  or-line : (at : ℕ) (fs : List Name) (e : Draft) → AddsWith word_or at fs e
  unfolding line_of same
  or-line at fs e k = on-condition (line_with at word_or fs) refl refl Or e (condition_of Or fs) refl refl refl refl refl refl k

  and-line : (at : ℕ) (fs : List Name) (e : Draft) → AddsWith word_and at fs e
  unfolding line_of same
  and-line at fs e k = go d.acting refl k
    where
      go : (t : Bool) → d.acting ≡ t → anded t m fs d ≡ good e → Adds m ls d (line_with at word_and fs) e
      go true q j =
          let w : among word_then ls ≡ true = sym drafted.acting ∙ q in
          on-action (line_with at word_and fs) refl refl true d.otherwise d.otherwise e (action_of d.otherwise m fs)
          (sym q ∙ or-false d.acting) (or-false d.otherwise) (rw w) w (sym drafted.otherwise) refl j
      go false q j =
          let w : among word_then ls ≡ false = sym drafted.acting ∙ q in
          on-condition (line_with at word_and fs) refl refl And e (condition_of And fs) refl refl (rw w) w refl refl j

  rule-line : (at : ℕ) (fs : List Name) (e : Draft) → AddsWith word_rule at fs e
  unfolding line_of same
  rule-line at [] e k = absurd (let z : ◌≡◌ {A = ℕ} 0 1 = cc in omega arith)
  rule-line at (n ∷ fs) e k = let z : with_id n d ≡ e = cc in rw z at named-so
    where
      named-so : Adds m ls d (line_with at word_rule (n ∷ fs)) (with_id n d)
      named-so = record {
        new = [];
        acting = or-false d.acting;
        otherwise = or-false d.otherwise;
        with-new = sym (append-nil d.clauses);
        clauses = refl;
        conditions = refl;
        actions = refl;
        elses = refl;
        others = refl;
        id = refl;
        priority = drafted.priority;
      }

  priority-line : (at : ℕ) (fs : List Name) (e : Draft) → AddsWith word_priority at fs e
  unfolding line_of same
  priority-line at fs e k = go (count_from fs) refl k
    where
      ranked-so : (n : ℕ) → count_from fs ≡ good n → Adds m ls d (line_with at word_priority fs) (with_priority n d)
      ranked-so n w = record {
        new = [];
        acting = or-false d.acting;
        otherwise = or-false d.otherwise;
        with-new = sym (append-nil d.clauses);
        clauses = refl;
        conditions = refl;
        actions = refl;
        elses = refl;
        others = refl;
        id = drafted.id;
        priority = ap (λ o. on_read o (λ i. good (Some i))) w;
      }

      go : (o : Read ℕ) → count_from fs ≡ o → on_read o (λ n. good (with_priority n d)) ≡ good e → Adds m ls d (line_with at word_priority fs) e
      go (good n) w j = let z : with_priority n d ≡ e = cc in rw z at (ranked-so n w)
      go (bad why) w j = absurd (let z : ◌≡◌ {A = ℕ} 0 1 = cc in omega arith)

  tested : {X : Type 0} (w v : List ℕ) → (w ≡ v → X) → (same w v ≡ false → X) → X
  tested {X} w v yes' no' = go (same w v) refl
    where
      go : (b : Bool) → same w v ≡ b → X
      go true e = yes' (same-equal w v e)
      go false e = no' e

  line-adds : (l : List Name) (e : Draft) → line_of m d l ≡ good e → Adds m ls d l e
  unfolding line_of
  line-adds [] e k = absurd (let z : ◌≡◌ {A = ℕ} 0 1 = cc in omega arith)
  line-adds (f ∷ fs) e k =
      tested w word_rule (spelt word_rule (rule-line f.at fs e)) (λ a.
      tested w word_if (spelt word_if (if-line f.at fs e)) (λ b.
      tested w word_or (spelt word_or (or-line f.at fs e)) (λ c.
      tested w word_then (spelt word_then (then-line f.at fs e)) (λ x.
      tested w word_and (spelt word_and (and-line f.at fs e)) (λ y.
      tested w word_else (spelt word_else (else-line f.at fs e)) (λ z.
      tested w word_priority (spelt word_priority (priority-line f.at fs e)) (λ u. unknown a b c x y z u)))))))
    where
      w : List ℕ
      w = f.letters

      spelt : (v : List ℕ) → AddsWith v f.at fs e → w ≡ v → Adds m ls d (f ∷ fs) e
      spelt v h q = subst (λ x. AddsWith x f.at fs e) (sym q) h k

      unknown : same w word_rule ≡ false → same w word_if ≡ false → same w word_or ≡ false → same w word_then ≡ false → same w word_and ≡ false → same w word_else ≡ false
          → same w word_priority ≡ false → Adds m ls d (f ∷ fs) e
      unknown a b c x y z u = let j = rw (a, b, c, x, y, z, u) at k in absurd (let q : ◌≡◌ {A = ℕ} 0 1 = cc in omega arith)

-- ---- all lines
drafted-by : (m : Network) (ks ls : Ls) (d e : Draft) → Drafted m ls d → lines_of m d ks ≡ good e → Drafted m (ls ++ ks) e
unfolding lines_of
drafted-by m [] ls d e h k = let z : d ≡ e = cc in rw (append-nil, ← z) h
drafted-by m (l ∷ ks) ls d e h k = go (line_of m d l) refl (λ x. drafted-by m ks (ls ++ (l ∷ [])) x e) k
  where
    go : (o : Read Draft) → line_of m d l ≡ o → ((x : Draft) → Drafted m (ls ++ (l ∷ [])) x → lines_of m x ks ≡ good e → Drafted m (ls ++ (l ∷ []) ++ ks) e)
        → on_read o (λ x. lines_of m x ks) ≡ good e → Drafted m (ls ++ l ∷ ks) e
    go (good x) q ih j = rw (append_assoc ls (l ∷ []) ks) at (ih x (one_more m ls d h l x (line-adds m ls d h l x q)) j)
    go (bad why) q ih j = absurd (let z : ◌≡◌ {A = ℕ} 0 1 = cc in omega arith)

nothing-drafted : (m : Network) → Drafted m [] no_draft
unfolding among last_from over_lines
nothing-drafted m = record { acting = refl; otherwise = refl; clauses = refl; conditions = refl; actions = refl; elses = refl; others = refl; id = refl; priority = refl }

-- ---- a group that is judged good is stored
module _ (d : Draft) (m m' : Network) where
  if-room : (id : Name) (f : Option ℕ) (b : Bool) → on_found f (λ i. bad Used) (cond b (good (with_rule id d m)) (bad NoRoom)) ≡ good m' → m' ≡ with_rule id d m
  if-room id (Some i) b k = absurd (let z : ◌≡◌ {A = ℕ} 0 1 = cc in omega arith)
  if-room id None true k = cc
  if-room id None false k = absurd (let z : ◌≡◌ {A = ℕ} 0 1 = cc in omega arith)

  on-id : (o : Option Name) → d.id ≡ o → named o d m ≡ good m' → (id : Name) × (d.id ≡ Some id) × (m' ≡ with_rule id d m)
  unfolding add_rule
  on-id None e k = absurd (let z : ◌≡◌ {A = ℕ} 0 1 = cc in omega arith)
  on-id (Some id) e k = (id, e, if-room id (lookup (rule_ids m) id.letters) (ltb (length m.rules) room_rules && leb (length m.clauses + length d.clauses) room_clauses) k)

  judged-good : judged d m ≡ good m' → (id : Name) × (d.id ≡ Some id) × (m' ≡ with_rule id d m)
  unfolding judged
  judged-good k = on-id d.id refl (go (some? is_condition d.clauses) (some? is_action d.clauses) k)
    where
      go : (a b : Bool) → cond a (cond b (named d.id d m) (bad NoAction)) (bad NoCondition) ≡ good m' → named d.id d m ≡ good m'
      go true true k = k
      go true false k = absurd (let z : ◌≡◌ {A = ℕ} 0 1 = cc in omega arith)
      go false b k = absurd (let z : ◌≡◌ {A = ℕ} 0 1 = cc in omega arith)

draft-stores : (ls : Ls) (m m' : Network) (d : Draft) → Drafted m ls d → judged d m ≡ good m' → Stores ls m m'
draft-stores ls m m' d h k =
    let (id, e, z) = judged-good d m m' k in
    record {
      rule = record { id = id; priority = d.priority; first = length m.clauses; count = length d.clauses };
      new = d.clauses;
      says = record {
        clauses = h.clauses;
        conditions = h.conditions;
        actions = h.actions;
        elses = h.elses;
        others = h.others;
        count = refl;
        id = h.id ∙ ap good e;
        priority = h.priority;
      };
      stored = z;
      first = refl;
      spans = ap (λ (x : Network). take (length d.clauses) (drop (length m.clauses) x.clauses)) z
          ∙ ap (take (length d.clauses)) (drop-append_seam m.clauses d.clauses) ∙ take-length d.clauses;
    }

pub group-stores : (ls : Ls) (m m' : Network) → group_step ls m ≡ good m' → Stores ls m m'
unfolding group_step
group-stores ls m m' k = go (lines_of m no_draft ls) refl k
  where
    go : (o : Read Draft) → lines_of m no_draft ls ≡ o → on_read o (λ d. judged d m) ≡ good m' → Stores ls m m'
    go (good d) q j = draft-stores ls m m' d (drafted-by m ls [] no_draft d (nothing-drafted m) q) j
    go (bad why) q j = absurd (let z : ◌≡◌ {A = ℕ} 0 1 = cc in omega arith)
