-- The rule of a group that a survey takes stands in its network: what comes later adds rules and clauses and changes none. Assumes nothing.
use Prim.{Unit, tt}
use Prim.Native.Nat.{ℕ, suc, ◌≤◌, ◌<◌}
use native.Mathlib.Omega.{arith}
use mathlib.Core.Path.{◌≡◌, refl, ap, sym, ◌∙◌, subst}
use mathlib.Core.Bool.{Bool, true, false}
use mathlib.Core.List.{List, [], ◌∷◌, ◌++◌, map, append_assoc, append-nil, nil≢cons}
use lib.ListN.{length, get_or, length-append}
use lib.Dec.{eqb}
use borrow.Author.Tests.{eqb-true, eqb-false}
use lib.Seq.{take-append_seam, drop-append_seam}
use Rattle.leaf_fields.specs.Fields.{Name}
use Rattle.scope_lines.specs.Reader as L
use Rattle.scope_lines.specs.Reader.{Standing, Outcome, closes, Own, itself, last, fresh, settle, next, step, after, survey_recs, fate_of, first_mark, group_class, code, rule_taken}
use Rattle.scope_lines.specs.Text.{Line, lines_of, Each, nothing, each}
use Rattle.scope_lines.specs.Demand3.{ClosesBy, mark_of}
use Rattle.scope_lines.specs.Turn.{closed_by}
use Rattle.scope_lines.proofs.Pieces.{after-append, Trace, none, kept, opened, trace}
use Rattle.scope_lines.proofs.Opened.{none-closed}
use Rattle.scope_lines.proofs.Readings.{step-filed, step-closes}
use Rattle.scope_lines.proofs.OwnLines.{ended-lines}
use Rattle.scope_lines.proofs.Told.{closes-is, closed-mark}
use Rattle.scope.specs.declared.Section.{Section}
use Rattle.scope.specs.declared.Section.TheVariants.{Passed}
use Rattle.scope.specs.Records as R
use Rattle.scope.specs.Records.{Network, no_network, Rule, Clause, no_rule}
use Rattle.scope.specs.Values.{Read, good, bad}
use Rattle.scope.specs.Rules.{group_step}
use Rattle.scope.specs.Series.{resolved}
use Rattle.scope.specs.Groups.{Stores, StoredIn}
use Rattle.scope.specs.Lines.{section_fields, rule_fields, verdict, inp}
use Rattle.scope.specs.Reading.{at_start, surveyed}
use Rattle.scope.specs.Promises.{GroupEnds, group_lines, stored_by, TakenAt}
use Rattle.scope.proofs.WrittenLaws.{Fine, goodly, badly}
use Rattle.scope.proofs.Kept.{VerdictKeeps, keeps, StoredKeeps, judges, survey-keeps}
use Rattle.scope.proofs.Untouched.{steps, verdict-keeps, resolved-keeps}
use Rattle.scope.proofs.GroupLaws.{group-stores}
use Rattle.scope.proofs.Exactly.{marks-here}

abbrev Any : {X : Type 0} → X → Type 0
Any x = Unit {0}

each-any : {X : Type 0} (xs : List X) → Each Any xs
each-any [] = nothing
each-any (x ∷ xs) = each tt (each-any xs)

-- ---- rules and clauses are only added
record BeginsAs (rs₀ : List Rule) (cs₀ : List Clause) (rs : List Rule) (cs : List Clause) : Type 0 where
  more-rules : List Rule
  more-clauses : List Clause
  rules : rs ≡ rs₀ ++ more-rules
  clauses : cs ≡ cs₀ ++ more-clauses

module _ (m₀ : Network) where
  abbrev Begins : List R.Link → List Rule → List Clause → Type 0
  Begins ks rs cs = BeginsAs m₀.rules m₀.clauses rs cs

  abbrev Grown : Network → Type 0
  Grown m = BeginsAs m₀.rules m₀.clauses m.rules m.clauses

  link-more : (ks : List R.Link) (k : R.Link) (rs : List Rule) (cs : List Clause) → Begins ks rs cs → Begins (ks ++ (k ∷ [])) rs cs
  link-more ks k rs cs w = w

  stored-grown : (ls : List (List Name)) (m n : Network) → Grown m → Stores ls m n → Grown n
  stored-grown ls m n w s = record {
    more-rules = w.more-rules ++ (s.rule ∷ []);
    more-clauses = w.more-clauses ++ s.new;
    rules = ap (λ (x : Network). x.rules) s.stored ∙ ap (◌++ (s.rule ∷ [])) w.rules ∙ append_assoc m₀.rules w.more-rules (s.rule ∷ []);
    clauses = ap (λ (x : Network). x.clauses) s.stored ∙ ap (◌++ s.new) w.clauses ∙ append_assoc m₀.clauses w.more-clauses s.new;
  }

  group-grown : (ls : List (List Name)) (m : Network) → Grown m → Fine Grown (group_step ls m)
  group-grown ls m w = go (group_step ls m) refl
    where
      go : (o : Read Network) → group_step ls m ≡ o → Fine Grown o
      go (good n) e = goodly (stored-grown ls m n w (group-stores ls m n e))
      go (bad why) e = badly

  stores : (s : Section) (l : Line) (m : Network) → Any l → Grown m → StoredKeeps Grown (inp.store s l m)
  unfolding inp
  stores s l m p w = steps Begins link-more s (section_fields l) m w

  shuts : (g : List Line) (m : Network) → Each Any g → Grown m → VerdictKeeps Grown (inp.close g m)
  unfolding inp
  shuts g m ps w = verdict-keeps Begins link-more (group-grown (map rule_fields g) m w)

  ends : (m : Network) → Grown m → Grown (inp.finish m)
  unfolding inp
  ends m w = resolved-keeps Begins link-more m w

  survey-grown : (st : Standing Section Line Network) (ls : List Line) → st.recs ≡ m₀ → Grown (survey_recs inp false st ls)
  survey-grown st ls e =
      let w : Grown st.recs = record {
        more-rules = [];
        more-clauses = [];
        rules = ap (λ (x : Network). x.rules) e ∙ sym (append-nil m₀.rules);
        clauses = ap (λ (x : Network). x.clauses) e ∙ sym (append-nil m₀.clauses);
      } in
      survey-keeps inp Grown Any stores shuts ends st (record { lines = each-any st.group; recs = w }) (each-any ls)

-- ---- so a rule stays where it was stored
here-is : {X : Type 0} (xs : List X) (y : X) (zs : List X) (d : X) → get_or (xs ++ y ∷ zs) (length xs) d ≡ y
here-is [] y zs d = refl
here-is (x ∷ xs) y zs d = here-is xs y zs d

stored-in : (ls : List (List Name)) (m m' n : Network) → Stores ls m m' → Grown m' n → StoredIn ls m n
stored-in ls m m' n s w =
    let rs : n.rules ≡ m.rules ++ s.rule ∷ w.more-rules =
    w.rules ∙ ap (λ (x : Network). x.rules ++ w.more-rules) s.stored ∙ append_assoc m.rules (s.rule ∷ []) w.more-rules in
    let cs : n.clauses ≡ m.clauses ++ (s.new ++ w.more-clauses) =
    w.clauses ∙ ap (λ (x : Network). x.clauses ++ w.more-clauses) s.stored ∙ append_assoc m.clauses s.new w.more-clauses in
    record {
      rule = s.rule;
      new = s.new;
      says = s.says;
      inside = omega (arith, ap length rs, length-append m.rules (s.rule ∷ w.more-rules));
      placed = ap (λ (x : List Rule). get_or x (length m.rules) no_rule) rs ∙ here-is m.rules s.rule w.more-rules no_rule;
      spans = rw (s.says.count, s.first, cs, drop-append_seam) (take-append_seam s.new w.more-clauses);
    }

-- ---- the group that a line closes
verdict-good : (r : Read Network) (n : Network) → verdict r ≡ L.good n → r ≡ good n
verdict-good (good m) n e = ap good (cc)
verdict-good (bad why) n e = absurd (let z : ◌≡◌ {A = ℕ} 0 1 = cc in omega arith)

taken-good : (v : L.Verdict Network) → (first_mark (fate_of v)).class ≡ rule_taken → (n : Network) × (v ≡ L.good n)
unfolding first_mark fate_of group_class code
taken-good (L.good n) e = (n, refl)
taken-good (L.bad k) e = let z : ◌≡◌ {A = ℕ} 7 6 = ap code e in absurd (omega arith)

recs-then : (st : Standing Section Line Network) (l : Line) (o : Outcome Section Network) (n : Network) (own : Own Section) → o ≡ closes (L.good n) own → (next st l o).recs ≡ n
unfolding next settle
recs-then st l o n own e = ap (λ x. (next st l x).recs) e ∙ by own
  where
    by : (own : Own Section) → (next st l (closes (L.good n) own)).recs ≡ n
    by (itself c s) = refl
    by last = refl
    by fresh = refl

pub taken-stands : (t : List ℕ) (before : List Line) (first : Line) (mid : List Line) (closer : Line) (rest : List Line) → lines_of t ≡ before ++ first ∷ (mid ++ closer ∷ rest)
    → GroupEnds before first mid closer → (mark_of inp false at_start before first (mid ++ closer ∷ rest)).class ≡ rule_taken
    → StoredIn (map rule_fields (group_lines before first mid)) (stored_by (before ++ first ∷ mid)) (surveyed t)
unfolding surveyed survey_recs after inp
taken-stands t before first mid closer rest d k m =
    let ls : List Line = before ++ first ∷ mid in
    let here : Standing Section Line Network = after inp false at_start ls in
    let (v, own, eo) = closes-is (step inp false here closer) k.ends in
    let (n, e) = taken-good v (ap (λ (x : L.Mark). x.class) (sym (closed-mark inp false Passed no_network before first mid closer k.opens k.waits v own eo rest)) ∙ m) in
    let eo₁ : step inp false here closer ≡ closes (L.good n) own = eo ∙ ap (λ x. closes x own) e in
    let s : Stores (map rule_fields here.group) here.recs n = group-stores _ _ n (verdict-good _ n (step-closes inp false here closer (L.good n) own eo₁)) in
    let g : Grown n (survey_recs inp false (next here closer (step inp false here closer)) rest) = survey-grown n _ rest (recs-then here closer _ n own eo₁) in
    let w : after inp false at_start (lines_of t) ≡ after inp false here (closer ∷ rest) =
    ap (after inp false at_start) (d ∙ sym (append_assoc before (first ∷ mid) (closer ∷ rest))) ∙ after-append inp false ls (closer ∷ rest) at_start in
    let own : here.group ≡ group_lines before first mid = ended-lines inp Passed no_network before first mid closer k in
    rw own at (stored-in (map rule_fields here.group) here.recs n (surveyed t) s (rw w g))

-- ---- and no other rule is there
abbrev rules_of : Standing Section Line Network → List Rule
rules_of st = st.recs.rules

-- what a line does to the rules: nothing; or it closes a group that is taken
data Ruled (st : Standing Section Line Network) (l : Line) : Type 0 where
  unruled : rules_of (next st l (step inp false st l)) ≡ rules_of st → Ruled st l
  ruled_by : (n : Network) (own : Own Section) → step inp false st l ≡ closes (L.good n) own → length (rules_of (next st l (step inp false st l))) ≡ suc (length (rules_of st)) → Ruled st l

stored-rules : (rs : List Rule) (n : Network) → StoredKeeps (λ (m : Network). m.rules ≡ rs) (L.judged (L.good n)) → n.rules ≡ rs
stored-rules rs n (judges (keeps e)) = e

ruled : (st : Standing Section Line Network) (l : Line) → Ruled st l
unfolding next settle inp
ruled st l = go (step inp false st l) refl
  where
    as_before : (o : Outcome Section Network) → step inp false st l ≡ o → rules_of (next st l o) ≡ rules_of st → Ruled st l
    as_before o e k = unruled (ap (λ x. rules_of (next st l x)) e ∙ k)

    go : (o : Outcome Section Network) → step inp false st l ≡ o → Ruled st l
    go (L.still c s) e = as_before _ e refl
    go (L.filed (L.good n)) e =
        let k = step-filed inp false st l (L.good n) e in
        let w = steps (λ ks rs cs. rs ≡ rules_of st) (λ ks k rs cs h. h) st.sec (section_fields l) st.recs refl in
        as_before _ e (stored-rules (rules_of st) n (subst (StoredKeeps (λ (m : Network). m.rules ≡ rules_of st)) k w))
    go (L.filed (L.bad k)) e = as_before _ e refl
    go L.joins e = as_before _ e refl
    go (closes (L.good n) own) e =
        let s = group-stores _ _ n (verdict-good _ n (step-closes inp false st l (L.good n) own e)) in
        let k : rules_of (next st l (step inp false st l)) ≡ rules_of st ++ (s.rule ∷ []) =
        ap (λ (x : Network). x.rules) (recs-then st l _ n own e) ∙ ap (λ (x : Network). x.rules) s.stored in
        ruled_by n own e (omega (arith, ap length k, length-append (rules_of st) (s.rule ∷ [])))
    go (closes (L.bad k) (itself c s)) e = as_before _ e refl
    go (closes (L.bad k) last) e = as_before _ e refl
    go (closes (L.bad k) fresh) e = as_before _ e refl

-- the line l, after the lines ls, closes a group that is taken
taken_here : (t : List ℕ) (ls : List Line) (l : Line) (rest : List Line) (n : Network) (own : Own Section) → lines_of t ≡ ls ++ l ∷ rest
    → step inp false (after inp false at_start ls) l ≡ closes (L.good n) own → Trace inp false at_start ls → TakenAt t (length (rules_of (after inp false at_start ls)))
unfolding closed_by group_class fate_of code first_mark
taken_here t ls l rest n own d e (none g) =
    let z : ◌≡◌ {A = ℕ} 6 0 = ap closed_by (sym e) ∙ none-closed inp false (after inp false at_start ls) l g in
    absurd (omega arith)
taken_here t ls l rest n own d e (kept y g g₁ p q w) = absurd (nil≢cons p)
taken_here t ls l rest n own d e (opened before first mid g x o w k) =
    let e₁ : step inp false (after inp false at_start (before ++ first ∷ mid)) l ≡ closes (L.good n) own =
    subst (λ (ks : List Line). step inp false (after inp false at_start ks) l ≡ closes (L.good n) own) x e in
    let y : lines_of t ≡ before ++ first ∷ (mid ++ l ∷ rest) = d ∙ ap (◌++ l ∷ rest) x ∙ append_assoc before (first ∷ mid) (l ∷ rest) in
    record {
      before = before;
      first = first;
      mid = mid;
      closer = l;
      rest = rest;
      splits = y;
      ends = record { opens = o; waits = w; ends = subst ClosesBy (sym e₁) tt };
      taken = ap (λ (m : L.Mark). m.class) (sym (marks-here t before first (mid ++ l ∷ rest) y) ∙ closed-mark inp false Passed no_network before first mid l o w (L.good n) own e₁ rest);
      place = ap (λ (ks : List Line). length (rules_of (after inp false at_start ks))) (sym x);
    }

rule-from : (t : List ℕ) (rest ls : List Line) (i : ℕ) → lines_of t ≡ ls ++ rest → length (rules_of (after inp false at_start ls)) ≤ i
    → i < length (rules_of (after inp false (after inp false at_start ls) rest)) → TakenAt t i
unfolding after
rule-from t [] ls i d lo hi = absurd (omega arith)
rule-from t (l ∷ rest) ls i d lo hi =
    go (ruled st l) (λ k. rule-from t rest (ls ++ (l ∷ [])) i (d ∙ sym (append_assoc ls (l ∷ []) rest)) (rw w k) (rw w hi))
  where
    st : Standing Section Line Network
    st = after inp false at_start ls

    w : after inp false at_start (ls ++ (l ∷ [])) ≡ next st l (step inp false st l)
    w = after-append inp false ls (l ∷ []) at_start

    go : Ruled st l → (length (rules_of (next st l (step inp false st l))) ≤ i → TakenAt t i) → TakenAt t i
    go (unruled e) ih = ih (omega (arith, ap length e, lo))
    go (ruled_by n own e k) ih = by (eqb i (length (rules_of st))) refl
      where
        by : (b : Bool) → eqb i (length (rules_of st)) ≡ b → TakenAt t i
        by true q = subst (TakenAt t) (sym (eqb-true i (length (rules_of st)) q)) (taken_here t ls l rest n own d e (trace inp false ls at_start))
        by false q = ih (omega (arith, k, lo, eqb-false i (length (rules_of st)) q))

pub rule-taken : (t : List ℕ) (i : ℕ) → i < length (surveyed t).rules → TakenAt t i
unfolding surveyed survey_recs L.end_verdict settle inp resolved after
rule-taken t i h = rule-from t (lines_of t) [] i refl (omega arith) h
