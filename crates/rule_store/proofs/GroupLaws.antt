-- A group's clauses stored one after another, and then its rule. Assumes nothing.
use Rattle.std.specs.Prelude.{Err, Ok, Result, None, Option, Some}
use Prim.Native.Nat.{ℕ, ◌+◌, ◌-◌, ◌*◌, ◌≤◌, ◌<◌}
use native.Mathlib.Omega.{arith}
use mathlib.Core.Path.{◌≡◌, refl, sym, ap, ◌∙◌, subst}
use mathlib.Core.Logic.{inl, inr}
use mathlib.Core.List.{List, [], ◌∷◌, ◌++◌, append_assoc, append-nil}
use lib.ListN.{length, take, get_or, length-append}
use lib.Seq.{take_all, take-nil, take-append-le}
use lib.Ieee.{Float}
use Rattle.leaf_decimals.proofs.Whole.{le-or-lt}
use Rattle.leaf_fields.specs.Fields.{Name, name_in, fields_at}
use Rattle.leaf_fields.specs.declared.Span.{Span}
use Rattle.scope.specs.declared.Reason.{Reason}
use Rattle.scope.specs.declared.Counts.{Counts}
use Rattle.scope.specs.Records.{Network, Rule, Clause, condition, action, counts_of, with_clauses}
use Rattle.scope.specs.Values.{Read, good, bad, on_read}
use Rattle.scope.specs.Tables.{rule_words, count_words, id_words, name_words}
use Rattle.scope.specs.Rules.{Draft, lines_of, no_draft, judged, group_step}
use Rattle.table_rows.specs.Table.{splice}
use Rattle.scope.specs.Layout.{rules_at, rules_width}
use Rattle.scope.specs.Sections.{room_clauses, room_rules}
use Rattle.table_rows.specs.Holding.{Words, Holds, After}
use Rattle.table_rows.proofs.HoldLaws.{sits-span, add-rule, add-clause, count-links, count-rules, count-clauses, bound-clauses}
use Rattle.rule_clauses.specs.Clauses.{condition_in}
use Rattle.read_headers.specs.Own.{group_fields, NextHere}
use Rattle.rule_lines.specs.declared.Saying.{Saying}
use Rattle.rule_lines.specs.declared.Saying.TheVariants as saying
use Rattle.rule_lines.specs.Lines.{action_in, Said, with_said, said_of, said_in, said_read, SayingFits, LineFits}
use Rattle.rule_lines.proofs.LineLaws.{said_same, line-fits-text}
use Rattle.rule_groups.specs.declared.Sketch.{Sketch}
use Rattle.rule_groups.specs.Sketches.{Sketched, SketchAs, Fine, JudgedAs}
use Rattle.rule_groups.proofs.SeeLaws.{seen-one, seen-none}
use Rattle.rule_store.proofs.GoingLaws.{Going, going_start, going-with, going-bad}
use Rattle.rule_store.specs.Group.{rule_in, PutClause, PutFitting, Put, HoldsMore, fitting, Taken, ClausesPut}

-- ---- one line more is stored
module _ (text : List ℕ) (m : Network) (d : Draft) (w w2 : List ℕ) (f f2 : List Float) (h : HoldsMore text m (fitting m d.clauses) w f) (n : ℕ)
    (en : n ≡ length m.clauses + length d.clauses) where
  -- where there is room, all of the clauses are there
  add-one-more : (c : Clause) → n < room_clauses → PutClause n c w f w2 f2 → HoldsMore text m (fitting m (d.clauses ++ (c ∷ []))) w2 f2
  add-one-more c r e =
      let all : fitting m d.clauses ≡ d.clauses = take_all (room_clauses - length m.clauses) d.clauses (omega arith) in
      let more : fitting m (d.clauses ++ (c ∷ [])) ≡ d.clauses ++ (c ∷ []) =
      take_all (room_clauses - length m.clauses) (d.clauses ++ (c ∷ [])) (omega (arith, length-append d.clauses (c ∷ []))) in
      let count : n ≡ length (m.clauses ++ d.clauses) = en ∙ sym (length-append m.clauses d.clauses) in
      subst (λ (cs : List Clause). HoldsMore text m cs w2 f2) (sym more)
      (subst (λ (cs : List Clause). Holds text (with_clauses cs m) (counts_of (with_clauses cs m)) w2 f2) (append_assoc m.clauses d.clauses (c ∷ []))
      (add-clause (subst (λ (cs : List Clause). HoldsMore text m cs w f) all h) c count r e.0 e.1))

  unput : (w2 ≡ w) × (f2 ≡ f) → HoldsMore text m (fitting m d.clauses) w2 f2
  unput e = rw (e.0, e.1) h

  put_one : (c : Clause) → PutFitting n c w f w2 f2 → HoldsMore text m (fitting m (d.clauses ++ (c ∷ []))) w2 f2
  put_one c e =
      elim (le-or-lt room_clauses n) [
        | inl r ↦ subst (λ (cs : List Clause). HoldsMore text m cs w2 f2) (sym (take-append-le (room_clauses - length m.clauses) d.clauses (c ∷ []) (omega arith))) (unput (e.1 r))
        | inr r ↦ add-one-more c r (e.0 r)
      ]

  put-more : (r : Saying) → Put text n (Ok r) w f w2 f2 → HoldsMore text m (fitting m (with_said (said_in text r) d).clauses) w2 f2
  put-more (saying.Named s) p = unput p
  put-more (saying.Ranked j) p = unput p
  put-more (saying.Condition c) p = put_one (condition (condition_in text c)) p
  put-more (saying.Action a) p = put_one (action (action_in text a.action)) p

-- where there is no room nothing is put
pub put_full : (text : List ℕ) (n : ℕ) (r : Result Saying Reason) (w : List ℕ) (f : List Float) → room_clauses ≤ n → Put text n r w f w f
put_full text n (Ok (saying.Named s)) w f h = (refl, refl)
put_full text n (Ok (saying.Ranked j)) w f h = (refl, refl)
put_full text n (Ok (saying.Condition c)) w f h = ((λ k. absurd (omega arith)), λ k. (refl, refl))
put_full text n (Ok (saying.Action a)) w f h = ((λ k. absurd (omega arith)), λ k. (refl, refl))
put_full text n (Err why) w f h = (refl, refl)

-- ---- where a group is taken
pub record Started (text : List ℕ) (m : Network) (base links : ℕ) (w : List ℕ) (f : List Float) : Type 0 where
  pub s : Counts
  pub holds : Holds text m s w f
  pub base-is : base ≡ length m.clauses
  pub links-are : links ≡ length m.links

pub started : {text : List ℕ} {m : Network} {s : Counts} {w : List ℕ} {f : List Float} → Holds text m s w f → Started text m s.clauses s.links w f
started {text} {m} {s} h = record { s = s; holds = h; base-is = count-clauses h; links-are = count-links h }

-- ---- the lines taken so far: what they say, and their clauses in the tables
pub record Taking (m : Network) (text : List ℕ) (at first p : ℕ) (q : Sketch) (w : List ℕ) (f : List Float) : Type 0 where
  pub going : Going m text at first p q
  pub held : HoldsMore text m (fitting m going.d.clauses) w f

pub taking-start : {text : List ℕ} {m : Network} {s : Counts} {w : List ℕ} {f : List Float} (at first : ℕ) (q : Sketch) → Holds text m s w f
    → Sketched text no_draft q → Taking m text at first first q w f
taking-start {text} {m} {s} {w} {f} at first q h sk =
    let none_yet : m.clauses ++ fitting m [] ≡ m.clauses = ap (λ (cs : List Clause). m.clauses ++ cs) (take-nil (room_clauses - length m.clauses)) ∙ append-nil m.clauses in
    record {
      going = going_start m text at first q sk;
      held = subst (λ (cs : List Clause). Holds text (with_clauses cs m) (counts_of (with_clauses cs m)) w f) (sym none_yet) (record { counts = refl; words = h.words; numbers = h.numbers });
    }

pub taking-words : {m : Network} {text : List ℕ} {at first p : ℕ} {q : Sketch} {w : List ℕ} {f : List Float} → Taking m text at first p q w f → {links : ℕ} → links ≡ length m.links
    → (x : Network) × Words text x w × (links ≡ length x.links)
taking-words {m} t e = (with_clauses (m.clauses ++ fitting m t.going.d.clauses) m, t.held.words, e)

pub taking-end : {m : Network} {text : List ℕ} {at first p : ℕ} {q : Sketch} {w : List ℕ} {f : List Float} → Taking m text at first p q w f
    → group_fields text at p ≡ [] → (w0 : List ℕ) (f0 : List Float)
    → Taken text m (lines_of m no_draft (group_fields text at first)) (Ok q) w0 f0 w f
unfolding lines_of
taking-end t e w0 f0 = (t.going.d, t.going.same ∙ rw e, t.going.sketched, t.held)

-- one line more
module _ {m : Network} {text : List ℕ} {at first p : ℕ} {q : Sketch} {w : List ℕ} {f : List Float} (t : Taking m text at first p q w f) (s : Span)
    (h : NextHere text at p s) (l : List ℕ) (el : l ≡ take s.end text) {links : ℕ} (ek : links ≡ length m.links) where
  said_here : (o : Read Said) → ((x : Network) → Words text x w → links ≡ length x.links → o ≡ said_of x q.acting q.otherwise (fields_at l s.at)) → o ≡ said_of m q.acting q.otherwise (fields_at l s.at)
  said_here o er =
      let cs : List Clause = m.clauses ++ fitting m t.going.d.clauses in
      er (with_clauses cs m) t.held.words ek ∙ said_same m cs q.acting q.otherwise (fields_at l s.at)

  -- it says r, and that was put
  taking-on : (r : Saying) → ((x : Network) → Words text x w → links ≡ length x.links → good (said_in l r) ≡ said_of x q.acting q.otherwise (fields_at l s.at)) → SayingFits l r
      → {base : ℕ} → base ≡ length m.clauses → (w2 : List ℕ) (f2 : List Float) → Put text (base + q.clauses) (Ok r) w f w2 f2
      → (next : Sketch) → Sketched text (with_said (said_in text r) t.going.d) next → Taking m text at first s.end next w2 f2
  taking-on r er fr {base} eb w2 f2 put next sketched =
      let e = said_here (good (said_in l r)) er in
      record {
        going = going-with t.going s h l el r e fr next sketched;
        held = put-more text m t.going.d w w2 f f2 t.held (base + q.clauses) (omega (arith, eb, t.going.sketched.long)) r put;
      }

  -- it is refused: the clauses before it are there, and are erased
  taking-bad : (why : Reason) → ((x : Network) → Words text x w → links ≡ length x.links → bad why ≡ said_of x q.acting q.otherwise (fields_at l s.at))
      → {w0 w3 : List ℕ} {f0 f3 : List Float} → ((cs : List Clause) → length cs ≡ q.clauses → HoldsMore text m (fitting m cs) w f → (w3 ≡ w0) × (f3 ≡ f0))
      → Taken text m (lines_of m no_draft (group_fields text at first)) (Err why) w0 f0 w3 f3
  taking-bad why er erased =
      let back = erased t.going.d.clauses t.going.sketched.long t.held in
      (going-bad t.going s h l el why (said_here (bad why) er), back.0, back.1)

  -- what was read of it is r, and what was seen then is v
  module _ (r : Result Saying Reason) (er : (x : Network) → Words text x w → links ≡ length x.links → said_read l r ≡ said_of x q.acting q.otherwise (fields_at l s.at)) (fr : LineFits l r)
      (v : Result Sketch Reason) (see : (text : List ℕ) (d : Draft) → Sketched text d q → LineFits text r → SketchAs text (on_read (said_read text r) (λ x. good (with_said x d))) v) where
    seen : SketchAs text (on_read (said_read text r) (λ x. good (with_said x t.going.d))) v
    seen = see text t.going.d t.going.sketched (line-fits-text text s.end r (subst (λ (x : List ℕ). LineFits x r) el fr))

    pub taking-seen : (next : Sketch) → v ≡ Ok next → {base : ℕ} → base ≡ length m.clauses → (w2 : List ℕ) (f2 : List Float) → Put text (base + q.clauses) r w f w2 f2
        → Taking m text at first s.end next w2 f2
    taking-seen next e {base} eb w2 f2 put =
        let k = seen-one text t.going.d r v seen next e in
        taking-on k.0 (λ x a b. ap (said_read l) (sym k.1) ∙ er x a b) (subst (λ (y : Result Saying Reason). LineFits l y) k.1 fr) eb w2 f2
        (subst (λ (y : Result Saying Reason). Put text (base + q.clauses) y w f w2 f2) k.1 put) next k.2

    pub taking-unseen : (why : Reason) → v ≡ Err why → {w0 w3 : List ℕ} {f0 f3 : List Float}
        → ((cs : List Clause) → length cs ≡ q.clauses → HoldsMore text m (fitting m cs) w f → (w3 ≡ w0) × (f3 ≡ f0))
        → Taken text m (lines_of m no_draft (group_fields text at first)) (Err why) w0 f0 w3 f3
    taking-unseen why e erased =
        let k = seen-none text t.going.d r v seen why e in
        taking-bad why (λ x a b. ap (said_read l) (sym k) ∙ er x a b) erased

-- ---- the words of a clause's name, and of a rule
pub name-row : (a b c d v v' : ℕ) (k : List ℕ) (o : Option Name) → v ≡ v' → k ≡ name_words o → a ∷ b ∷ c ∷ d ∷ v ∷ get_or k 0 0 ∷ get_or k 1 0 ∷ [] ≡ a ∷ b ∷ c ∷ d ∷ v' ∷ name_words o
name-row a b c d v v' k None e f = rw (e, f)
name-row a b c d v v' k (Some n) e f = rw (e, f)

pub rule-row : (k r : List ℕ) (first count : ℕ) (n : Name) (o : Option ℕ) → k ≡ id_words n → r ≡ count_words o
    → get_or k 0 0 ∷ get_or k 1 0 ∷ get_or k 2 0 ∷ first ∷ count ∷ get_or r 0 0 ∷ get_or r 1 0 ∷ [] ≡ id_words n ++ (first ∷ count ∷ count_words o)
rule-row k r first count n None e f = rw (e, f)
rule-row k r first count n (Some p) e f = rw (e, f)

-- ---- the group stored whole
pub judge-asked : {text : List ℕ} {m : Network} {d : Draft} {q : Sketch} {s : Counts} {w w1 : List ℕ} {f f1 : List Float} → ClausesPut text m d q s w f w1 f1
    → (x : Network) × Words text x w1 × (s.rules ≡ length x.rules) × (s.clauses ≤ room_clauses)
judge-asked {m = m} {d = d} k = (with_clauses (m.clauses ++ fitting m d.clauses) m, k.more.words, count-rules k.was, bound-clauses k.was)

fine_of : (text : List ℕ) (d : Draft) (m : Network) (o : Read Network) (r : Result Span Reason) (id : Span) → JudgedAs text d m o r → r ≡ Ok id → Fine text d m o id
fine_of text d m o r id h e = subst (λ (x : Result Span Reason). JudgedAs text d m o x) e h

module _ {text : List ℕ} {m : Network} {d : Draft} {q : Sketch} {s : Counts} {w w1 : List ℕ} {f f1 : List Float} (k : ClausesPut text m d q s w f w1 f1) (r : Result Span Reason)
    (by-judge : (x : Network) (cs : List Clause) (e : Draft) → Words text (with_clauses cs x) w1 → s.rules ≡ length x.rules
    → s.clauses ≡ length x.clauses → Sketched text e q → JudgedAs text e x (judged e x) r) where
  judged-as : JudgedAs text d m (judged d m) r
  judged-as = by-judge m (m.clauses ++ fitting m d.clauses) d k.more.words (count-rules k.was) (count-clauses k.was) k.sketched

  pub group-refused : (why : Reason) → r ≡ Err why → {w2 : List ℕ} {f2 : List Float}
      → ((cs : List Clause) → s.clauses ≡ length m.clauses → length cs ≡ q.clauses → HoldsMore text m (fitting m cs) w1 f1 → (w2 ≡ w) × (f2 ≡ f))
      → After text (judged d m) (Err why) w f w2 f2
  group-refused why e erased =
      let z : judged d m ≡ bad why = subst (λ (x : Result Span Reason). JudgedAs text d m (judged d m) x) e judged-as in
      let back = erased d.clauses (count-clauses k.was) k.sketched.long k.more in
      rw z (refl, back.0, back.1)

  module _ (id : Span) (e : r ≡ Ok id) where
    fine : Fine text d m (judged d m) id
    fine = fine_of text d m (judged d m) r id judged-as e

    pub group-rules : s.rules < room_rules
    group-rules = omega (arith, fine.rules, count-rules k.was)

    pub group-clauses : s.clauses + q.clauses ≤ room_clauses
    group-clauses = omega (arith, fine.clauses, count-clauses k.was, k.sketched.long)

    all_there : HoldsMore text m d.clauses w1 f1
    all_there = subst (λ (cs : List Clause). HoldsMore text m cs w1 f1) (take_all (room_clauses - length m.clauses) d.clauses (omega (arith, fine.clauses))) k.more

    rule-is : rule_in text id q s.clauses ≡ record { id = name_in text id; priority = d.priority; first = length m.clauses; count = length d.clauses }
    rule-is = rw (count-clauses k.was, ← k.sketched.long, ← k.sketched.rank)

    pub group-stored : {w2 : List ℕ} → w2 ≡ splice w1 (rules_at + s.rules * rules_width) (rule_words (rule_in text id q s.clauses))
        → After text (judged d m)
        (Ok (record { nodes = s.nodes; links = s.links; curves = s.curves; points = s.points; patterns = s.patterns; multipliers = s.multipliers; demands = s.demands; rules = s.rules + 1; clauses = s.clauses + q.clauses }))
        w f w2 f1
    group-stored ew =
        rw fine.whole (
          rw (k.was.counts, ← k.sketched.long, length-append, length-append),
          add-rule all_there _ (count-rules k.was) group-rules (sits-span text id fine.fits) (ew ∙ ap (λ (x : Rule). splice w1 (rules_at + s.rules * rules_width) (rule_words x)) rule-is),
        )

-- ---- the group closed: its lines taken, and then its rule stored
module _ {text : List ℕ} (at first : ℕ) {m : Network} {s : Counts} {w : List ℕ} {f : List Float} (h : Holds text m s w f) {w1 : List ℕ} {f1 : List Float} where
  pub close-refused : (why : Reason) → Taken text m (lines_of m no_draft (group_fields text at first)) (Err why) w f w1 f1 → After text (group_step (group_fields text at first) m) (Err why) w f w1 f1
  unfolding group_step
  close-refused why k = rw k.0 (refl, k.1, k.2)

  module _ (q : Sketch) (k : Taken text m (lines_of m no_draft (group_fields text at first)) (Ok q) w f w1 f1) where
    pub close-written : ClausesPut text m k.0 q s w f w1 f1
    close-written = record { was = h; sketched = k.2; more = k.3 }

    pub close-stored : (r : Result Counts Reason) (w2 : List ℕ) (f2 : List Float) → ((d : Draft) → ClausesPut text m d q s w f w1 f1 → After text (judged d m) r w f w2 f2)
        → After text (group_step (group_fields text at first) m) r w f w2 f2
    unfolding group_step
    close-stored r w2 f2 stored = rw k.1 (stored k.0 close-written)
