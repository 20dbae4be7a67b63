-- What others may cite: demand 3, where reasons stand, what the counts are, when the two readings agree, and what a rule group stores. `t` is a text; its lines are `before`, then the line meant, then
-- `after`. Assumes nothing.
use Prim.Native.Nat.{ℕ, suc, ◌+◌, ◌≤◌, ◌<◌}
use native.Mathlib.Omega.{arith}
use mathlib.Core.Path.{◌≡◌, refl, ap, sym, ◌∙◌}
use mathlib.Core.Bool.{false}
use mathlib.Core.List.{List, ◌∷◌, ◌++◌, map}
use mathlib.Core.Logic.{◌↔◌, ◌⊎◌}
use lib.ListN.{length}
use lib.Ieee.{Float}
use Rattle.leaf_fields.specs.Fields.{Name}
use Rattle.scope_lines.specs.Reader.{Reply, accepted, stopped, Piece, a_line, Mark, marked, refused, rule_taken, rule_refused, unclosed, code, marks, count}
use Rattle.scope_lines.specs.Reader as L
use Rattle.scope_lines.specs.Text.{Line, Each, lines_of, renumber, Moved, piece_no}
use Rattle.scope_lines.specs.Tables.{code_of, count_in}
use Rattle.scope_lines.specs.Alike.{Erases}
use Rattle.scope_lines.specs.Demand3.{Opens, up_to_struck, PlainGroupStop}
use Rattle.scope_lines.specs.Readings.{ReasonStands, StoppedAt}
use Rattle.scope_lines.proofs.Demand3 as D
use Rattle.scope_lines.proofs.Readings as S
use Rattle.scope_lines.proofs.Marks.{count-codes}
use Rattle.scope_lines.proofs.Told.{line-no, line-told, group-told, group-stops}
use Rattle.scope.specs.declared.Survey.{Survey}
use Rattle.scope.specs.declared.Answer.{Answer}
use Rattle.scope.specs.declared.Section.TheVariants.{Passed}
use Rattle.scope.specs.Records.{Network, no_network}
use Rattle.scope.specs.Values.{good}
use Rattle.scope.specs.Rules.{group_step}
use Rattle.scope.specs.Groups.{Stores, StoredIn}
use Rattle.scope.specs.Lines.{rule_fields, inp}
use Rattle.scope.specs.Reading.{at_start, strict_of, marks_of, surveyed, network_in, by_text, told, says, strict_answer, strict_network, survey_of, survey_network}
use Rattle.scope.specs.Bare.{bare, bare_inp}
use Rattle.scope.specs.Promises.{Readable, Roomy, SurveyRoom, struck_text, up_to_line, number_then, GroupEnds, group_lines, stored_by, TakenAt, mark_at, class_at, reason_at, NoRefusal}
use Rattle.scope.specs.Tables.{words_of, numbers_of}
use Rattle.scope.specs.Written.{Written}
use Rattle.scope.proofs.Erasure as E
use Rattle.scope.proofs.Encoding as X
use Rattle.scope.proofs.Readings as W
use Rattle.scope.proofs.GroupLaws as G
use Rattle.scope.proofs.Taken as T
use Rattle.scope.proofs.Erasure.{Like, alike}
use Rattle.scope.proofs.Fairness.{fair, all-numbered, none-counted, counted_none, stopped-fair}
use Rattle.scope.proofs.Struck.{struck-readable, first-readable, answered, strict-stores, survey-stores}
use Rattle.scope.proofs.Exactly.{marks-here, line_marked, survey-tells, answer-stop, numbered-then, first-numbered}

-- ---- reading commutes with forgetting where names stand
pub erases : Erases inp bare_inp (λ l. l.body) bare
erases = E.erases

-- ---- demand 3, first sentence: the text without its refused lines and groups is accepted, with the survey's records, names compared by their letters
pub strike : (t : List ℕ) → (q : Network) × (strict_of (struck_text t) ≡ accepted q) × (bare (surveyed t) ≡ bare q)
unfolding strict_of marks_of surveyed
strike t = D.struck-accepted inp Like alike Passed no_network refl t false

-- ..and the public function answers 0, line 0
pub strike-answer : (t : List ℕ) (w f : ℕ) → Readable t → Roomy w f → strict_answer (struck_text t) w f ≡ says 0 0
unfolding told
strike-answer t w f r k = answered (struck_text t) w f (struck-readable (marks_of t) t r) k ∙ ap told (strike t).1

-- ..and stores the survey's network, names compared by their letters
pub strike-network : (t : List ℕ) → Readable t → bare (survey_network t) ≡ bare (strict_network (struck_text t))
unfolding network_in
strike-network t r =
    let (q, e, l) = strike t in
    ap bare (survey-stores t r) ∙ l ∙ ap bare (sym (strict-stores (struck_text t) (struck-readable (marks_of t) t r) ∙ ap network_in e))

-- ---- demand 3, second sentence
-- a line is refused for n exactly when strict reading of the text up to that line, earlier refusals struck, stops at it for n: at the line of these bytes, by its new number
pub refused-line : (t : List ℕ) (before : List Line) (l : Line) (after : List Line) (n : ℕ) → lines_of t ≡ before ++ l ∷ after
    → (mark_at t (length before) ≡ marked refused n)
    ↔ ((l' : Line) × (q : Network)
    × (strict_of (up_to_line t before) ≡ stopped n (a_line l') q)
    × Moved (renumber (marks inp false unclosed at_start before)) l l')
unfolding strict_of
refused-line t before l after n d =
    let e = marks-here t before l after d in
    let k = D.plain-line-refused inp Like alike Passed no_network refl t before l after n d in
    ((λ m. k.0 (e ∙ m)), λ s. sym e ∙ k.1 s)

-- a group is refused for n exactly when strict reading of the text up to the line that closes it, earlier refusals struck, stops at it for n: at the new number of its first line
pub refused-group : (t : List ℕ) (before : List Line) (first : Line) (after : List Line) (n : ℕ) → lines_of t ≡ before ++ first ∷ after
    → Opens inp false (L.after inp false at_start before) first
    → (mark_at t (length before) ≡ marked rule_refused n) ↔ PlainGroupStop inp Passed no_network t before first after n
refused-group t before first after n d o =
    let e = marks-here t before first after d in
    let k = D.plain-group-refused inp Like alike Passed no_network refl t before first after n d o in
    ((λ m. k.0 (e ∙ m)), λ s. sym e ∙ k.1 s)

-- ---- demand 3, second sentence, of the public answers: what read_survey writes of a line, its class and its reason, and what read_strict answers. `w f c r` are the tables that
-- the survey is lent; `w₁ f₁` are the lengths of those that strict reading is lent. Strict reading names a line by its number in the shorter text, `number_then`: it tells a line that
-- is kept there from all others (a line that is struck has none of its own), so the second theorem speaks of a line that opens a group

-- A line has class 5, refused, and reason n exactly when strict reading of the text up to that line, earlier refusals struck, answers n at that line.
pub line-exactly : (t : List ℕ) (before : List Line) (l : Line) (after : List Line) (n : ℕ) (w : List ℕ) (f : List Float) (c r : List ℕ) (w₁ f₁ : ℕ)
    → lines_of t ≡ before ++ l ∷ after → Readable t → SurveyRoom w f c r → Roomy w₁ f₁
    → ((class_at t w f c r (length before) ≡ code refused) × (reason_at t w f c r (length before) ≡ n))
    ↔ (strict_answer (up_to_line t before) w₁ f₁ ≡ says n (number_then before l.no))
unfolding strict_of told piece_no up_to_struck
line-exactly t before l after n w f c r w₁ f₁ d ok room k =
    let tells = survey-tells t w f c r ok room (length before) (line_marked t before l after d) refused n in
    let ok₁ = struck-readable _ _ (first-readable (suc (length before)) t ok) in (
      (λ m. let (l', q, e, v) = (refused-line t before l after n d).0 (tells.0 m) in answered (up_to_line t before) w₁ f₁ ok₁ k ∙ ap told e ∙ ap (says n) v.1),
      λ a. let (p, q, e, z) = answer-stop (up_to_line t before) w₁ f₁ n _ ok₁ k (numbered-then before l.no (omega (arith, line-no t before l after d))) a in
          tells.1 (sym (marks-here t before l after d) ∙ line-told inp Like alike Passed no_network refl t before l after n p q d e z),
    )

-- The first line of a group has class 7, rule refused, and reason n exactly when strict reading of the text up to the line that ends the group, earlier refusals struck, answers n at
-- that first line.
pub group-exactly : (t : List ℕ) (before : List Line) (first : Line) (mid : List Line) (closer : Line) (after : List Line) (n : ℕ) (w : List ℕ) (f : List Float) (c r : List ℕ) (w₁ f₁ : ℕ)
    → lines_of t ≡ before ++ first ∷ (mid ++ closer ∷ after) → GroupEnds before first mid closer → Readable t → SurveyRoom w f c r → Roomy w₁ f₁
    → ((class_at t w f c r (length before) ≡ code rule_refused) × (reason_at t w f c r (length before) ≡ n))
    ↔ (strict_answer (up_to_line t (before ++ first ∷ mid)) w₁ f₁ ≡ says n (number_then (before ++ first ∷ mid) first.no))
unfolding strict_of told up_to_struck
group-exactly t before first mid closer after n w f c r w₁ f₁ d ends ok room k =
    let ls : List Line = before ++ first ∷ mid in
    let tells = survey-tells t w f c r ok room (length before) (line_marked t before first (mid ++ closer ∷ after) d) rule_refused n in
    let here = marks-here t before first (mid ++ closer ∷ after) d in
    let ok₁ = struck-readable _ _ (first-readable (suc (length ls)) t ok) in (
      (λ m. let (p, q, e, z) = group-stops inp Like alike Passed no_network refl t before first mid closer after n d ends (here ∙ tells.0 m) in
          answered (up_to_line t ls) w₁ f₁ ok₁ k ∙ ap told e ∙ ap (says n) z),
      λ a. let (p, q, e, z) = answer-stop (up_to_line t ls) w₁ f₁ n _ ok₁ k (first-numbered t before first mid (closer ∷ after) d) a in
          tells.1 (sym here ∙ (group-told inp Like alike Passed no_network refl t before first mid closer after n d p q ends.opens e z).1),
    )

-- A refused group ends at some line: one that is still open where the text ends is not refused.
pub refused-ends : (t : List ℕ) (before : List Line) (first : Line) (after : List Line) → lines_of t ≡ before ++ first ∷ after
    → Opens inp false (L.after inp false at_start before) first → (mark_at t (length before)).class ≡ rule_refused
    → (mid : List Line) × (closer : Line) × (rest : List Line) × (after ≡ mid ++ closer ∷ rest) × GroupEnds before first mid closer
unfolding piece_no
refused-ends t before first after d o m =
    let n : ℕ = (mark_at t (length before)).reason in
    let p = (refused-group t before first after n d o).0 (ap (λ x. marked x n) m) in
    let d₁ = d ∙ ap (λ ls. before ++ first ∷ ls) p.splits in
    (p.mid, p.closer, p.rest, p.splits, (group-told inp Like alike Passed no_network refl t before first p.mid p.closer p.rest n d₁ _ _ o p.stops p.moved.1).0)

-- Where strict reading of the text up to a line, earlier refusals struck, answers at the first line of a group, that line ends the group: no other beginning of the text is refused so.
pub answer-ends : (t : List ℕ) (before : List Line) (first : Line) (mid : List Line) (closer : Line) (after : List Line) (n w f : ℕ)
    → lines_of t ≡ before ++ first ∷ (mid ++ closer ∷ after) → Opens inp false (L.after inp false at_start before) first → Readable t → Roomy w f
    → strict_answer (up_to_line t (before ++ first ∷ mid)) w f ≡ says n (number_then (before ++ first ∷ mid) first.no) → GroupEnds before first mid closer
unfolding strict_of up_to_struck
answer-ends t before first mid closer after n w f d o ok k a =
    let ls : List Line = before ++ first ∷ mid in
    let ok₁ = struck-readable _ _ (first-readable (suc (length ls)) t ok) in
    let (p, q, e, z) = answer-stop (up_to_line t ls) w f n _ ok₁ k (first-numbered t before first mid (closer ∷ after) d) a in
    (group-told inp Like alike Passed no_network refl t before first mid closer after n d p q o e z).0

-- ---- classes and counts: each line has one class, each count is the number of lines with that class, and the eight add up to the lines of the text
pub one-class-each : (t : List ℕ) → length (marks_of t) ≡ length (lines_of t)
unfolding marks_of
one-class-each t = D.one-class-each inp Like alike Passed no_network refl t false

pub classes-numbered : (t : List ℕ) → Each (λ k. (1 ≤ k) × (k ≤ 8)) (map code_of (marks_of t))
classes-numbered t = all-numbered (marks_of t)

pub record Counted (s : Survey) (classes : List ℕ) : Type 0 where
  pub blank : s.blank ≡ count_in 1 classes
  pub header : s.header ≡ count_in 2 classes
  pub passed : s.passed ≡ count_in 3 classes
  pub taken : s.taken ≡ count_in 4 classes
  pub refused : s.refused ≡ count_in 5 classes
  pub ruletaken : s.ruletaken ≡ count_in 6 classes
  pub rulerefused : s.rulerefused ≡ count_in 7 classes
  pub ruleopen : s.ruleopen ≡ count_in 8 classes

pub counts-are : (t : List ℕ) → Counted (survey_of t) (map code_of (marks_of t))
unfolding survey_of
counts-are t =
    let c : (k : ℕ) → count k (marks_of t) ≡ count_in k (map code_of (marks_of t)) = λ k. sym (count-codes k (marks_of t)) in
    record { blank = c 1; header = c 2; passed = c 3; taken = c 4; refused = c 5; ruletaken = c 6; rulerefused = c 7; ruleopen = c 8 }

pub counts-add-up : (t : List ℕ)
    → let s = survey_of t in
    s.blank + s.header + s.passed + s.taken + s.refused + s.ruletaken + s.rulerefused + s.ruleopen ≡ s.lines
unfolding survey_of marks_of
counts-add-up t = D.counts-add-up inp Like alike Passed no_network refl t false

-- ---- "A refused line's reason stands at that line, a refused group's at its first line; other reasons are 0"; and no reason that stands is 0
pub reason-stands : (t : List ℕ) (before : List Line) (l : Line) (after : List Line) → lines_of t ≡ before ++ l ∷ after
    → ReasonStands inp false at_start before l after (mark_at t (length before))
reason-stands t before l after d = rw (← marks-here t before l after d) (S.reason-stands inp false at_start before l after)

pub reason-some : (t : List ℕ) (before : List Line) (l : Line) (after : List Line) → lines_of t ≡ before ++ l ∷ after
    → ((mark_at t (length before)).class ≡ refused) ⊎ (((mark_at t (length before)).class ≡ rule_refused) × Opens inp false (L.after inp false at_start before) l)
    → (mark_at t (length before)).reason ≡ 0 → ⊥
reason-some t before l after d = rw (← marks-here t before l after d) (S.reason-fair inp false at_start before l after fair)

-- ---- strict reading accepts a text exactly when the survey refuses nothing of it, and the network is then the same
pub accepts : (t : List ℕ) (m : Network) → (strict_of t ≡ accepted m) ↔ (NoRefusal t × (surveyed t ≡ m))
unfolding strict_of marks_of surveyed survey_of
accepts t m =
    let k = S.accepts-alike inp false Passed no_network (lines_of t) m in (
      (λ e. let (ms, q) = k.0 e in let (a, b) = none-counted ms in (record { no_line = a; no-group = b }, q)),
      λ (c, q). k.1 (counted_none _ c.no_line c.no-group, q),
    )

-- ..so the two public functions store the same
pub accepts-network : (t : List ℕ) → NoRefusal t → strict_network t ≡ survey_network t
unfolding strict_network survey_network network_in
accepts-network t c = ap (λ m. by_text t no_network no_network m) (ap network_in ((accepts t (surveyed t)).1 (c, refl)))

-- ..and strict reading answers 0 exactly then
told-zero : (t : List ℕ) (r : Reply Line Network) → strict_of t ≡ r → (told r).number ≡ 0 → (m : Network) × (strict_of t ≡ accepted m)
unfolding told
told-zero t (accepted m) e z = (m, e)
told-zero t (stopped n p m) e z = absurd (stopped-fair t n p m e z)

pub accepts-answer : (t : List ℕ) (w f : ℕ) → Readable t → Roomy w f → (strict_answer t w f ≡ says 0 0) ↔ NoRefusal t
unfolding told
accepts-answer t w f r k = (
  (λ e. let (m, q) = told-zero t (strict_of t) refl (ap (λ (a : Answer). a.number) (sym (answered t w f r k) ∙ e)) in ((accepts t m).0 q).0),
  λ c. answered t w f r k ∙ ap told ((accepts t (surveyed t)).1 (c, refl)),
)

-- ---- where strict reading stops it holds what the lines before stored, none of which is refused: "the earlier is the one whose piece ended first"
pub stopped-at : (t : List ℕ) (n : ℕ) (p : Piece Line) (m : Network) → strict_of t ≡ stopped n p m → StoppedAt inp false at_start (lines_of t) n p m
unfolding strict_of
stopped-at t n p m e = S.stopped-at inp false (lines_of t) at_start n p m e

-- ---- every name of a network that is read stands in the text, at its place and with its letters
pub strict-written : (t : List ℕ) → Written t (strict_network t)
strict-written t = W.strict-network t

pub survey-written : (t : List ℕ) → Written t (survey_network t)
survey-written t = W.survey-network t

-- ---- the two tables lose nothing: networks whose names are written in one text, and whose words and numbers are the same, are the same
pub encoding : (t : List ℕ) (m q : Network) → Written t m → Written t q → words_of m ≡ words_of q → numbers_of m ≡ numbers_of q → m ≡ q
encoding t m q = X.encoding t m q

-- ..so a network so written, with the words and the numbers that a reading leaves, is the one that was read
pub strict-found : (t : List ℕ) (m : Network) → Written t m → words_of m ≡ words_of (strict_network t) → numbers_of m ≡ numbers_of (strict_network t) → m ≡ strict_network t
strict-found t m w = encoding t m (strict_network t) w (strict-written t)

pub survey-found : (t : List ℕ) (m : Network) → Written t m → words_of m ≡ words_of (survey_network t) → numbers_of m ≡ numbers_of (survey_network t) → m ≡ survey_network t
survey-found t m w = encoding t m (survey_network t) w (survey-written t)

-- ---- what a rule group that is taken stores: one rule and, as its clauses, what its lines say, in order, none lost and none added (`Stores`, specs/Groups.antt)

-- The conditions are exactly the group's IF and OR lines and its AND lines with no THEN before them; the actions exactly its THEN and ELSE lines and its AND lines with a THEN before
-- them, each as `action_of` reads its line, and an else action exactly where the line is an ELSE or an AND with an ELSE before it. The new rule spans exactly these clauses; all else of
-- the network is as it was.
pub group-stores : (ls : List (List Name)) (m m' : Network) → group_step ls m ≡ good m' → Stores ls m m'
group-stores ls m m' = G.group-stores ls m m'

-- The network of a survey has the rule of each group whose class is rule taken, with these clauses of these lines: what is read later changes none of them.
pub taken-stands : (t : List ℕ) (before : List Line) (first : Line) (mid : List Line) (closer : Line) (after : List Line)
    → lines_of t ≡ before ++ first ∷ (mid ++ closer ∷ after) → GroupEnds before first mid closer → Readable t → (mark_at t (length before)).class ≡ rule_taken
    → StoredIn (map rule_fields (group_lines before first mid)) (stored_by (before ++ first ∷ mid)) (survey_network t)
taken-stands t before first mid closer after d ends ok m =
    let w = T.taken-stands t before first mid closer after d ends (ap (λ (x : Mark). x.class) (marks-here t before first (mid ++ closer ∷ after) d) ∙ m) in
    rw (survey-stores t ok) w

-- ..and it has no other rule: each is that of a group whose class is rule taken, and they stand in the order of the text.
pub rule-taken : (t : List ℕ) (i : ℕ) → Readable t → i < length (survey_network t).rules → TakenAt t i
rule-taken t i ok h = T.rule-taken t i (rw (survey-stores t ok) at h)
