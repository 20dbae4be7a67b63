-- What the public functions say of a refused piece: the survey by its class and its reason, strict reading by its number and its line. Assumes nothing.
use Prim.Native.Nat.{ℕ, zero, suc, ◌<◌}
use native.Mathlib.Omega.{arith}
use borrow.Author.Tests.{le-ltb}
use mathlib.Core.Path.{◌≡◌, refl, ap, ap₂, sym, ◌∙◌}
use mathlib.Core.Bool.{false, cond}
use mathlib.Core.List.{List, [], ◌∷◌, ◌++◌, map, append_assoc}
use mathlib.Core.Logic.{◌↔◌}
use lib.ListN.{length, get_or, drop, length-append}
use lib.Dec.{eqb}
use lib.Ieee.{Float}
use Rattle.scope_lines.specs.Reader.{Class, blank, header, passed, taken, refused, rule_taken, rule_refused, rule_open, code, Mark, marked, Reply, accepted}
use Rattle.scope_lines.specs.Reader.{stopped, Piece, Fate, Sort, empty, heading, start, other, struck, step, act, if_open, of_stored, next, mark, still_class, fate}
use Rattle.scope_lines.specs.Reader.{marks, unclosed, survey_marks}
use Rattle.scope_lines.specs.Text.{Line, lines_of, piece_no, renumber}
use Rattle.scope_lines.specs.Tables.{code_of, reason_in, marks_in}
use Rattle.scope_lines.specs.Demand3.{mark_of}
use Rattle.scope_lines.proofs.Told.{Kept, line-no, renumber-le, renumber-kept}
use Rattle.scope_lines.proofs.Demand3 as D
use Rattle.scope.specs.declared.Section.{Section}
use Rattle.scope.specs.declared.Answer.{Answer}
use Rattle.scope.specs.Sections.{room_text, room_lines}
use Rattle.scope.specs.Layout.{room_words, room_numbers}
use Rattle.scope.specs.declared.Section.TheVariants.{Passed}
use Rattle.scope.specs.Records.{Network, no_network}
use Rattle.scope.specs.Lines.{inp, sort_of, step_of}
use Rattle.scope.specs.Reading.{at_start, marks_of, strict_of, told, says, strict_answer, too_small, survey_small, survey_marked, survey_classes, survey_reasons}
use Rattle.scope.specs.Promises.{Readable, Roomy, SurveyRoom, class_at, reason_at, mark_at, number_then}
use Rattle.scope.proofs.Erasure.{Like, alike}
use Rattle.scope.proofs.Struck.{answered}

-- ---- the mark of a line, by the lines before it and after it
pub marks-here : (t : List ℕ) (before : List Line) (l : Line) (after : List Line) → lines_of t ≡ before ++ l ∷ after → mark_of inp false at_start before l after ≡ mark_at t (length before)
unfolding mark_of marks_of
marks-here t before l after d = ap (λ ls. get_or (survey_marks inp false at_start ls) (length before) (marked blank 0)) (sym d)

pub line_marked : (t : List ℕ) (before : List Line) (l : Line) (after : List Line) → lines_of t ≡ before ++ l ∷ after → length before < length (marks_of t)
unfolding marks_of
line_marked t before l after d = omega (arith, D.one-class-each inp Like alike Passed no_network refl t false, ap length d, length-append before (l ∷ after))

-- ---- a class has its number alone
abbrev class_of : ℕ → Class
class_of k =
    cond (eqb k 1) blank
    (cond (eqb k 2) header
    (cond (eqb k 3) passed
    (cond (eqb k 4) taken
    (cond (eqb k 5) refused
    (cond (eqb k 6) rule_taken
    (cond (eqb k 7) rule_refused rule_open))))))

class_back : (c : Class) → class_of (code c) ≡ c
unfolding code
class_back blank = refl
class_back header = refl
class_back passed = refl
class_back taken = refl
class_back refused = refl
class_back rule_taken = refl
class_back rule_refused = refl
class_back rule_open = refl

code-once : (c d : Class) → code c ≡ code d → c ≡ d
code-once c d e = sym (class_back c) ∙ ap class_of e ∙ class_back d

-- ---- what a survey writes of a line
held_at : (g : Mark → ℕ) (ms : List Mark) (rest : List ℕ) (i : ℕ) (d : Mark) → i < length ms → get_or (map g ms ++ rest) i 0 ≡ g (get_or ms i d)
held_at g [] rest i d h = absurd (omega arith)
held_at g (m ∷ ms) rest zero d h = refl
held_at g (m ∷ ms) rest (suc i) d h = held_at g ms rest i d (omega arith)

marks-held : (g : Mark → ℕ) (ms : List Mark) (c : List ℕ) (i : ℕ) → i < length ms → get_or (marks_in g room_lines ms ++ drop room_lines c) i 0 ≡ g (get_or ms i (marked blank 0))
unfolding marks_in
marks-held g ms c i h = rw append_assoc (held_at g ms _ i (marked blank 0) h)

module _ (t w : List ℕ) (f : List Float) (c r : List ℕ) (ok : Readable t) (room : SurveyRoom w f c r) (i : ℕ) (h : i < length (marks_of t)) where
  marked_all : survey_marked t ≡ marks_of t
  unfolding survey_marked
  marked_all = rw (le-ltb room_text (length t) ok.short, ok.low)

  roomy : survey_small (length w) (length f) (length c) (length r) ≡ false
  unfolding survey_small too_small
  roomy = rw (le-ltb (length w) room_words room.words, le-ltb (length f) room_numbers room.numbers, le-ltb (length c) room_lines room.classes, le-ltb (length r) room_lines room.reasons)

  class-is : class_at t w f c r i ≡ code_of (mark_at t i)
  unfolding survey_classes
  class-is = rw (roomy, marked_all) (marks-held code_of (marks_of t) c i h)

  reason-is : reason_at t w f c r i ≡ (mark_at t i).reason
  unfolding survey_reasons
  reason-is = rw (roomy, marked_all) (marks-held reason_in (marks_of t) r i h)

  -- the two tables tell the mark
  pub survey-tells : (k : Class) (n : ℕ) → ((class_at t w f c r i ≡ code k) × (reason_at t w f c r i ≡ n)) ↔ (mark_at t i ≡ marked k n)
  survey-tells k n = (
    (λ (a, b). ap₂ marked (code-once _ k (sym class-is ∙ a)) (sym reason-is ∙ b)),
    λ e. (class-is ∙ ap (λ (m : Mark). code m.class) e, reason-is ∙ ap (λ (m : Mark). m.reason) e),
  )

-- ---- what strict reading answers
told-stop : (x : Reply Line Network) (n k : ℕ) → (k ≡ 0 → ⊥) → told x ≡ says n k → (p : Piece Line) × (q : Network) × (x ≡ stopped n p q) × (piece_no p ≡ k)
unfolding told
told-stop (accepted m) n k nz e = absurd (nz (sym (ap (λ (a : Answer). a.line) e)))
told-stop (stopped j p m) n k nz e = (p, m, ap (λ i. stopped i p m) (ap (λ (a : Answer). a.number) e), ap (λ (a : Answer). a.line) e)

pub answer-stop : (t : List ℕ) (w f n k : ℕ) → Readable t → Roomy w f → (k ≡ 0 → ⊥) → strict_answer t w f ≡ says n k
    → (p : Piece Line) × (q : Network) × (strict_of t ≡ stopped n p q) × (piece_no p ≡ k)
answer-stop t w f n k ok room nz e = told-stop (strict_of t) n k nz (sym (answered t w f ok room) ∙ e)

-- ---- the first line of a text is blank, a header or passed over, so it is kept; and no line has the number 0
first-kept : (l : Line) (ls : List Line) → Kept (marks inp false unclosed at_start (l ∷ ls)) 0
unfolding marks step inp act if_open of_stored step_of mark still_class struck
first-kept l ls = go (sort_of l.body) (fate inp false unclosed (next at_start l (step inp false at_start l)) ls)
  where
    go : (k : Sort Section) (f : Fate) → struck (mark at_start (act inp false k false at_start l) f).class ≡ false
    go empty f = refl
    go (heading s) f = refl
    go start f = refl
    go other f = refl

pub numbered-then : (ls : List Line) (i : ℕ) → (i ≡ 0 → ⊥) → number_then ls i ≡ 0 → ⊥
unfolding marks renumber
numbered-then ls zero nz e = nz refl
numbered-then [] (suc i) nz e = omega arith
numbered-then (l ∷ ls) (suc i) nz e =
    let ms : List Mark = marks inp false unclosed at_start (l ∷ ls) in
    omega (arith, renumber-kept ms 0 (first-kept l ls), renumber-le ms 1 (suc i) (omega arith))

pub first-numbered : (t : List ℕ) (before : List Line) (first : Line) (mid after : List Line) → lines_of t ≡ before ++ first ∷ (mid ++ after)
    → number_then (before ++ first ∷ mid) first.no ≡ 0 → ⊥
first-numbered t before first mid after d = numbered-then (before ++ first ∷ mid) first.no (omega (arith, line-no t before first (mid ++ after) d))
