-- DEMAND 3, for any reader of numbered lines whose records come out alike where lines differ in number and place only (`Alike`, or
-- `Erases` and `erases-alike`). Assumes nothing.
--
-- t is a text, h says whether it is read as a house text, s and r are the section and the records that the reading begins with.
use mathlib.Core.Path.{◌≡◌, sym, ◌∙◌, subst}
use mathlib.Core.Bool.{Bool, false}
use mathlib.Core.List.{List, [], ◌∷◌, ◌++◌}
use mathlib.Core.Logic.{◌↔◌}
use Prim.Native.Nat.{ℕ, ◌+◌}
use lib.ListN.{length}
use Rattle.scope_lines.specs.Reader.{Reader, Standing, standing, Mark, marked, refused, rule_refused, unclosed, a_line, a_group, accepted, stopped, strict}
use Rattle.scope_lines.specs.Reader.{strict_to, after, marks, end_fate, survey_marks, survey_recs, count}
use Rattle.scope_lines.specs.Text.{Line, lines_of, strike_text, renumber, SameBody, Moved}
use Rattle.scope_lines.specs.Alike.{Alike}
use Rattle.scope_lines.specs.Demand3.{mark_of, Opens, up_to_struck, TextGroupStop, text_line, text_end, PlainGroupStop}
use Rattle.scope_lines.proofs.Pieces.{length-marks, classes-add-up, plain-stops, IsStop}
use Rattle.scope_lines.proofs.Text.{strike-text, text-refused-line, text-refused-group}

module _ {S R : Type 0} (𝓡 : Reader S Line R) (◌≈◌ : R → R → Type 0) (ℓ : Alike 𝓡 𝓡 SameBody ◌≈◌) (s : S) (r : R) (e : ◌≈◌ r r) (t : List ℕ) where
  abbrev begin : Standing S Line R
  begin = standing s [] r

  -- 1. Strike the refused lines and the lines of refused groups from the text. Strict reading accepts what is left, and its records
  -- are those of the survey, but for places and line numbers.
  pub struck-accepted : (h : Bool)
      → (q : R) × (strict 𝓡 h begin (lines_of (strike_text (survey_marks 𝓡 h begin (lines_of t)) t)) ≡ accepted q) × ◌≈◌ (survey_recs 𝓡 h begin (lines_of t)) q
  struck-accepted h = strike-text 𝓡 ◌≈◌ ℓ h s r e t

  -- 2. A line is refused for n exactly where strict reading of the text up to that line, earlier refusals struck, stops at it for n.
  -- (A house text that is cut short would close its last group there: `strict_to` is reading without that rule.)
  pub line_refused : (h : Bool) (pre : List Line) (l : Line) (post : List Line) (n : ℕ) → lines_of t ≡ pre ++ l ∷ post
      → (mark_of 𝓡 h begin pre l post ≡ marked refused n)
      ↔ ((l' : Line) × (q : R)
      × (strict_to 𝓡 h begin (lines_of (up_to_struck 𝓡 h s r t pre)) ≡ stopped n (a_line l') q)
      × Moved (renumber (marks 𝓡 h unclosed begin pre)) l l')
  line_refused h pre l post n d = text-refused-line 𝓡 ◌≈◌ ℓ h s r e t pre l post n d

  -- ..and a group that line a opens is refused for n exactly where strict reading, so, stops at it for n at the line that closes it,
  -- or, in a house text, at the end.
  pub group-refused : (h : Bool) (pre : List Line) (a : Line) (post : List Line) (n : ℕ) → lines_of t ≡ pre ++ a ∷ post
      → Opens 𝓡 h (after 𝓡 h begin pre) a
      → (mark_of 𝓡 h begin pre a post ≡ marked rule_refused n) ↔ TextGroupStop 𝓡 h s r t pre a post n
  group-refused h pre a post n d o = text-refused-group 𝓡 ◌≈◌ ℓ h s r e t pre a post n d o

  -- 3. Each line has one class, and the eight counts add up to the lines of the text.
  pub one-class-each : (h : Bool) → length (survey_marks 𝓡 h begin (lines_of t)) ≡ length (lines_of t)
  unfolding survey_marks
  one-class-each h = length-marks 𝓡 h _ begin (lines_of t)

  pub counts-add-up : (h : Bool)
      → let ms : List Mark = survey_marks 𝓡 h begin (lines_of t) in
      count 1 ms + count 2 ms + count 3 ms + count 4 ms + count 5 ms + count 6 ms + count 7 ms + count 8 ms ≡ length (lines_of t)
  counts-add-up h = classes-add-up 𝓡 h begin (lines_of t)

  -- The second again for plain reading, of document 01, where the end of the text closes nothing: here it is strict reading itself
  -- that stops.
  pub plain-line-refused : (pre : List Line) (l : Line) (post : List Line) (n : ℕ) → lines_of t ≡ pre ++ l ∷ post
      → (mark_of 𝓡 false begin pre l post ≡ marked refused n)
      ↔ ((l' : Line) × (q : R)
      × (strict 𝓡 false begin (lines_of (up_to_struck 𝓡 false s r t pre)) ≡ stopped n (a_line l') q)
      × Moved (renumber (marks 𝓡 false unclosed begin pre)) l l')
  plain-line-refused pre l post n d =
      let k = line_refused false pre l post n d in
      let u = plain-stops 𝓡 (lines_of (up_to_struck 𝓡 false s r t pre)) begin n in (
        (λ m. let (l', q, z, v) = k.0 m in (l', q, (u (a_line l') q).1 z, v)),
        λ (l', q, z, v). k.1 (l', q, (u (a_line l') q).0 z, v),
      )

  pub plain-group-refused : (pre : List Line) (a : Line) (post : List Line) (n : ℕ) → lines_of t ≡ pre ++ a ∷ post
      → Opens 𝓡 false (after 𝓡 false begin pre) a
      → (mark_of 𝓡 false begin pre a post ≡ marked rule_refused n) ↔ PlainGroupStop 𝓡 s r t pre a post n
  unfolding survey_marks end_fate
  plain-group-refused pre a post n d o = ((λ m. there ((group-refused false pre a post n d o).0 m)), λ p. (group-refused false pre a post n d o).1 (here p))
    where
      there : TextGroupStop 𝓡 false s r t pre a post n → PlainGroupStop 𝓡 s r t pre a post n
      there (text_line mid c post' a' g q w k z m) = record {
        mid = mid;
        closer = c;
        rest = post';
        first = a';
        others = g;
        recs = q;
        splits = w;
        waits = k;
        stops = (plain-stops 𝓡 (lines_of (up_to_struck 𝓡 false s r t (pre ++ a ∷ mid))) begin n (a_group (a' ∷ g)) q).1 z;
        moved = m;
      }
      there (text_end a' g q k z m) = absurd (subst IsStop (sym z ∙ (struck-accepted false).1) tt)

      here : PlainGroupStop 𝓡 s r t pre a post n → TextGroupStop 𝓡 false s r t pre a post n
      here p =
          text_line p.mid p.closer p.rest p.first p.others p.recs p.splits p.waits
          ((plain-stops 𝓡 (lines_of (up_to_struck 𝓡 false s r t (pre ++ a ∷ p.mid))) begin n (a_group (p.first ∷ p.others)) p.recs).0 p.stops) p.moved
