-- A turn of a loop that reads a text line by line, strictly or as a survey: what the code keeps is what the definitions say.
-- Assumes nothing.
use Prim.Native.Nat.{ℕ, suc, ◌+◌, ◌-◌, ◌≤◌, ◌<◌}
use native.Mathlib.Omega.{arith}
use native.Mathlib.Nat.{sub-zero}
use mathlib.Core.Path.{◌≡◌, refl, sym, ap, ap₂, ◌∙◌, subst}
use mathlib.Core.Bool.{Bool, true, false, cond, false≢true}
use mathlib.Core.List.{List, [], ◌∷◌, ◌++◌, map, append_assoc, append-nil}
use lib.ListN.{length, take, drop, set, replicate, length-append, drop_of_length-le}
use lib.Dec.{eqb}
use Rattle.leaf_scans.specs.Lines.{chunks, line_len}
use Rattle.leaf_scans.proofs.LineLaws.{body-long}
use Rattle.scope_lines.specs.Reader.{Reader, Standing, standing, good, bad, Mark, unclosed, Outcome, still, filed, joins, closes, itself, last, fresh}
use Rattle.scope_lines.specs.Reader.{settle, next, Piece, a_line, a_group, Reply, stopped, unless, stop_at, step, read, ending, end_verdict, end_fate, strict}
use Rattle.scope_lines.specs.Reader.{after, marks, survey_marks, survey_recs, count}
use Rattle.scope_lines.specs.Text.{Line, lines_of, number, piece_no, lines_from, body_at, line_at}
use Rattle.scope_lines.specs.Turn.{refusal_in, fine_in, refusal, fine, closed_by, piece_by, Tells}
use Rattle.scope_lines.specs.Tables.{code_of, reason_in, marks_in, refilled, count_in}
use Rattle.scope_lines.proofs.Cut.{lines_at}
use Rattle.scope_lines.proofs.Pieces.{after-append, length-marks}
use Rattle.scope_lines.proofs.Forward.{refill, waits, refill-marks, marks-next}
use Rattle.scope_lines.proofs.Marks.{shut[], count-codes, take-codes}
use Rattle.scope_lines.proofs.Opened.{Opened, opened[], opened-next, has-piece, next_marks, piece-le, reason-piece, class-turn, reason-turn}

-- ---- the lines of a text from the next place on

module _ (text : List ℕ) (at line : ℕ) {at' line' : ℕ} (h : at < length text) (ha : at' ≡ at + length (body_at text at)) (hl : line' ≡ line + 1) where
  pub next-lines : lines_from text at (line + 1) ≡ line_at text at (line + 1) ∷ lines_from text at' (line' + 1)
  next-lines =
      let e : ℕ = at + line_len (drop at text) in
      let p : e ≡ at' = sym (ha ∙ body-long text at e h refl) in
      let i : suc (line + 1) ≡ line' + 1 = omega arith in
      lines_at text at e h refl (line + 1) ∙ ap₂ (λ (x y : ℕ). line_at text at (line + 1) ∷ lines_from text x y) p i

-- ---- an outcome stops strict reading where its number is not 0

module _ {S R : Type 0} (m : Standing S Line R) (l : Line) (a : Reply Line R) where
  pub goes_on-law : (o : Outcome S R) → (refusal o ≡ 0 → fine o ≡ true) → refusal o ≡ 0 → stop_at m l o a ≡ a
  unfolding stop_at unless refusal refusal_in fine fine_in
  goes_on-law (still c s) f z = refl
  goes_on-law (filed (good r)) f z = refl
  goes_on-law (filed (bad n)) f z = absurd (false≢true (f z))
  goes_on-law joins f z = refl
  goes_on-law (closes (good r) own) f z = refl
  goes_on-law (closes (bad n) own) f z = absurd (false≢true (f z))

  pub stops : (o : Outcome S R) → (refusal o ≡ 0 → ⊥)
      → (p : Piece Line) × (stop_at m l o a ≡ stopped (refusal o) p (next m l o).recs) × (piece_no p ≡ piece_by m l o)
  unfolding stop_at unless refusal refusal_in piece_by next settle piece_no
  stops (still c s) z = absurd (z refl)
  stops (filed (good r)) z = absurd (z refl)
  stops (filed (bad n)) z = (a_line l, refl, refl)
  stops joins z = absurd (z refl)
  stops (closes (good r) own) z = absurd (z refl)
  stops (closes (bad n) (itself c s)) z = (a_group m.group, refl, refl)
  stops (closes (bad n) last) z = (a_group m.group, refl, refl)
  stops (closes (bad n) fresh) z = (a_group m.group, refl, refl)

module _ {S R : Type 0} (𝓡 : Reader S Line R) (h : Bool) (s₀ : S) (r₀ : R) (text : List ℕ) where
  abbrev pub begin : Standing S Line R
  begin = standing s₀ [] r₀

  -- ---- the strict loop: reading goes on from m, at a place and after a number of lines

  pub record Going (m : Standing S Line R) (at line : ℕ) : Type 0 where
    pub goes : read 𝓡 h (ending 𝓡 h) m (lines_from text at (line + 1)) ≡ strict 𝓡 h begin (lines_of text)

  pub going_start : Going begin 0 0
  unfolding strict lines_of
  going_start = record { goes = refl }

  module _ {m : Standing S Line R} {at line : ℕ} (g : Going m at line) where
    abbrev outcome : Outcome S R
    outcome = step 𝓡 h m (line_at text at (line + 1))

    module _ {class closed reason piece at' line' : ℕ} (t : Tells m (line_at text at (line + 1)) outcome class closed reason piece)
        (ht : at < length text) (ha : at' ≡ at + length (body_at text at)) (hl : line' ≡ line + 1) where
      rest : Reply Line R
      rest = read 𝓡 h (ending 𝓡 h) (next m (line_at text at (line + 1)) outcome) (lines_from text at' (line' + 1))

      whole : stop_at m (line_at text at (line + 1)) outcome rest ≡ strict 𝓡 h begin (lines_of text)
      unfolding read rest
      whole = rw (next-lines text at line ht ha hl) at g.goes

      pub going_on : reason ≡ 0 → Going (next m (line_at text at (line + 1)) outcome) at' line'
      unfolding rest
      going_on z = record { goes = sym (goes_on-law m (line_at text at (line + 1)) rest outcome t.fair (sym t.its-reason ∙ z)) ∙ whole }

      pub going-stops : (reason ≡ 0 → ⊥)
          → (p : Piece Line) × (strict 𝓡 h begin (lines_of text) ≡ stopped reason p (next m (line_at text at (line + 1)) outcome).recs) × (piece_no p ≡ piece)
      going-stops z =
          let s = stops m (line_at text at (line + 1)) rest outcome (λ x. z (t.its-reason ∙ x)) in (
            s.0,
            sym whole ∙ s.1 ∙ ap (λ n. stopped n s.0 (next m (line_at text at (line + 1)) outcome).recs) (sym t.its-reason),
            s.2 ∙ sym t.its-piece,
          )

    pub going-ends : length text ≤ at → strict 𝓡 h begin (lines_of text) ≡ ending 𝓡 h m
    unfolding read number chunks
    going-ends e = sym (rw (drop_of_length-le text e) at g.goes)

  -- ---- the survey's loop: where it stands after the lines done, and their marks so far

  abbrev pub here : List Line → Standing S Line R
  here done = after 𝓡 h begin done

  abbrev pub marks_so_far : List Line → List Mark
  marks_so_far done = marks 𝓡 h unclosed begin done

  -- it stands at m, at a place and after a number of lines; the tables c and r have room nc and nr
  pub record Swept (m : Standing S Line R) (nc nr : ℕ) (c r : List ℕ) (at line : ℕ) : Type 0 where
    pub done : List Line
    pub stands : m ≡ here done
    pub whole : lines_of text ≡ done ++ lines_from text at (line + 1)
    pub many : length (marks_so_far done) ≡ line
    pub opened : Opened m.group (marks_so_far done)
    pub classes : c ≡ marks_in code_of nc (marks_so_far done)
    pub reasons : r ≡ marks_in reason_in nr (marks_so_far done)

  no-marks : (g : Mark → ℕ) (n : ℕ) → replicate n 0 ≡ marks_in g n []
  unfolding marks_in
  no-marks g n = ap (λ i. replicate i 0) (sym (sub-zero n))

  pub swept-start : {nc nr : ℕ} {c r : List ℕ} → c ≡ replicate nc 0 → r ≡ replicate nr 0 → Swept begin nc nr c r 0 0
  unfolding after marks lines_of
  swept-start {nc} {nr} zc zr = record {
    done = [];
    stands = refl;
    whole = refl;
    many = refl;
    opened = opened[] shut[];
    classes = zc ∙ no-marks code_of nc;
    reasons = zr ∙ no-marks reason_in nr;
  }

  -- the marks so far, filled in with nothing new, are the same
  same-marks : (done : List Line) → refill false unclosed (marks_so_far done) ≡ marks_so_far done
  unfolding waits
  same-marks done = sym (refill-marks 𝓡 h unclosed done begin)

  same_class : {c c' : List ℕ} {k k' p p' i i' x x' : ℕ} → c ≡ c' → k ≡ k' → p ≡ p' → i ≡ i' → x ≡ x'
      → set (cond (eqb k 0) c (refilled c (p - 1) i k)) i x ≡ set (cond (eqb k' 0) c' (refilled c' (p' - 1) i' k')) i' x'
  same_class {c' = c'} {k' = k'} {p = p} {p' = p'} {i = i} {i' = i'} {x = x} ec ek ep ei ex =
      ap₂ (λ (y : List ℕ) (j : ℕ). set (cond (eqb j 0) y (refilled y (p - 1) i j)) i x) ec ek
      ∙ ap₂ (λ (y j : ℕ). set (cond (eqb k' 0) c' (refilled c' (y - 1) j k')) j x) ep ei
      ∙ ap (set (cond (eqb k' 0) c' (refilled c' (p' - 1) i' k')) i') ex

  same-reason : {c c' : List ℕ} {k k' p p' : ℕ} → c ≡ c' → k ≡ k' → p ≡ p'
      → cond (eqb k 0) c (set c (p - 1) k) ≡ cond (eqb k' 0) c' (set c' (p' - 1) k')
  same-reason {c' = c'} {k' = k'} {p = p} ec ek ep =
      ap₂ (λ (y : List ℕ) (j : ℕ). cond (eqb j 0) y (set y (p - 1) j)) ec ek ∙ ap (λ j. cond (eqb k' 0) c' (set c' (j - 1) k')) ep

  module _ {m : Standing S Line R} {nc nr : ℕ} {c r : List ℕ} {at line : ℕ} (q : Swept m nc nr c r at line) where
    abbrev l : Line
    l = line_at text at (line + 1)

    abbrev o : Outcome S R
    o = step 𝓡 h m l

    piece-some : (closed_by o ≡ 0 → ⊥) → 0 < piece_by m l o
    piece-some z = has-piece 𝓡 h m l q.opened z

    no-is : line + 1 ≡ suc (length (marks_so_far q.done))
    no-is = omega (arith, q.many)

    next_here : here (q.done ++ (l ∷ [])) ≡ next m l o
    unfolding after
    next_here = after-append 𝓡 h q.done (l ∷ []) begin ∙ ap (λ x. next x l (step 𝓡 h x l)) (sym q.stands)

    next_marks-law : marks_so_far (q.done ++ (l ∷ [])) ≡ next_marks m.sec m.recs l 0 m.group o (marks_so_far q.done)
    next_marks-law =
        subst (λ (x : Standing S Line R).
        marks_so_far (q.done ++ (l ∷ [])) ≡ next_marks x.sec x.recs l 0 x.group (step 𝓡 h x l) (marks_so_far q.done)) (sym q.stands)
        (marks-next 𝓡 h s₀ r₀ q.done l)

    module _ {class closed reason piece : ℕ} (t : Tells m l o class closed reason piece) where
      -- what the code that marks asks
      pub class-asks : (closed ≡ 0 → ⊥) → (0 < piece) × (piece ≤ line)
      class-asks z =
          let nz : closed_by o ≡ 0 → ⊥ = λ e. z (t.its-closed ∙ e) in
          (omega (arith, t.its-piece, piece-some nz), omega (arith, t.its-piece, q.many, piece-le m.sec m.recs l 0 o q.opened nz))

      pub reason-asks : (reason ≡ 0 → ⊥) → (0 < piece) × (piece ≤ line + 1)
      reason-asks z =
          let p = reason-piece m.sec m.recs l 0 o q.opened no-is piece-some (λ e. z (t.its-reason ∙ e)) in
          (omega (arith, t.its-piece, p.0), omega (arith, t.its-piece, p.1, q.many))

      pub swept-on : {c' r' : List ℕ} {at' line' : ℕ} → at < length text → at' ≡ at + length (body_at text at) → line' ≡ line + 1 → line < nc → line < nr
          → c' ≡ set (cond (eqb closed 0) c (refilled c (piece - 1) line closed)) line class
          → r' ≡ cond (eqb reason 0) r (set r (piece - 1) reason)
          → Swept (next m l o) nc nr c' r' at' line'
      swept-on {at' = at'} {line' = line'} ht ha hl hc hr ec er = record {
        done = q.done ++ (l ∷ []);
        whole = q.whole ∙ ap (λ x. q.done ++ x) (next-lines text at line ht ha hl) ∙ sym (append_assoc q.done (l ∷ []) (lines_from text at' (line' + 1)));
        many = omega (arith, length-marks 𝓡 h unclosed begin (q.done ++ (l ∷ [])), length-marks 𝓡 h unclosed begin q.done, length-append q.done (l ∷ []), q.many);
        stands = sym next_here;
        opened = subst (Opened (next m l o).group) (sym next_marks-law) (opened-next m.sec m.recs l o q.opened (same-marks q.done) no-is);
        classes = ec ∙ same_class q.classes t.its-closed t.its-piece (sym q.many) t.its-class
            ∙ class-turn m.sec m.recs l nc o q.opened (same-marks q.done) piece-some (omega (arith, q.many))
            ∙ ap (marks_in code_of nc) (sym next_marks-law);
        reasons = er ∙ same-reason q.reasons t.its-reason t.its-piece
            ∙ reason-turn m.sec m.recs l nr o q.opened (same-marks q.done) no-is t.fair piece-some (omega (arith, q.many))
            ∙ ap (marks_in reason_in nr) (sym next_marks-law);
      }

    -- ---- the end

    module _ (e : length text ≤ at) where
      pub all_done : q.done ≡ lines_of text
      unfolding number chunks
      all_done = sym (q.whole ∙ rw (drop_of_length-le text e) (append-nil q.done))

      pub lines_are : line ≡ length (lines_of text)
      lines_are = sym q.many ∙ length-marks 𝓡 h unclosed begin q.done ∙ ap length all_done

-- where the end of the text closes nothing: the tables hold the survey's marks
module _ {S R : Type 0} (𝓡 : Reader S Line R) (s₀ : S) (r₀ : R) (text : List ℕ) {m : Standing S Line R} {nc nr : ℕ} {c r : List ℕ}
    {at line : ℕ} (q : Swept 𝓡 false s₀ r₀ text m nc nr c r at line) (e : length text ≤ at) where
  abbrev pub surveyed : List Mark
  surveyed = survey_marks 𝓡 false (standing s₀ [] r₀) (lines_of text)

  marks-are : marks 𝓡 false unclosed (standing s₀ [] r₀) q.done ≡ surveyed
  unfolding survey_marks end_fate
  marks-are = ap (marks 𝓡 false unclosed (standing s₀ [] r₀)) (all_done 𝓡 false s₀ r₀ text q e)

  pub recs-are : 𝓡.finish m.recs ≡ survey_recs 𝓡 false (standing s₀ [] r₀) (lines_of text)
  unfolding survey_recs end_verdict settle
  recs-are =
      ap (λ (x : Standing S Line R). 𝓡.finish x.recs) (q.stands ∙ ap (after 𝓡 false (standing s₀ [] r₀)) (all_done 𝓡 false s₀ r₀ text q e))

  pub classes-are : c ≡ marks_in code_of nc surveyed
  classes-are = q.classes ∙ ap (marks_in code_of nc) marks-are

  pub reasons-are : r ≡ marks_in reason_in nr surveyed
  reasons-are = q.reasons ∙ ap (marks_in reason_in nr) marks-are

  pub counts-are : (k : ℕ) → count_in k (take line c) ≡ count k surveyed
  counts-are k =
      ap (count_in k) (ap (take line) q.classes ∙ take-codes nc (marks 𝓡 false unclosed (standing s₀ [] r₀) q.done) line (sym q.many) ∙ ap (map code_of) marks-are)
      ∙ count-codes k surveyed
