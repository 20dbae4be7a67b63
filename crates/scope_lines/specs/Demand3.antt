-- The words of demand 3: where a piece stands in a text, and what it is for strict reading to stop at it. The theorems stand in
-- proofs/Demand3.antt. Assumes nothing.
use Rattle.std.specs.Prelude.{◌≡◌, Bool, false, List, [], ◌∷◌, ◌++◌, ℕ, suc, length, get_or}
use Rattle.scope_lines.specs.Reader.{Reader, Standing, standing, Mark, marked, blank, a_group, stopped, unclosed, itself, last, fresh, Outcome, still}
use Rattle.scope_lines.specs.Reader.{filed, joins, closes, step, strict, strict_to, after, fate, marks, survey_marks}
use Rattle.scope_lines.specs.Text.{Line, lines_of, strike_text, renumber, up_to, Moved}

-- is the line the first of a group?
abbrev pub OpensBy : {S A R : Type 0} → Outcome S R → List A → Type 0
OpensBy (still c s) g = ⊥
OpensBy (filed v) g = ⊥
OpensBy joins [] = Unit {0}
OpensBy joins (x ∷ g) = ⊥
OpensBy (closes v (itself c s)) g = ⊥
OpensBy (closes v last) g = ⊥
OpensBy (closes v fresh) g = Unit {0}

-- does the line close a group?
abbrev pub ClosesBy : {S R : Type 0} → Outcome S R → Type 0
ClosesBy (still c s) = ⊥
ClosesBy (filed v) = ⊥
ClosesBy joins = ⊥
ClosesBy (closes v own) = Unit {0}

module _ {S A R : Type 0} (𝓡 : Reader S A R) where
  -- the mark of `l` in the survey of pre ++ l ∷ post
  unfoldable pub mark_of : Bool → Standing S A R → List A → A → List A → Mark
  mark_of h st pre l post = get_or (survey_marks 𝓡 h st (pre ++ l ∷ post)) (length pre) (marked blank 0)

  abbrev pub Opens : Bool → Standing S A R → A → Type 0
  Opens h st a = OpensBy (step 𝓡 h st a) st.group

  -- "A group ends at the line that closes it; lines of other sections may stand between": after the lines pre, a opens a group; none
  -- of the lines mid closes it; c does
  pub record EndsAt (h : Bool) (st : Standing S A R) (pre : List A) (a : A) (mid : List A) (c : A) : Type 0 where
    pub opens : Opens h (after 𝓡 h st pre) a
    pub waits : fate 𝓡 h unclosed (after 𝓡 h (after 𝓡 h st pre) (a ∷ [])) mid ≡ unclosed
    pub ends : ClosesBy (step 𝓡 h (after 𝓡 h st (pre ++ a ∷ mid)) c)

module _ {S R : Type 0} (𝓡 : Reader S Line R) where
  -- the text up to line l, earlier refusals struck
  unfoldable pub up_to_struck : Bool → S → R → List ℕ → List Line → List ℕ
  up_to_struck h s r t pre = strike_text (marks 𝓡 h unclosed (standing s [] r) pre) (up_to (suc (length pre)) t)

  -- for a group that `a` opens: strict reading stops at it where c closes it, or where the text ends, and says
  -- the new number of its first line
  pub data TextGroupStop (h : Bool) (s : S) (r : R) (t : List ℕ) (pre : List Line) (a : Line) (post : List Line) (n : ℕ) : Type 0 where
    text_line : (mid : List Line) (c : Line) (post' : List Line) (a' : Line) (g : List Line) (q : R)
        → post ≡ mid ++ c ∷ post'
        → fate 𝓡 h unclosed (after 𝓡 h (after 𝓡 h (standing s [] r) pre) (a ∷ [])) mid ≡ unclosed
        → strict_to 𝓡 h (standing s [] r) (lines_of (up_to_struck h s r t (pre ++ a ∷ mid))) ≡ stopped n (a_group (a' ∷ g)) q
        → Moved (renumber (marks 𝓡 h unclosed (standing s [] r) (pre ++ a ∷ mid))) a a' → TextGroupStop h s r t pre a post n
    text_end : (a' : Line) (g : List Line) (q : R)
        → fate 𝓡 h unclosed (after 𝓡 h (after 𝓡 h (standing s [] r) pre) (a ∷ [])) post ≡ unclosed
        → strict 𝓡 h (standing s [] r) (lines_of (strike_text (marks 𝓡 h unclosed (standing s [] r) (lines_of t)) t)) ≡ stopped n (a_group (a' ∷ g)) q
        → Moved (renumber (marks 𝓡 h unclosed (standing s [] r) (lines_of t))) a a' → TextGroupStop h s r t pre a post n

  -- plain reading of the text up to the line that closes the group, earlier refusals struck, stops for n at the group that a opens
  pub record PlainGroupStop (s : S) (r : R) (t : List ℕ) (pre : List Line) (a : Line) (post : List Line) (n : ℕ) : Type 0 where
    pub mid : List Line
    pub closer : Line
    pub rest : List Line
    pub first : Line
    pub others : List Line
    pub recs : R
    pub splits : post ≡ mid ++ closer ∷ rest
    pub waits : fate 𝓡 false unclosed (after 𝓡 false (after 𝓡 false (standing s [] r) pre) (a ∷ [])) mid ≡ unclosed
    pub stops : strict 𝓡 false (standing s [] r) (lines_of (up_to_struck false s r t (pre ++ a ∷ mid))) ≡ stopped n (a_group (first ∷ others)) recs
    pub moved : Moved (renumber (marks 𝓡 false unclosed (standing s [] r) (pre ++ a ∷ mid))) a first
