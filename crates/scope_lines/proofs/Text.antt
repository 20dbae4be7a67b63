-- Demand 3 for texts: striking whole lines of a text, and the numbers that lines then have. Assumes nothing.
use mathlib.Core.Path.{◌≡◌, refl, ap, sym, ◌∙◌, subst}
use mathlib.Core.Bool.{Bool, true, false, cond}
use mathlib.Core.List.{List, [], ◌∷◌, ◌++◌, append_assoc}
use Prim.Native.Nat.{ℕ, zero, suc, ◌+◌}
use native.Mathlib.Nat.{zero-add}
use native.Mathlib.Omega.{arith}
use lib.ListN.{length, take, drop, length-append}
use lib.Seq.{take_at, drop_at}
use mathlib.Core.Logic.{◌↔◌}
use Rattle.leaf_scans.specs.Lines.{chunks, joined}
use Rattle.leaf_scans.proofs.LineLaws.{joined-chunks}
use Rattle.scope_lines.specs.Reader.{Reader, standing, Mark, marked, unclosed, Reply, accepted, stopped, refused, struck, strike_by, strict, strict_to}
use Rattle.scope_lines.specs.Reader.{after, rule_refused, survey_marks, survey_recs, marks, strike, Piece, a_line, a_group}
use Rattle.scope_lines.specs.Text.{Line, number, lines_of, strike_text, renumber, SameBody, Moved, piece_no, up_to, Each, nothing, each}
use Rattle.scope_lines.specs.Demand3.{mark_of, Opens, up_to_struck, TextGroupStop, text_line, text_end}
use Rattle.scope_lines.proofs.Stops.{GroupStop, at_line, at_end, Stop, is_line}
use Rattle.scope_lines.specs.Alike.{All2, nil, cons, ReplyLike, PieceLike, lines, groups, Alike}
use Rattle.scope_lines.proofs.Cut.{Lines, none, unended, ended, lines-chunks, chunks-joined, lines-take}
use Rattle.scope_lines.proofs.Alike.{stops-left, stops-right, accepts-right, alike-finer, StandingLike, strict-like, strict_to-like}
use Rattle.scope_lines.proofs.Strike.{strike-accepts}
use Rattle.scope_lines.proofs.Pieces.{refused-line, every-stop, length-marks, refused-group, line-mark, end_mark}

strike-nil : {X : Type 0} (ms : List Mark) → strike_by {X = X} ms [] ≡ []
unfolding strike_by
strike-nil [] = refl
strike-nil (m ∷ ms) = refl

lines-strike : (ms : List Mark) {cs : List (List ℕ)} → Lines cs → Lines (strike_by ms cs)
unfolding strike_by
lines-strike [] ls = ls
lines-strike (m ∷ ms) none = none
lines-strike (m ∷ ms) (unended {c} p) = go (struck m.class)
  where
    go : (q : Bool) → Lines (cond q (strike_by ms []) (c ∷ strike_by ms []))
    go true = rw strike-nil none
    go false = rw strike-nil (unended p)
lines-strike (m ∷ ms) (ended {c} {cs} f ls) = go (struck m.class) (lines-strike ms ls)
  where
    go : (q : Bool) → Lines (strike_by ms cs) → Lines (cond q (strike_by ms cs) (c ∷ strike_by ms cs))
    go true t = t
    go false t = ended f t

-- the lines of the struck text are the text's lines, without the struck ones
pub chunks-strike : (ms : List Mark) (t : List ℕ) → chunks (strike_text ms t) ≡ strike_by ms (chunks t)
unfolding strike_text
chunks-strike ms t = chunks-joined (lines-strike ms (lines-chunks t))

-- ---- numbers and places

pub moved_same : (ρ : ℕ → ℕ) (l k : Line) → Moved ρ l k → SameBody l k
moved_same ρ l k p = p.0

pub renumber-nil : (j : ℕ) → renumber [] j ≡ j
unfolding renumber
renumber-nil zero = refl
renumber-nil (suc j) = refl

one_on : (ρ : ℕ → ℕ) (i j x : ℕ) → ρ (i + suc j) ≡ x → ρ (suc i + j) ≡ x
one_on ρ i j x e = let z : suc i + j ≡ i + suc j = omega arith in ap ρ z ∙ e

at_once : (ρ : ℕ → ℕ) (i x : ℕ) → ρ (suc i + 0) ≡ x → x ≡ ρ (suc i)
at_once ρ i x e = let z : suc i ≡ suc i + 0 = omega arith in sym (ap ρ z ∙ e)

number-moved : (ρ : ℕ → ℕ) (i k p p' : ℕ) (cs : List (List ℕ)) → ((j : ℕ) → ρ (i + j) ≡ k + j)
    → All2 (Moved ρ) (number (suc i) p cs) (number (suc k) p' cs)
unfolding number
number-moved ρ i k p p' [] e = nil
number-moved ρ i k p p' (c ∷ cs) e =
    let f : (j : ℕ) → ρ (suc i + j) ≡ suc k + j =
    λ j. one_on ρ i j (suc k + j) (let z : k + suc j ≡ suc k + j = omega arith in e (suc j) ∙ z) in
    let z : suc k + 0 ≡ suc k = omega arith in
    cons (refl, at_once ρ i (suc k) (f 0 ∙ z)) (number-moved ρ (suc i) (suc k) (p + length c) (p' + length c) cs f)

number-strike : (ρ : ℕ → ℕ) (ms : List Mark) (i k p p' : ℕ) (cs : List (List ℕ)) → ((j : ℕ) → ρ (i + j) ≡ k + renumber ms j)
    → All2 (Moved ρ) (strike_by ms (number (suc i) p cs)) (number (suc k) p' (strike_by ms cs))
unfolding number strike_by renumber
number-strike ρ [] i k p p' cs e = number-moved ρ i k p p' cs (λ j. e j ∙ ap (λ x. k + x) (renumber-nil j))
number-strike ρ (m ∷ ms) i k p p' [] e = nil
number-strike ρ (m ∷ ms) i k p p' (c ∷ cs) e =
    go (struck m.class) (λ k' q f. number-strike ρ ms (suc i) k' (p + length c) q cs f) (λ j. one_on ρ i j _ (e (suc j)))
  where
    rest : List Line
    rest = strike_by ms (number (suc (suc i)) (p + length c) cs)

    go : (q : Bool)
        → ((k' p₁ : ℕ) → ((j : ℕ) → ρ (suc i + j) ≡ k' + renumber ms j) → All2 (Moved ρ) rest (number (suc k') p₁ (strike_by ms cs)))
        → ((j : ℕ) → ρ (suc i + j) ≡ k + (cond q 0 1 + renumber ms j))
        → All2 (Moved ρ) (cond q rest (record { no = suc i; start = p; body = c } ∷ rest))
        (number (suc k) p' (cond q (strike_by ms cs) (c ∷ strike_by ms cs)))
    go true ih f = ih k p' (λ j. let z : k + (0 + renumber ms j) ≡ k + renumber ms j = omega arith in f j ∙ z)
    go false ih f =
        let z : k + (1 + 0) ≡ suc k = omega arith in
        cons (refl, at_once ρ i (suc k) (f 0 ∙ z))
        (ih (suc k) (p' + length c) (λ j. let w : k + (1 + renumber ms j) ≡ suc k + renumber ms j = omega arith in f j ∙ w))

-- the lines of the struck text, beside the struck list of the text's lines: the same bytes, and the numbers as told
pub lines-strike_text : (ms : List Mark) (t : List ℕ)
    → All2 (Moved (renumber ms)) (strike_by ms (lines_of t)) (lines_of (strike_text ms t))
unfolding lines_of
lines-strike_text ms t =
    rw chunks-strike
    (number-strike (renumber ms) ms 0 0 0 0 (chunks t)
    (λ j. ap (renumber ms) (zero-add j) ∙ sym (zero-add (renumber ms j))))

-- a line's bytes stand in the text at its place: so a name, cut from a line, is a place of the text
number-placed : (t : List ℕ) (n : ℕ) (u : List ℕ) (cs : List (List ℕ)) → u ++ joined cs ≡ t
    → Each (λ (l : Line). take (length l.body) (drop l.start t) ≡ l.body) (number n (length u) cs)
unfolding number joined
number-placed t n u [] e = nothing
number-placed t n u (c ∷ cs) e =
    let w : take (length c) (drop (length u) t) ≡ c =
    ap (λ x. take (length c) (drop (length u) x)) (sym e)
    ∙ ap (take (length c)) (drop_at u (c ++ joined cs) (length u) refl)
    ∙ take_at c (joined cs) (length c) refl in
    each w (rw length-append at (number-placed t (suc n) (u ++ c) cs (append_assoc u c (joined cs) ∙ e)))

pub lines-placed : (t : List ℕ) → Each (λ (l : Line). take (length l.body) (drop l.start t) ≡ l.body) (lines_of t)
unfolding lines_of
lines-placed t = number-placed t 1 [] (chunks t) (joined-chunks t)

pub piece_no-moved : (ms : List Mark) {p k : Piece Line} → PieceLike (Moved (renumber ms)) p k → piece_no k ≡ renumber ms (piece_no p)
unfolding piece_no renumber
piece_no-moved ms (lines m) = m.1
piece_no-moved ms (groups nil) = refl
piece_no-moved ms (groups (cons m t)) = m.1

-- ---- a text up to a line

number-take : (k n p : ℕ) (cs : List (List ℕ)) → number n p (take k cs) ≡ take k (number n p cs)
unfolding number
number-take zero n p cs = refl
number-take (suc k) n p [] = refl
number-take (suc k) n p (c ∷ cs) = ap (record { no = n; start = p; body = c } ∷◌) (number-take k (suc n) (p + length c) cs)

pub lines_of-up_to : (k : ℕ) (t : List ℕ) → lines_of (up_to k t) ≡ take k (lines_of t)
unfolding lines_of up_to
lines_of-up_to k t = ap (number 1 0) (chunks-joined (lines-take k (lines-chunks t))) ∙ number-take k 1 0 (chunks t)

take_split : {X : Type 0} (pre : List X) (l : X) (post : List X) → take (suc (length pre)) (pre ++ l ∷ post) ≡ pre ++ (l ∷ [])
take_split [] l post = refl
take_split (x ∷ pre) l post = ap (x ∷◌) (take_split pre l post)

-- marks of the first lines strike nothing of the rest
strike-part : {X : Type 0} (ms : List Mark) (pre rest : List X) → length ms ≡ length pre → strike_by ms (pre ++ rest) ≡ strike_by ms pre ++ rest
unfolding strike_by
strike-part [] [] rest e = refl
strike-part [] (x ∷ pre) rest e = absurd (omega arith)
strike-part (m ∷ ms) [] rest e = absurd (omega arith)
strike-part (m ∷ ms) (x ∷ pre) rest e = go (struck m.class) (strike-part ms pre rest (omega arith))
  where
    go : (q : Bool) → strike_by ms (pre ++ rest) ≡ strike_by ms pre ++ rest
        → cond q (strike_by ms (pre ++ rest)) (x ∷ strike_by ms (pre ++ rest)) ≡ cond q (strike_by ms pre) (x ∷ strike_by ms pre) ++ rest
    go true t = t
    go false t = ap (x ∷◌) t

-- ---- for any reader of lines whose records come out alike where lines differ in number and place only

module _ {S R : Type 0} (𝓡 : Reader S Line R) (◌≈◌ : R → R → Type 0) (ℓ : Alike 𝓡 𝓡 SameBody ◌≈◌) where
  finer : (ρ : ℕ → ℕ) → Alike 𝓡 𝓡 (Moved ρ) ◌≈◌
  finer ρ = alike-finer (moved_same ρ) ℓ

  start-like : (ρ : ℕ → ℕ) (s : S) (r : R) → ◌≈◌ r r → StandingLike 𝓡 𝓡 (Moved ρ) ◌≈◌ (finer ρ) (standing s [] r) (standing s [] r)
  start-like ρ s r e = record { secs = refl; group_like = nil; recs_like = e }

  -- strict reading of a struck text goes as that of the struck lines, and stops at the line with the new number
  pub strict-struck : (h : Bool) (s : S) (r : R) → ◌≈◌ r r → (ms : List Mark) (t : List ℕ)
      → ReplyLike (Moved (renumber ms)) ◌≈◌ (strict 𝓡 h (standing s [] r) (strike_by ms (lines_of t))) (strict 𝓡 h (standing s [] r) (lines_of (strike_text ms t)))
  strict-struck h s r e ms t =
      strict-like 𝓡 𝓡 (Moved (renumber ms)) ◌≈◌ (finer (renumber ms)) h (standing s [] r) (standing s [] r) (lines-strike_text ms t) (start-like (renumber ms) s r e)

  pub strict_to-struck : (h : Bool) (s : S) (r : R) → ◌≈◌ r r → (ms : List Mark) (t : List ℕ)
      → ReplyLike (Moved (renumber ms)) ◌≈◌ (strict_to 𝓡 h (standing s [] r) (strike_by ms (lines_of t))) (strict_to 𝓡 h (standing s [] r) (lines_of (strike_text ms t)))
  strict_to-struck h s r e ms t =
      strict_to-like 𝓡 𝓡 (Moved (renumber ms)) ◌≈◌ (finer (renumber ms)) h (standing s [] r) (standing s [] r) (lines-strike_text ms t) (start-like (renumber ms) s r e)

  -- the struck text is accepted, with records like the survey's
  pub strike-text : (h : Bool) (s : S) (r : R) → ◌≈◌ r r → (t : List ℕ)
      → (q : R)
      × (strict 𝓡 h (standing s [] r) (lines_of (strike_text (survey_marks 𝓡 h (standing s [] r) (lines_of t)) t)) ≡ accepted q)
      × ◌≈◌ (survey_recs 𝓡 h (standing s [] r) (lines_of t)) q
  strike-text h s r e t =
      let ms : List Mark = survey_marks 𝓡 h (standing s [] r) (lines_of t) in
      accepts-right (rw (strike-accepts 𝓡 h s r (lines_of t)) at (strict-struck h s r e ms t))

  -- strict reading of it goes as that of the struck lines and l
  pub strict_to-up_to : (h : Bool) (s : S) (r : R) → ◌≈◌ r r → (t : List ℕ) (pre : List Line) (l : Line) (post : List Line) → lines_of t ≡ pre ++ l ∷ post
      → ReplyLike (Moved (renumber (marks 𝓡 h unclosed (standing s [] r) pre))) ◌≈◌
      (strict_to 𝓡 h (standing s [] r) (strike 𝓡 h unclosed (standing s [] r) pre ++ (l ∷ [])))
      (strict_to 𝓡 h (standing s [] r) (lines_of (up_to_struck 𝓡 h s r t pre)))
  unfolding up_to_struck strike
  strict_to-up_to h s r e t pre l post d =
      let ms : List Mark = marks 𝓡 h unclosed (standing s [] r) pre in
      let w : lines_of (up_to (suc (length pre)) t) ≡ pre ++ (l ∷ []) =
      lines_of-up_to (suc (length pre)) t ∙ ap (take (suc (length pre))) d ∙ take_split pre l post in
      subst (λ x. ReplyLike (Moved (renumber ms)) ◌≈◌ (strict_to 𝓡 h (standing s [] r) x) (strict_to 𝓡 h (standing s [] r) (lines_of (strike_text ms (up_to (suc (length pre)) t)))))
      (ap (strike_by ms) w ∙ strike-part ms pre (l ∷ []) (length-marks 𝓡 h unclosed (standing s [] r) pre))
      (strict_to-struck h s r e ms (up_to (suc (length pre)) t))

  -- the survey refuses line l for n exactly where strict reading of the text up to it, earlier
  -- refusals struck, stops at it for n
  pub text-refused-line : (h : Bool) (s : S) (r : R) → ◌≈◌ r r → (t : List ℕ) (pre : List Line) (l : Line) (post : List Line) (n : ℕ)
      → lines_of t ≡ pre ++ l ∷ post
      → (mark_of 𝓡 h (standing s [] r) pre l post ≡ marked refused n)
      ↔ ((l' : Line) × (q : R)
      × (strict_to 𝓡 h (standing s [] r) (lines_of (up_to_struck 𝓡 h s r t pre)) ≡ stopped n (a_line l') q)
      × Moved (renumber (marks 𝓡 h unclosed (standing s [] r) pre)) l l')
  text-refused-line h s r e t pre l post n d =
      let k = strict_to-up_to h s r e t pre l post d in (
        (λ m. there (stops-right (rw ((refused-line 𝓡 h s r pre l post n).0 m) at k))),
        λ (l', q, w, m). here l' (stops-left (rw w at k)),
      )
    where
      ρ : ℕ → ℕ
      ρ = renumber (marks 𝓡 h unclosed (standing s [] r) pre)

      a : Reply Line R
      a = strict_to 𝓡 h (standing s [] r) (strike 𝓡 h unclosed (standing s [] r) pre ++ (l ∷ []))

      b : Reply Line R
      b = strict_to 𝓡 h (standing s [] r) (lines_of (up_to_struck 𝓡 h s r t pre))

      there : ((p : Piece Line) × (q : R) × (b ≡ stopped n p q) × PieceLike (Moved ρ) (a_line l) p)
          → (l' : Line) × (q : R) × (b ≡ stopped n (a_line l') q) × Moved ρ l l'
      there (p, q, w, lines {b = l'} m) = (l', q, w, m)

      at-line : (l₁ : Line) → Stop 𝓡 h (standing s [] r) pre l n (a_line l₁) → mark_of 𝓡 h (standing s [] r) pre l post ≡ marked refused n
      at-line l₁ (is_line f) = f post

      here : (l' : Line) → ((p : Piece Line) × (q : R) × (a ≡ stopped n p q) × PieceLike (Moved ρ) p (a_line l'))
          → mark_of 𝓡 h (standing s [] r) pre l post ≡ marked refused n
      here l' (p, q, w, lines {a = l₁} m) = at-line l₁ (every-stop 𝓡 h s r pre l n (a_line l₁) q w)

  module _ (h : Bool) (s : S) (r : R) (e : ◌≈◌ r r) (t : List ℕ) (pre : List Line) (a : Line) (post : List Line) (n : ℕ)
      (d : lines_of t ≡ pre ++ a ∷ post) where
    -- the two readings, up to c and of all the text
    up-to : (mid : List Line) (c : Line) (post' : List Line) → post ≡ mid ++ c ∷ post'
        → ReplyLike (Moved (renumber (marks 𝓡 h unclosed (standing s [] r) (pre ++ a ∷ mid)))) ◌≈◌
        (strict_to 𝓡 h (standing s [] r) (strike 𝓡 h unclosed (standing s [] r) (pre ++ a ∷ mid) ++ (c ∷ [])))
        (strict_to 𝓡 h (standing s [] r) (lines_of (up_to_struck 𝓡 h s r t (pre ++ a ∷ mid))))
    up-to mid c post' w =
        strict_to-up_to h s r e t (pre ++ a ∷ mid) c post'
        (d ∙ ap (λ x. pre ++ a ∷ x) w ∙ sym (append_assoc pre (a ∷ mid) (c ∷ post')))

    whole : ReplyLike (Moved (renumber (marks 𝓡 h unclosed (standing s [] r) (lines_of t)))) ◌≈◌
        (strict 𝓡 h (standing s [] r) (strike 𝓡 h unclosed (standing s [] r) (pre ++ a ∷ post)))
        (strict 𝓡 h (standing s [] r) (lines_of (strike_text (marks 𝓡 h unclosed (standing s [] r) (lines_of t)) t)))
    unfolding strike
    whole =
        subst (λ x. ReplyLike (Moved (renumber (marks 𝓡 h unclosed (standing s [] r) (lines_of t)))) ◌≈◌
        (strict 𝓡 h (standing s [] r) (strike 𝓡 h unclosed (standing s [] r) x))
        (strict 𝓡 h (standing s [] r) (lines_of (strike_text (marks 𝓡 h unclosed (standing s [] r) (lines_of t)) t)))) d
        (strict-struck h s r e (marks 𝓡 h unclosed (standing s [] r) (lines_of t)) t)

    -- a piece like a group that a opens
    first_of : {X : Type 0} (ρ : ℕ → ℕ) (g : List Line) {b : Reply Line R}
        → ((p : Piece Line) × (q : R) × (b ≡ stopped n p q) × PieceLike (Moved ρ) (a_group (a ∷ g)) p)
        → ((a' : Line) (g' : List Line) (q : R) → b ≡ stopped n (a_group (a' ∷ g')) q → Moved ρ a a' → X) → X
    first_of ρ g (p, q, z, groups (cons {b = a'} {k = g'} m ms)) f = f a' g' q z m

    a-group : {X : Type 0} (ρ : ℕ → ℕ) (g' : List Line) {b : Reply Line R}
        → ((p : Piece Line) × (q : R) × (b ≡ stopped n p q) × PieceLike (Moved ρ) p (a_group g'))
        → ((g : List Line) (q : R) → b ≡ stopped n (a_group g) q → X) → X
    a-group ρ g' (p, q, z, groups {g = g} ms) f = f g q z

    there : GroupStop 𝓡 h (standing s [] r) pre a post n → TextGroupStop 𝓡 h s r t pre a post n
    there (at_line mid c post' g w k q) =
        first_of _ g (stops-right (rw q at (up-to mid c post' w))) (λ a' g' q' z m. text_line mid c post' a' g' q' w k z m)
    there (at_end g k q) = first_of _ g (stops-right (rw q at whole)) (λ a' g' q' z m. text_end a' g' q' k z m)

    here : Opens 𝓡 h (after 𝓡 h (standing s [] r) pre) a → TextGroupStop 𝓡 h s r t pre a post n
        → mark_of 𝓡 h (standing s [] r) pre a post ≡ marked rule_refused n
    here o (text_line mid c post' a' g q w k z m) =
        subst (λ x. mark_of 𝓡 h (standing s [] r) pre a x ≡ marked rule_refused n) (sym w)
        (a-group _ (a' ∷ g) (stops-left (rw z at (up-to mid c post' w)))
        (λ g₁ q₁ z₁. line-mark 𝓡 h s r pre a n mid c post' g₁ q₁ o k z₁))
    here o (text_end a' g q k z m) =
        a-group _ (a' ∷ g) (stops-left (rw z at whole)) (λ g₁ q₁ z₁. end_mark 𝓡 h s r pre a n post (a_group g₁) q₁ o k z₁)

    pub text-refused-group : Opens 𝓡 h (after 𝓡 h (standing s [] r) pre) a
        → (mark_of 𝓡 h (standing s [] r) pre a post ≡ marked rule_refused n) ↔ TextGroupStop 𝓡 h s r t pre a post n
    text-refused-group o = ((λ m. there ((refused-group 𝓡 h s r pre a post n o).0 m)), here o)
