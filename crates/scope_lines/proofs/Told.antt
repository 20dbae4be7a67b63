-- Strict reading of the beginning of a text, earlier refusals struck, tells where it stops by the number of a line alone: that number is of no other piece. Assumes nothing.
use mathlib.Core.Path.{◌≡◌, refl, ap, sym, ◌∙◌, subst}
use mathlib.Core.Bool.{Bool, false}
use mathlib.Core.List.{List, [], ◌∷◌, ◌++◌, append_assoc, nil≢cons, head-eq_of_cons-eq}
use Prim.Native.Nat.{ℕ, zero, suc, ◌+◌, ◌≤◌, ◌<◌}
use native.Mathlib.Omega.{arith}
use lib.ListN.{length, get_or, length-append}
use Rattle.leaf_scans.specs.Lines.{chunks}
use Rattle.scope_lines.specs.Reader.{Reader, Verdict, good, bad, Standing, standing, Mark, marked, blank, refused, rule_refused, Piece, a_line, a_group}
use Rattle.scope_lines.specs.Reader.{Reply, accepted, stopped, Fate, unclosed, rejected, Own, Outcome, still, filed, joins, closes, fate_of, group_class}
use Rattle.scope_lines.specs.Reader.{reason_of, next, unless, stop_at, fate_at, first_mark, struck, step, end_fate, strict, strict_to, after, fate, marks}
use Rattle.scope_lines.specs.Reader.{strike}
use Rattle.scope_lines.specs.Text.{Line, number, lines_of, renumber, SameBody, piece_no}
use Rattle.scope_lines.specs.Alike.{Alike}
use Rattle.scope_lines.specs.Demand3.{ClosesBy, mark_of, Opens, EndsAt, up_to_struck}
use Rattle.scope_lines.proofs.Alike.{stops-left, stops-right}
use Rattle.scope_lines.proofs.Stops.{Stop, is_line, is_group}
use Rattle.scope_lines.proofs.Strike.{Gone}
use Rattle.scope_lines.proofs.Pieces.{IsStop, reason_from, piece_from, opens-group, opens-mark, first-rejected, rejected-inj, fate-append, length-marks}
use Rattle.scope_lines.proofs.Pieces.{marks-at, mark_of-first, after_open, stays, to-line, stop-there, Trace, none, kept, opened, trace, none-closes}
use Rattle.scope_lines.proofs.Pieces.{every-stop, plain-stops}
use Rattle.scope_lines.proofs.Text.{renumber-nil, strict_to-up_to, piece_no-moved}

-- ---- numbers of lines, and those that they have when others are struck

number-no : (cs : List (List ℕ)) (n p : ℕ) (pre : List Line) (l : Line) (post : List Line) → number n p cs ≡ pre ++ l ∷ post → l.no ≡ n + length pre
unfolding number
number-no [] n p [] l post e = absurd (nil≢cons e)
number-no [] n p (x ∷ pre) l post e = absurd (nil≢cons e)
number-no (c ∷ cs) n p [] l post e = let z : l.no ≡ n = sym (ap (λ (x : Line). x.no) (head-eq_of_cons-eq e)) in omega arith
number-no (c ∷ cs) n p (x ∷ pre) l post e =
    let w : number (suc n) (p + length c) cs ≡ pre ++ l ∷ post = cc in
    omega (arith, number-no cs (suc n) (p + length c) pre l post w)

pub line-no : (t : List ℕ) (pre : List Line) (l : Line) (post : List Line) → lines_of t ≡ pre ++ l ∷ post → l.no ≡ suc (length pre)
unfolding lines_of
line-no t pre l post d = omega (arith, number-no (chunks t) 1 0 pre l post d)

abbrev pub Kept : List Mark → ℕ → Type 0
Kept ms i = struck (get_or ms i (marked blank 0)).class ≡ false

pub renumber-le : (ms : List Mark) (i j : ℕ) → i ≤ j → renumber ms i ≤ renumber ms j
unfolding renumber
renumber-le ms zero j h = omega arith
renumber-le ms (suc i) zero h = absurd (omega arith)
renumber-le [] (suc i) (suc j) h = h
renumber-le (m ∷ ms) (suc i) (suc j) h = omega (arith, renumber-le ms i j (omega arith))

pub renumber-kept : (ms : List Mark) (i : ℕ) → Kept ms i → renumber ms (suc i) ≡ suc (renumber ms i)
unfolding renumber struck
renumber-kept [] i k = ap suc (sym (renumber-nil i))
renumber-kept (m ∷ ms) zero k = rw k
renumber-kept (m ∷ ms) (suc i) k = omega (arith, renumber-kept ms i k)

-- a kept line has another number than the lines before it
renumber-lt : (ms : List Mark) (i j : ℕ) → Kept ms j → i ≤ j → renumber ms i < renumber ms (suc j)
renumber-lt ms i j k h = omega (arith, renumber-kept ms j k, renumber-le ms i j h)

kept-last : (ms : List Mark) → Kept ms (length ms)
unfolding struck
kept-last [] = refl
kept-last (m ∷ ms) = kept-last ms

-- ---- at which piece a reading stops at the line c, where the line a opened a group some lines before
module _ {S A R : Type 0} (𝓡 : Reader S A R) (h : Bool) (s : S) (r : R) (pre : List A) (a : A) (mid : List A) (c : A) where
  abbrev begin : Standing S A R
  begin = standing s [] r

  abbrev opened_by : Standing S A R
  opened_by = after 𝓡 h (after 𝓡 h begin pre) (a ∷ [])

  abbrev here : Standing S A R
  here = after 𝓡 h begin (pre ++ a ∷ mid)

  -- the line; the group of a; a group that a later line opened, which is kept
  data StopAfter (n : ℕ) : Piece A → Type 0 where
    at_it : StopAfter n (a_line c)
    at_own : (g : List A) (own : Own S) → fate 𝓡 h unclosed opened_by mid ≡ unclosed → step 𝓡 h here c ≡ closes (bad n) own → StopAfter n (a_group (a ∷ g))
    at_later : (mid₁ : List A) (a₁ : A) (mid₂ g : List A) → mid ≡ mid₁ ++ a₁ ∷ mid₂
        → Kept (marks 𝓡 h unclosed begin (pre ++ a ∷ mid)) (length (pre ++ a ∷ mid₁)) → StopAfter n (a_group (a₁ ∷ g))

  to-here : here ≡ after 𝓡 h opened_by mid
  to-here = after_open 𝓡 h begin pre a mid

  opened-mark : (mid₁ : List A) (a₁ : A) (mid₂ : List A) → Opens 𝓡 h (after 𝓡 h opened_by mid₁) a₁
      → fate 𝓡 h unclosed (after 𝓡 h (after 𝓡 h opened_by mid₁) (a₁ ∷ [])) mid₂ ≡ unclosed
      → Kept (marks 𝓡 h unclosed begin (pre ++ a ∷ (mid₁ ++ a₁ ∷ mid₂))) (length (pre ++ a ∷ mid₁))
  unfolding after first_mark group_class struck
  opened-mark mid₁ a₁ mid₂ o d =
      let st₁ : Standing S A R = after 𝓡 h begin (pre ++ a ∷ mid₁) in
      let w : after 𝓡 h opened_by mid₁ ≡ st₁ = sym (after_open 𝓡 h begin pre a mid₁) in
      let o₁ : Opens 𝓡 h st₁ a₁ = subst (λ (x : Standing S A R). Opens 𝓡 h x a₁) w o in
      let d₁ : fate 𝓡 h unclosed (after 𝓡 h st₁ (a₁ ∷ [])) mid₂ ≡ unclosed =
      subst (λ (x : Standing S A R). fate 𝓡 h unclosed (after 𝓡 h x (a₁ ∷ [])) mid₂ ≡ unclosed) w d in
      let e : get_or (marks 𝓡 h unclosed begin ((pre ++ a ∷ mid₁) ++ a₁ ∷ mid₂)) (length (pre ++ a ∷ mid₁)) (marked blank 0) ≡ first_mark unclosed =
      marks-at 𝓡 h unclosed (pre ++ a ∷ mid₁) a₁ mid₂ begin (marked blank 0)
      ∙ opens-mark (step 𝓡 h st₁ a₁) st₁.sec st₁.group st₁.recs _ o₁ ∙ ap first_mark d₁ in
      subst (λ ls. Kept (marks 𝓡 h unclosed begin ls) (length (pre ++ a ∷ mid₁))) (append_assoc pre (a ∷ mid₁) (a₁ ∷ mid₂))
      (ap (λ (m : Mark). struck m.class) e)

  module _ (o : Opens 𝓡 h (after 𝓡 h begin pre) a) where
    just-opened : opened_by.group ≡ a ∷ []
    unfolding after
    just-opened = let st₁ : Standing S A R = after 𝓡 h begin pre in opens-group (step 𝓡 h st₁ a) st₁.sec st₁.group st₁.recs a o

    stop-at-group : (n : ℕ) (own : Own S) → step 𝓡 h here c ≡ closes (bad n) own → Trace 𝓡 h opened_by mid → StopAfter n (a_group here.group)
    unfolding step
    stop-at-group n own eo (none e) =
        let z : ClosesBy (step 𝓡 h (standing here.sec here.group here.recs) c) = subst ClosesBy (sym eo) tt in
        let k : here.group ≡ [] = ap (λ (x : Standing S A R). x.group) to-here ∙ e in
        absurd (none-closes 𝓡 h (𝓡.sort c) (𝓡.rules here.sec) here.sec here.recs c
        (subst (λ g. ClosesBy (step 𝓡 h (standing here.sec g here.recs) c)) k z))
    stop-at-group n own eo (kept y g g₁ e k d) =
        let z : a ≡ y = head-eq_of_cons-eq (sym just-opened ∙ e) in
        let w : here.group ≡ a ∷ g₁ = ap (λ (x : Standing S A R). x.group) to-here ∙ k ∙ ap (◌∷ g₁) (sym z) in
        subst (λ x. StopAfter n (a_group x)) (sym w) (at_own g₁ own d eo)
    stop-at-group n own eo (opened mid₁ a₁ mid₂ g e t d k) =
        let w : here.group ≡ a₁ ∷ g = ap (λ (x : Standing S A R). x.group) to-here ∙ k in
        subst (λ x. StopAfter n (a_group x)) (sym w)
        (at_later mid₁ a₁ mid₂ g e
        (subst (λ x. Kept (marks 𝓡 h unclosed begin (pre ++ a ∷ x)) (length (pre ++ a ∷ mid₁))) (sym e) (opened-mark mid₁ a₁ mid₂ t d)))

    stop-by : (n : ℕ) (p : Piece A) (q : R) (x : Outcome S R) → step 𝓡 h here c ≡ x → stop_at here c x (accepted (next here c x).recs) ≡ stopped n p q → StopAfter n p
    unfolding stop_at unless
    stop-by n p q (still k s₁) eo e = absurd (subst IsStop (sym e) tt)
    stop-by n p q (filed (good r₁)) eo e = absurd (subst IsStop (sym e) tt)
    stop-by n p q (filed (bad m)) eo e = subst (StopAfter n) (ap (piece_from p) e) at_it
    stop-by n p q joins eo e = absurd (subst IsStop (sym e) tt)
    stop-by n p q (closes (good r₁) own) eo e = absurd (subst IsStop (sym e) tt)
    stop-by n p q (closes (bad m) own) eo e =
        subst (StopAfter n) (ap (piece_from p) e)
        (stop-at-group n own (eo ∙ ap (λ k. closes (bad k) own) (ap reason_from e)) (trace 𝓡 h mid opened_by))

    stop-after : (n : ℕ) (p : Piece A) (q : R) → strict_to 𝓡 h begin (strike 𝓡 h unclosed begin (pre ++ a ∷ mid) ++ (c ∷ [])) ≡ stopped n p q → StopAfter n p
    stop-after n p q e = stop-by n p q (step 𝓡 h here c) refl (sym (to-line 𝓡 h s r (pre ++ a ∷ mid) c) ∙ e)

    -- ---- what the line that closes the group of a makes of it
    open_after : (ls : List A) (st : Standing S A R) (g : List A) → st.group ≡ a ∷ g → fate 𝓡 h unclosed st ls ≡ unclosed
        → (g₁ : List A) × ((after 𝓡 h st ls).group ≡ a ∷ g₁)
    unfolding after fate next fate_at fate_of
    open_after [] st g p d = (g, p)
    open_after (l ∷ ls) st g p d = go (step 𝓡 h st l) (λ g₁ q k. open_after ls (next st l (step 𝓡 h st l)) g₁ q k) d
      where
        go : (x : Outcome S R)
            → ((g₁ : List A) → (next st l x).group ≡ a ∷ g₁ → fate 𝓡 h unclosed (next st l x) ls ≡ unclosed → (g₂ : List A) × ((after 𝓡 h (next st l x) ls).group ≡ a ∷ g₂))
            → fate_at x (fate 𝓡 h unclosed (next st l x) ls) ≡ unclosed
            → (g₂ : List A) × ((after 𝓡 h (next st l x) ls).group ≡ a ∷ g₂)
        go (still k s₁) ih e = ih g p e
        go (filed v) ih e = ih g p e
        go joins ih e = ih (g ++ (l ∷ [])) (ap (◌++ (l ∷ [])) p) e
        go (closes (good r₁) own) ih e = absurd (let z : ◌≡◌ {A = ℕ} 0 1 = cc in omega arith)
        go (closes (bad n) own) ih e = absurd (let z : ◌≡◌ {A = ℕ} 0 1 = cc in omega arith)

    module _ (waits : fate 𝓡 h unclosed opened_by mid ≡ unclosed) (v : Verdict R) (own : Own S) (eo : step 𝓡 h here c ≡ closes v own) (post : List A) where
      pub closed-mark : mark_of 𝓡 h begin pre a (mid ++ c ∷ post) ≡ first_mark (fate_of v)
      unfolding fate fate_at
      closed-mark =
          let φ : Fate = end_fate 𝓡 h (after 𝓡 h begin (pre ++ a ∷ (mid ++ c ∷ post))) in
          mark_of-first 𝓡 h begin pre a (mid ++ c ∷ post) o
          ∙ ap first_mark (fate-append 𝓡 h φ mid (c ∷ post) opened_by
          ∙ stays 𝓡 h _ mid opened_by waits
          ∙ ap (λ (x : Standing S A R). fate 𝓡 h φ x (c ∷ post)) (sym to-here)
          ∙ ap (λ x. fate_at x (fate 𝓡 h φ (next here c (step 𝓡 h here c)) post)) eo)

      closed-stop : (n : ℕ) → v ≡ bad n → (g : List A) × (strict_to 𝓡 h begin (strike 𝓡 h unclosed begin (pre ++ a ∷ mid) ++ (c ∷ [])) ≡ stopped n (a_group (a ∷ g)) here.recs)
      closed-stop n e =
          let (g, k) = open_after mid opened_by [] just-opened waits in
          let w : here.group ≡ a ∷ g = ap (λ (x : Standing S A R). x.group) to-here ∙ k in
          (g, to-line 𝓡 h s r (pre ++ a ∷ mid) c ∙ stop-there 𝓡 here c (step 𝓡 h here c) own n (a ∷ g) (eo ∙ ap (λ x. closes x own) e) w)

-- ---- of texts, in plain reading
pub closes-is : {S R : Type 0} (x : Outcome S R) → ClosesBy x → (v : Verdict R) × (own : Own S) × (x ≡ closes v own)
closes-is (still c s) t = absurd t
closes-is (filed v) t = absurd t
closes-is joins t = absurd t
closes-is (closes v own) t = (v, own, refl)

verdict-bad : {R : Type 0} (v : Verdict R) (n : ℕ) → fate_of v ≡ rejected n → v ≡ bad n
unfolding fate_of
verdict-bad (good r) n e = absurd (subst Gone (sym e) tt)
verdict-bad (bad m) n e = ap bad (rejected-inj e)

module _ {S R : Type 0} (𝓡 : Reader S Line R) (◌≈◌ : R → R → Type 0) (ℓ : Alike 𝓡 𝓡 SameBody ◌≈◌) (s : S) (r : R) (e : ◌≈◌ r r) (t : List ℕ) where
  abbrev at_first : Standing S Line R
  at_first = standing s [] r

  abbrev strictly : List Line → Reply Line R
  strictly pre = strict 𝓡 false at_first (lines_of (up_to_struck 𝓡 false s r t pre))

  abbrev new_no : List Line → ℕ → ℕ
  new_no pre i = renumber (marks 𝓡 false unclosed at_first pre) i

  -- the stop among the text's own lines
  stop-of : (pre : List Line) (l : Line) (post : List Line) (n : ℕ) (p : Piece Line) (q : R) → lines_of t ≡ pre ++ l ∷ post → strictly pre ≡ stopped n p q
      → (p₁ : Piece Line) × (q₁ : R) × (strict_to 𝓡 false at_first (strike 𝓡 false unclosed at_first pre ++ (l ∷ [])) ≡ stopped n p₁ q₁) × (piece_no p ≡ new_no pre (piece_no p₁))
  stop-of pre l post n p q d w =
      let z = (plain-stops 𝓡 (lines_of (up_to_struck 𝓡 false s r t pre)) at_first n p q).0 w in
      let (p₁, q₁, w₁, m) = stops-left (rw z at (strict_to-up_to 𝓡 ◌≈◌ ℓ false s r e t pre l post d)) in
      (p₁, q₁, w₁, piece_no-moved _ m)

  -- the line after some lines has another number than each of these
  pub last-kept : (pre : List Line) → Kept (marks 𝓡 false unclosed at_first pre) (length pre)
  last-kept pre = subst (Kept (marks 𝓡 false unclosed at_first pre)) (length-marks 𝓡 false unclosed at_first pre) (kept-last (marks 𝓡 false unclosed at_first pre))

  other-no : (pre : List Line) (i k : ℕ) → Kept (marks 𝓡 false unclosed at_first pre) k → i ≤ k → new_no pre i ≡ new_no pre (suc k) → ⊥
  other-no pre i k h le z = omega (arith, renumber-lt (marks 𝓡 false unclosed at_first pre) i k h le)

  -- a line
  pub line-told : (pre : List Line) (l : Line) (post : List Line) (n : ℕ) (p : Piece Line) (q : R) → lines_of t ≡ pre ++ l ∷ post
      → strictly pre ≡ stopped n p q → piece_no p ≡ new_no pre l.no → mark_of 𝓡 false at_first pre l post ≡ marked refused n
  unfolding piece_no
  line-told pre l post n p q d w z =
      let (p₁, q₁, w₁, k) = stop-of pre l post n p q d w in
      by p₁ (every-stop 𝓡 false s r pre l n p₁ q₁ w₁) (sym k ∙ z)
    where
      by : (p₁ : Piece Line) → Stop 𝓡 false at_first pre l n p₁ → new_no pre (piece_no p₁) ≡ new_no pre l.no → mark_of 𝓡 false at_first pre l post ≡ marked refused n
      by p₁ (is_line f) z = f post
      by p₁ (is_group pre₁ a mid g x o f) z =
          let u = line-no t pre l post d in
          let v = line-no t pre₁ a (mid ++ l ∷ post) (d ∙ ap (◌++ l ∷ post) x ∙ append_assoc pre₁ (a ∷ mid) (l ∷ post)) in
          absurd (other-no pre a.no (length pre) (last-kept pre) (omega (arith, ap length x, length-append pre₁ (a ∷ mid))) (z ∙ ap (new_no pre) u))

  module _ (pre : List Line) (a : Line) (mid : List Line) (c : Line) (rest : List Line) (n : ℕ) (d : lines_of t ≡ pre ++ a ∷ (mid ++ c ∷ rest)) where
    d-mid : lines_of t ≡ (pre ++ a ∷ mid) ++ c ∷ rest
    d-mid = d ∙ sym (append_assoc pre (a ∷ mid) (c ∷ rest))

    -- a group: where strict reading tells of its first line it has come to the group's end
    pub group-told : (p : Piece Line) (q : R) → Opens 𝓡 false (after 𝓡 false at_first pre) a
        → strictly (pre ++ a ∷ mid) ≡ stopped n p q → piece_no p ≡ new_no (pre ++ a ∷ mid) a.no
        → EndsAt 𝓡 false at_first pre a mid c × (mark_of 𝓡 false at_first pre a (mid ++ c ∷ rest) ≡ marked rule_refused n)
    unfolding piece_no first_mark fate_of group_class reason_of
    group-told p q o w z =
        let (p₁, q₁, w₁, k) = stop-of (pre ++ a ∷ mid) c rest n p q d-mid w in
        by p₁ (stop-after 𝓡 false s r pre a mid c o n p₁ q₁ w₁) (sym z ∙ k)
      where
        ls : List Line
        ls = pre ++ a ∷ mid

        a-no : a.no ≡ suc (length pre)
        a-no = line-no t pre a (mid ++ c ∷ rest) d

        by : (p₁ : Piece Line) → StopAfter 𝓡 false s r pre a mid c n p₁ → new_no ls a.no ≡ new_no ls (piece_no p₁)
            → EndsAt 𝓡 false at_first pre a mid c × (mark_of 𝓡 false at_first pre a (mid ++ c ∷ rest) ≡ marked rule_refused n)
        by p₁ at_it z =
            absurd (other-no ls a.no (length ls) (last-kept ls) (omega (arith, a-no, length-append pre (a ∷ mid))) (z ∙ ap (new_no ls) (line-no t ls c rest d-mid)))
        by p₁ (at_own g own waits eo) z =
            (record { opens = o; waits = waits; ends = subst ClosesBy (sym eo) tt }, closed-mark 𝓡 false s r pre a mid c o waits (bad n) own eo rest)
        by p₁ (at_later mid₁ a₁ mid₂ g x k) z =
            let ks : List Line = pre ++ a ∷ mid₁ in
            let y : lines_of t ≡ ks ++ a₁ ∷ (mid₂ ++ c ∷ rest) =
            d ∙ ap (λ xs. pre ++ a ∷ (xs ++ c ∷ rest)) x ∙ ap (λ xs. pre ++ a ∷ xs) (append_assoc mid₁ (a₁ ∷ mid₂) (c ∷ rest))
            ∙ sym (append_assoc pre (a ∷ mid₁) (a₁ ∷ (mid₂ ++ c ∷ rest))) in
            absurd (other-no ls a.no (length ks) k (omega (arith, a-no, length-append pre (a ∷ mid₁))) (z ∙ ap (new_no ls) (line-no t ks a₁ (mid₂ ++ c ∷ rest) y)))

    -- ..and at its end strict reading tells of a group that is refused
    pub group-stops : EndsAt 𝓡 false at_first pre a mid c → mark_of 𝓡 false at_first pre a (mid ++ c ∷ rest) ≡ marked rule_refused n
        → (p : Piece Line) × (q : R) × (strictly (pre ++ a ∷ mid) ≡ stopped n p q) × (piece_no p ≡ new_no (pre ++ a ∷ mid) a.no)
    unfolding piece_no
    group-stops k m =
        let ls : List Line = pre ++ a ∷ mid in
        let (v, own, eo) = closes-is (step 𝓡 false (after 𝓡 false at_first ls) c) k.ends in
        let b : v ≡ bad n = verdict-bad v n (first-rejected (fate_of v) n (sym (closed-mark 𝓡 false s r pre a mid c k.opens k.waits v own eo rest) ∙ m)) in
        let (g, w) = closed-stop 𝓡 false s r pre a mid c k.opens k.waits v own eo rest n b in
        let (p, q, z, u) = stops-right (rw w at (strict_to-up_to 𝓡 ◌≈◌ ℓ false s r e t ls c rest d-mid)) in
        (p, q, (plain-stops 𝓡 (lines_of (up_to_struck 𝓡 false s r t ls)) at_first n p q).1 z, piece_no-moved _ u)
