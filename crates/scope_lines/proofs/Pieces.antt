-- Demand 3, its second half: each refused piece is where strict reading would stop; and the classes count every line once.
-- Assumes nothing.
use mathlib.Core.Path.{◌≡◌, refl, ap, ap₂, sym, ◌∙◌, subst}
use mathlib.Core.Bool.{Bool, true, false}
use mathlib.Core.Logic.{◌↔◌}
use mathlib.Core.List.{List, [], ◌∷◌, ◌++◌, append-nil, nil≢cons, head-eq_of_cons-eq}
use Prim.Native.Nat.{ℕ, suc, ◌+◌}
use native.Mathlib.Omega.{arith}
use lib.ListN.{length, get_or}
use Rattle.scope_lines.specs.Demand3.{OpensBy, ClosesBy, mark_of, Opens}
use Rattle.scope_lines.proofs.Stops.{GroupStop, at_line, at_end, Stop, is_line, is_group}
use Rattle.scope_lines.proofs.Strike.{reads, TwinBy, Gone}
use Rattle.scope_lines.specs.Reader.{Sort, empty, heading, start, other, Verdict, good, bad, Stored, over, judged, Reader, Standing, standing, Class}
use Rattle.scope_lines.specs.Reader.{blank, header, passed, taken, refused, rule_taken, rule_refused, rule_open, code, tally, count, Still, is_blank, is_header}
use Rattle.scope_lines.specs.Reader.{is_passed, still_class, Mark, Piece, a_line, a_group, Reply, accepted, stopped, Fate, unclosed, approved, rejected, Own}
use Rattle.scope_lines.specs.Reader.{itself, last, fresh, Outcome, still, filed, joins, closes, settle, fate_of, group_class, reason_of, if_open, of_stored}
use Rattle.scope_lines.specs.Reader.{next, unless, stop_at, fate_at, first_mark, group_mark, line_mark, marked, mark, shut, act, step, end_verdict, end_fate}
use Rattle.scope_lines.specs.Reader.{read, ending, strict, strict_to, after, fate, marks, survey_marks, strike}

-- ---- the classes

tally-one : (c : Class)
    → tally 1 c + tally 2 c + tally 3 c + tally 4 c + tally 5 c + tally 6 c + tally 7 c + tally 8 c ≡ 1
unfolding tally code
tally-one blank = refl
tally-one header = refl
tally-one passed = refl
tally-one taken = refl
tally-one refused = refl
tally-one rule_taken = refl
tally-one rule_refused = refl
tally-one rule_open = refl

count-all : (ms : List Mark)
    → count 1 ms + count 2 ms + count 3 ms + count 4 ms + count 5 ms + count 6 ms + count 7 ms + count 8 ms ≡ length ms
unfolding count
count-all [] = refl
count-all (m ∷ ms) = omega (arith, tally-one m.class, count-all ms)

-- ---- telling constructors apart

pub rejected-inj : {m n : ℕ} → rejected m ≡ rejected n → m ≡ n
rejected-inj {m} {n} e = cc

abbrev IsUnclosed : Fate → Type 0
IsUnclosed unclosed = Unit {0}
IsUnclosed approved = ⊥
IsUnclosed (rejected n) = ⊥

abbrev pub reason_from : {A R : Type 0} → Reply A R → ℕ
reason_from (accepted r) = 0
reason_from (stopped n p r) = n

abbrev pub piece_from : {A R : Type 0} → Piece A → Reply A R → Piece A
piece_from d (accepted r) = d
piece_from d (stopped n p r) = p

abbrev pub IsStop : {A R : Type 0} → Reply A R → Type 0
IsStop (accepted r) = ⊥
IsStop (stopped n p r) = Unit {0}

abbrev IsRefused : Class → Type 0
IsRefused blank = ⊥
IsRefused header = ⊥
IsRefused passed = ⊥
IsRefused taken = ⊥
IsRefused refused = Unit {0}
IsRefused rule_taken = ⊥
IsRefused rule_refused = ⊥
IsRefused rule_open = ⊥

still-not-refused : (c : Still) → IsRefused (still_class c) → ⊥
unfolding still_class
still-not-refused is_blank t = t
still-not-refused is_header t = t
still-not-refused is_passed t = t

group-not-refused : (f : Fate) → IsRefused (group_class f) → ⊥
unfolding group_class
group-not-refused unclosed t = t
group-not-refused approved t = t
group-not-refused (rejected n) t = t

mark-not-refused : {A : Type 0} (g : List A) (f : Fate) → IsRefused (group_mark g f).class → ⊥
unfolding group_mark first_mark
mark-not-refused [] f t = group-not-refused f t
mark-not-refused (x ∷ g) f t = group-not-refused f t

pub opens-group : {S A R : Type 0} (o : Outcome S R) (s : S) (g : List A) (r : R) (a : A) → OpensBy o g → (next (standing s g r) a o).group ≡ a ∷ []
unfolding next
opens-group (still c s₁) s g r a t = absurd t
opens-group (filed v) s g r a t = absurd t
opens-group joins s [] r a t = refl
opens-group joins s (x ∷ g) r a t = absurd t
opens-group (closes v (itself c s₁)) s g r a t = absurd t
opens-group (closes v last) s g r a t = absurd t
opens-group (closes v fresh) s g r a t = refl

pub opens-mark : {S A R : Type 0} (o : Outcome S R) (s : S) (g : List A) (r : R) (f : Fate) → OpensBy o g → mark (standing s g r) o f ≡ first_mark f
unfolding mark group_mark
opens-mark (still c s₁) s g r f t = absurd t
opens-mark (filed v) s g r f t = absurd t
opens-mark joins s [] r f t = refl
opens-mark joins s (x ∷ g) r f t = absurd t
opens-mark (closes v (itself c s₁)) s g r f t = absurd t
opens-mark (closes v last) s g r f t = absurd t
opens-mark (closes v fresh) s g r f t = refl

-- a group's first line tells its fate
pub first-rejected : (f : Fate) (n : ℕ) → first_mark f ≡ marked rule_refused n → f ≡ rejected n
unfolding first_mark group_class reason_of code
first-rejected unclosed n e = let z : ◌≡◌ {A = ℕ} 8 7 = ap (λ (m : Mark). code m.class) e in absurd (omega arith)
first-rejected approved n e = let z : ◌≡◌ {A = ℕ} 6 7 = ap (λ (m : Mark). code m.class) e in absurd (omega arith)
first-rejected (rejected m) n e = ap rejected (ap (λ (q : Mark). q.reason) e)

module _ {S A R : Type 0} (𝓡 : Reader S A R) where
  pub length-marks : (h : Bool) (φ : Fate) (st : Standing S A R) (ls : List A) → length (marks 𝓡 h φ st ls) ≡ length ls
  unfolding marks
  length-marks h φ st [] = refl
  length-marks h φ st (l ∷ ls) = ap suc (length-marks h φ (next st l (step 𝓡 h st l)) ls)

  -- every line is counted once
  pub classes-add-up : (h : Bool) (st : Standing S A R) (ls : List A)
      → let ms : List Mark = survey_marks 𝓡 h st ls in
      count 1 ms + count 2 ms + count 3 ms + count 4 ms + count 5 ms + count 6 ms + count 7 ms + count 8 ms ≡ length ls
  unfolding survey_marks
  classes-add-up h st ls = count-all _ ∙ length-marks h _ st ls

  -- ---- lists in two parts

  pub after-append : (h : Bool) (ls ms : List A) (st : Standing S A R) → after 𝓡 h st (ls ++ ms) ≡ after 𝓡 h (after 𝓡 h st ls) ms
  unfolding after
  after-append h [] ms st = refl
  after-append h (l ∷ ls) ms st = after-append h ls ms (next st l (step 𝓡 h st l))

  pub fate-append : (h : Bool) (φ : Fate) (ls ms : List A) (st : Standing S A R)
      → fate 𝓡 h φ st (ls ++ ms) ≡ fate 𝓡 h (fate 𝓡 h φ (after 𝓡 h st ls) ms) st ls
  unfolding after fate
  fate-append h φ [] ms st = refl
  fate-append h φ (l ∷ ls) ms st = ap (fate_at (step 𝓡 h st l)) (fate-append h φ ls ms (next st l (step 𝓡 h st l)))

  pub marks-at : (h : Bool) (φ : Fate) (pre : List A) (l : A) (post : List A) (st : Standing S A R) (d : Mark)
      → get_or (marks 𝓡 h φ st (pre ++ l ∷ post)) (length pre) d
      ≡ (let st₁ : Standing S A R = after 𝓡 h st pre in
      mark st₁ (step 𝓡 h st₁ l) (fate 𝓡 h φ (next st₁ l (step 𝓡 h st₁ l)) post))
  unfolding marks after
  marks-at h φ [] l post st d = refl
  marks-at h φ (x ∷ pre) l post st d = marks-at h φ pre l post (next st x (step 𝓡 h st x)) d

  twin-unclosed : (h : Bool) (g : List A) (st st' : Standing S A R) → TwinBy 𝓡 h unclosed g st st' → st' ≡ st
  twin-unclosed h [] st st' p = p
  twin-unclosed h (x ∷ g) st st' p = p

  -- strict reading of the struck beginning comes to the survey's own state
  to-here : (ε : Standing S A R → Reply A R) (h : Bool) (s : S) (r : R) (pre rest : List A)
      → read 𝓡 h ε (standing s [] r) (strike 𝓡 h unclosed (standing s [] r) pre ++ rest) ≡ read 𝓡 h ε (after 𝓡 h (standing s [] r) pre) rest
  to-here ε h s r pre rest =
      let st : Standing S A R = standing s [] r in
      let (st', p, e) = reads 𝓡 ε h unclosed pre rest st st refl in
      e ∙ ap (λ q. read 𝓡 h ε q rest) (twin-unclosed h (after 𝓡 h st pre).group (after 𝓡 h st pre) st' p)

  -- ---- a refused line

  pub mark_of-is : (h : Bool) (st : Standing S A R) (pre : List A) (l : A) (post : List A)
      → (f : Fate) × (mark_of 𝓡 h st pre l post ≡ mark (after 𝓡 h st pre) (step 𝓡 h (after 𝓡 h st pre) l) f)
  unfolding mark_of survey_marks
  mark_of-is h st pre l post = (_, marks-at h _ pre l post st _)

  pub refused-only : (o : Outcome S R) (st : Standing S A R) (f : Fate) (n : ℕ) → mark st o f ≡ marked refused n → o ≡ filed (bad n)
  unfolding mark line_mark first_mark
  refused-only (still c s) st f n e = absurd (still-not-refused c (subst (λ (m : Mark). IsRefused m.class) (sym e) tt))
  refused-only (filed (good r)) st f n e = absurd (subst (λ (m : Mark). IsRefused m.class) (sym e) tt)
  refused-only (filed (bad m)) st f n e = ap (λ q. filed (bad q)) (ap (λ (q : Mark). q.reason) e)
  refused-only joins st f n e = absurd (mark-not-refused st.group f (subst (λ (m : Mark). IsRefused m.class) (sym e) tt))
  refused-only (closes v (itself c s)) st f n e = absurd (still-not-refused c (subst (λ (m : Mark). IsRefused m.class) (sym e) tt))
  refused-only (closes v last) st f n e = absurd (group-not-refused (fate_of v) (subst (λ (m : Mark). IsRefused m.class) (sym e) tt))
  refused-only (closes v fresh) st f n e = absurd (group-not-refused f (subst (λ (m : Mark). IsRefused m.class) (sym e) tt))

  -- where strict reading of one line stops
  stops-line : (o : Outcome S R) (st : Standing S A R) (l : A) (n : ℕ) (q q' : R)
      → stop_at st l o (accepted q') ≡ stopped n (a_line l) q → o ≡ filed (bad n)
  unfolding stop_at unless
  stops-line (still c s) st l n q q' e = absurd (subst IsStop (sym e) tt)
  stops-line (filed (good r)) st l n q q' e = absurd (subst IsStop (sym e) tt)
  stops-line (filed (bad m)) st l n q q' e = ap (λ k. filed (bad k)) (ap reason_from e)
  stops-line joins st l n q q' e = absurd (subst IsStop (sym e) tt)
  stops-line (closes (good r) own) st l n q q' e = absurd (subst IsStop (sym e) tt)
  stops-line (closes (bad m) own) st l n q q' e = absurd (let z : ◌≡◌ {A = ℕ} 0 1 = cc in omega arith)

  -- a line
  pub refused-line : (h : Bool) (s : S) (r : R) (pre : List A) (l : A) (post : List A) (n : ℕ)
      → (mark_of 𝓡 h (standing s [] r) pre l post ≡ marked refused n)
      ↔ (strict_to 𝓡 h (standing s [] r) (strike 𝓡 h unclosed (standing s [] r) pre ++ (l ∷ []))
      ≡ stopped n (a_line l) (after 𝓡 h (standing s [] r) pre).recs)
  unfolding strict_to read stop_at unless mark line_mark
  refused-line h s r pre l post n =
      let st : Standing S A R = standing s [] r in
      let st₁ : Standing S A R = after 𝓡 h st pre in
      let (f, m) = mark_of-is h st pre l post in
      let o : Outcome S R = step 𝓡 h st₁ l in
      let t : strict_to 𝓡 h st (strike 𝓡 h unclosed st pre ++ (l ∷ [])) ≡ stop_at st₁ l o (accepted (next st₁ l o).recs) =
      to-here (λ q. accepted q.recs) h s r pre (l ∷ []) in (
        (λ e. t ∙ ap (λ x. stop_at st₁ l x (accepted (next st₁ l x).recs)) (refused-only o st₁ f n (sym m ∙ e))),
        λ e. m ∙ ap (λ x. mark st₁ x f) (stops-line o st₁ l n st₁.recs (next st₁ l o).recs (sym t ∙ e)),
      )

  -- ---- a refused group

  -- where the open group, whose first line is x, is refused for n
  pub data Closed (h : Bool) (φ : Fate) (st : Standing S A R) (x : A) (n : ℕ) (ls : List A) : Type 0 where
    by_line : (mid : List A) (c : A) (post g : List A) (own : Own S) → ls ≡ mid ++ c ∷ post → fate 𝓡 h unclosed st mid ≡ unclosed
        → (after 𝓡 h st mid).group ≡ x ∷ g → step 𝓡 h (after 𝓡 h st mid) c ≡ closes (bad n) own → Closed h φ st x n ls
    by_end : (g : List A) → fate 𝓡 h unclosed st ls ≡ unclosed → (after 𝓡 h st ls).group ≡ x ∷ g → φ ≡ rejected n → Closed h φ st x n ls

  closed_on : (h : Bool) (φ : Fate) (st : Standing S A R) (x : A) (n : ℕ) (l : A) (ls : List A)
      → ((f : Fate) → fate_at (step 𝓡 h st l) f ≡ f)
      → Closed h φ (next st l (step 𝓡 h st l)) x n ls → Closed h φ st x n (l ∷ ls)
  unfolding after fate
  closed_on h φ st x n l ls k (by_line mid c post g own e d p q) =
      by_line (l ∷ mid) c post g own (ap (l ∷◌) e) (k _ ∙ d) p q
  closed_on h φ st x n l ls k (by_end g d p q) = by_end g (k _ ∙ d) p q

  closed-step : (h : Bool) (φ : Fate) (st : Standing S A R) (x : A) (g : List A) (n : ℕ) (l : A) (ls : List A) (o : Outcome S R)
      → step 𝓡 h st l ≡ o → st.group ≡ x ∷ g
      → ((g₁ : List A) → (next st l o).group ≡ x ∷ g₁ → fate 𝓡 h φ (next st l o) ls ≡ rejected n → Closed h φ (next st l o) x n ls)
      → fate_at o (fate 𝓡 h φ (next st l o) ls) ≡ rejected n → Closed h φ st x n (l ∷ ls)
  unfolding next fate_at after fate fate_of
  closed-step h φ st x g n l ls (still c s) e p ih d =
      closed_on h φ st x n l ls (λ f. ap (λ q. fate_at q f) e) (subst (λ q. Closed h φ (next st l q) x n ls) (sym e) (ih g p d))
  closed-step h φ st x g n l ls (filed v) e p ih d =
      closed_on h φ st x n l ls (λ f. ap (λ q. fate_at q f) e) (subst (λ q. Closed h φ (next st l q) x n ls) (sym e) (ih g p d))
  closed-step h φ st x g n l ls joins e p ih d =
      closed_on h φ st x n l ls (λ f. ap (λ q. fate_at q f) e)
      (subst (λ q. Closed h φ (next st l q) x n ls) (sym e) (ih (g ++ (l ∷ [])) (ap (λ q. q ++ (l ∷ [])) p) d))
  closed-step h φ st x g n l ls (closes (good r) own) e p ih d = absurd (subst Gone (sym d) tt)
  closed-step h φ st x g n l ls (closes (bad m) own) e p ih d =
      by_line [] l ls g own refl refl p (e ∙ ap (λ k. closes (bad k) own) (rejected-inj d))

  pub closing : (h : Bool) (φ : Fate) (x : A) (n : ℕ) (ls : List A) (st : Standing S A R) (g : List A)
      → st.group ≡ x ∷ g → fate 𝓡 h φ st ls ≡ rejected n → Closed h φ st x n ls
  unfolding fate after
  closing h φ x n [] st g p d = by_end g refl p d
  closing h φ x n (l ∷ ls) st g p d =
      closed-step h φ st x g n l ls (step 𝓡 h st l) refl p (λ g₁ p₁ d₁. closing h φ x n ls (next st l (step 𝓡 h st l)) g₁ p₁ d₁) d

  stays_at : (o : Outcome S R) (F : Fate) → fate_at o F ≡ unclosed → (F ≡ unclosed) × ((f : Fate) → fate_at o f ≡ f)
  unfolding fate_at fate_of
  stays_at (still c s) F e = (e, λ f. refl)
  stays_at (filed v) F e = (e, λ f. refl)
  stays_at joins F e = (e, λ f. refl)
  stays_at (closes (good r) own) F e = absurd (subst IsUnclosed (sym e) tt)
  stays_at (closes (bad n) own) F e = absurd (subst IsUnclosed (sym e) tt)

  -- lines that do not close the group leave its fate to the lines after them
  pub stays : (h : Bool) (φ : Fate) (ls : List A) (st : Standing S A R) → fate 𝓡 h unclosed st ls ≡ unclosed → fate 𝓡 h φ st ls ≡ φ
  unfolding fate
  stays h φ [] st e = refl
  stays h φ (l ∷ ls) st e =
      let (e₁, k) = stays_at (step 𝓡 h st l) _ e in
      k _ ∙ stays h φ ls (next st l (step 𝓡 h st l)) e₁

  stops-group : (o : Outcome S R) (st : Standing S A R) (l : A) (n : ℕ) (g : List A) (q q' : R)
      → stop_at st l o (accepted q') ≡ stopped n (a_group g) q → (own : Own S) × (o ≡ closes (bad n) own)
  unfolding stop_at unless
  stops-group (still c s) st l n g q q' e = absurd (subst IsStop (sym e) tt)
  stops-group (filed (good r)) st l n g q q' e = absurd (subst IsStop (sym e) tt)
  stops-group (filed (bad m)) st l n g q q' e = absurd (let z : ◌≡◌ {A = ℕ} 0 1 = cc in omega arith)
  stops-group joins st l n g q q' e = absurd (subst IsStop (sym e) tt)
  stops-group (closes (good r) own) st l n g q q' e = absurd (subst IsStop (sym e) tt)
  stops-group (closes (bad m) own) st l n g q q' e = (own, ap (λ k. closes (bad k) own) (ap reason_from e))

  pub end-stops : (h : Bool) (st : Standing S A R) (n : ℕ) (p : Piece A) (q : R) → ending 𝓡 h st ≡ stopped n p q → end_fate 𝓡 h st ≡ rejected n
  unfolding ending end_fate end_verdict unless fate_of
  end-stops false st n p q e = absurd (subst IsStop (sym e) tt)
  end-stops true st n p q e = go (shut 𝓡 st) e
    where
      go : (v : Verdict R) → unless v (a_group st.group) st.recs (accepted (𝓡.finish (settle v st.recs))) ≡ stopped n p q
          → fate_of v ≡ rejected n
      go (good r) e = absurd (subst IsStop (sym e) tt)
      go (bad m) e = ap rejected (ap reason_from e)

  pub end-rejected : (h : Bool) (st : Standing S A R) (n : ℕ) → end_fate 𝓡 h st ≡ rejected n → ending 𝓡 h st ≡ stopped n (a_group st.group) st.recs
  unfolding ending end_fate end_verdict unless fate_of
  end-rejected false st n e = absurd (subst Gone (sym e) tt)
  end-rejected true st n e = go (shut 𝓡 st) e
    where
      go : (v : Verdict R) → fate_of v ≡ rejected n
          → unless v (a_group st.group) st.recs (accepted (𝓡.finish (settle v st.recs))) ≡ stopped n (a_group st.group) st.recs
      go (good r) e = absurd (subst Gone (sym e) tt)
      go (bad m) e = ap (λ k. stopped k (a_group st.group) st.recs) (rejected-inj e)

  pub mark_of-first : (h : Bool) (st : Standing S A R) (pre : List A) (a : A) (post : List A) → Opens 𝓡 h (after 𝓡 h st pre) a
      → mark_of 𝓡 h st pre a post
      ≡ first_mark (fate 𝓡 h (end_fate 𝓡 h (after 𝓡 h st (pre ++ a ∷ post))) (after 𝓡 h (after 𝓡 h st pre) (a ∷ [])) post)
  unfolding mark_of survey_marks after
  mark_of-first h st pre a post t =
      let st₁ : Standing S A R = after 𝓡 h st pre in
      marks-at h _ pre a post st _ ∙ opens-mark (step 𝓡 h st₁ a) st₁.sec st₁.group st₁.recs _ t

  -- the state after a split
  pub after_open : (h : Bool) (st : Standing S A R) (pre : List A) (a : A) (mid : List A)
      → after 𝓡 h st (pre ++ a ∷ mid) ≡ after 𝓡 h (after 𝓡 h (after 𝓡 h st pre) (a ∷ [])) mid
  after_open h st pre a mid = after-append h pre (a ∷ mid) st ∙ after-append h (a ∷ []) mid (after 𝓡 h st pre)

  to_end : (h : Bool) (s : S) (r : R) (ls : List A)
      → strict 𝓡 h (standing s [] r) (strike 𝓡 h unclosed (standing s [] r) ls) ≡ ending 𝓡 h (after 𝓡 h (standing s [] r) ls)
  unfolding strict read
  to_end h s r ls =
      ap (strict 𝓡 h (standing s [] r)) (sym (append-nil (strike 𝓡 h unclosed (standing s [] r) ls))) ∙ to-here (ending 𝓡 h) h s r ls []

  pub to-line : (h : Bool) (s : S) (r : R) (pre : List A) (c : A)
      → strict_to 𝓡 h (standing s [] r) (strike 𝓡 h unclosed (standing s [] r) pre ++ (c ∷ []))
      ≡ (let st₁ : Standing S A R = after 𝓡 h (standing s [] r) pre in
      let o : Outcome S R = step 𝓡 h st₁ c in stop_at st₁ c o (accepted (next st₁ c o).recs))
  unfolding strict_to read
  to-line h s r pre c = to-here (λ x. accepted x.recs) h s r pre (c ∷ [])

  pub stop-there : (st : Standing S A R) (c : A) (o : Outcome S R) (own : Own S) (n : ℕ) (g : List A)
      → o ≡ closes (bad n) own → st.group ≡ g → stop_at st c o (accepted (next st c o).recs) ≡ stopped n (a_group g) st.recs
  unfolding stop_at unless
  stop-there st c o own n g q p =
      ap (λ x. stop_at st c x (accepted (next st c x).recs)) q ∙ ap (λ k. stopped n (a_group k) st.recs) p

  group-stop : (h : Bool) (s : S) (r : R) (pre : List A) (a : A) (post : List A) (n : ℕ)
      → Closed h (end_fate 𝓡 h (after 𝓡 h (standing s [] r) (pre ++ a ∷ post))) (after 𝓡 h (after 𝓡 h (standing s [] r) pre) (a ∷ [])) a n post
      → GroupStop 𝓡 h (standing s [] r) pre a post n
  group-stop h s r pre a post n (by_line mid c post' g own e d p q) =
      let st₁ : Standing S A R = after 𝓡 h (standing s [] r) (pre ++ a ∷ mid) in
      let w = sym (after_open h (standing s [] r) pre a mid) in
      at_line mid c post' g e d
      (to-line h s r (pre ++ a ∷ mid) c
      ∙ stop-there st₁ c (step 𝓡 h st₁ c) own n (a ∷ g)
      (subst (λ x. step 𝓡 h x c ≡ closes (bad n) own) w q) (subst (λ (x : Standing S A R). x.group ≡ a ∷ g) w p))
  group-stop h s r pre a post n (by_end g d p q) =
      let st₁ : Standing S A R = after 𝓡 h (standing s [] r) (pre ++ a ∷ post) in
      let w = sym (after_open h (standing s [] r) pre a post) in
      at_end g d
      (to_end h s r (pre ++ a ∷ post) ∙ end-rejected h st₁ n q
      ∙ ap (λ k. stopped n (a_group k) st₁.recs) (subst (λ (x : Standing S A R). x.group ≡ a ∷ g) w p))

  -- the fate of the group that `a` opens, from where strict reading stops
  module _ (h : Bool) (s : S) (r : R) (pre : List A) (a : A) (n : ℕ) where
    abbrev pub opened_by : Standing S A R
    opened_by = after 𝓡 h (after 𝓡 h (standing s [] r) pre) (a ∷ [])

    abbrev pub fate_in : List A → Fate
    fate_in post = fate 𝓡 h (end_fate 𝓡 h (after 𝓡 h (standing s [] r) (pre ++ a ∷ post))) opened_by post

    line-fate : (mid : List A) (c : A) (post g : List A) (q : R) → fate 𝓡 h unclosed opened_by mid ≡ unclosed
        → strict_to 𝓡 h (standing s [] r) (strike 𝓡 h unclosed (standing s [] r) (pre ++ a ∷ mid) ++ (c ∷ [])) ≡ stopped n (a_group g) q
        → fate_in (mid ++ c ∷ post) ≡ rejected n
    unfolding fate fate_at fate_of
    line-fate mid c post g q d e =
        let st₁ : Standing S A R = after 𝓡 h (standing s [] r) (pre ++ a ∷ mid) in
        let φ : Fate = end_fate 𝓡 h (after 𝓡 h (standing s [] r) (pre ++ a ∷ (mid ++ c ∷ post))) in
        let o : Outcome S R = step 𝓡 h st₁ c in
        let (own, k) = stops-group o st₁ c n g q (next st₁ c o).recs (sym (to-line h s r (pre ++ a ∷ mid) c) ∙ e) in
        fate-append h φ mid (c ∷ post) opened_by
        ∙ stays h _ mid opened_by d
        ∙ ap (λ (x : Standing S A R). fate 𝓡 h φ x (c ∷ post)) (sym (after_open h (standing s [] r) pre a mid))
        ∙ ap (λ x. fate_at x (fate 𝓡 h φ (next st₁ c o) post)) k

    end-fate : (post : List A) (p : Piece A) (q : R) → fate 𝓡 h unclosed opened_by post ≡ unclosed
        → strict 𝓡 h (standing s [] r) (strike 𝓡 h unclosed (standing s [] r) (pre ++ a ∷ post)) ≡ stopped n p q
        → fate_in post ≡ rejected n
    end-fate post p q d e = stays h _ post opened_by d ∙ end-stops h _ n p q (sym (to_end h s r (pre ++ a ∷ post)) ∙ e)

    fate-mark : (post : List A) → Opens 𝓡 h (after 𝓡 h (standing s [] r) pre) a → fate_in post ≡ rejected n
        → mark_of 𝓡 h (standing s [] r) pre a post ≡ marked rule_refused n
    unfolding first_mark group_class reason_of
    fate-mark post t e = mark_of-first h (standing s [] r) pre a post t ∙ ap first_mark e

    pub line-mark : (mid : List A) (c : A) (post g : List A) (q : R) → Opens 𝓡 h (after 𝓡 h (standing s [] r) pre) a
        → fate 𝓡 h unclosed opened_by mid ≡ unclosed
        → strict_to 𝓡 h (standing s [] r) (strike 𝓡 h unclosed (standing s [] r) (pre ++ a ∷ mid) ++ (c ∷ [])) ≡ stopped n (a_group g) q
        → mark_of 𝓡 h (standing s [] r) pre a (mid ++ c ∷ post) ≡ marked rule_refused n
    line-mark mid c post g q t d e = fate-mark (mid ++ c ∷ post) t (line-fate mid c post g q d e)

    pub end_mark : (post : List A) (p : Piece A) (q : R) → Opens 𝓡 h (after 𝓡 h (standing s [] r) pre) a
        → fate 𝓡 h unclosed opened_by post ≡ unclosed
        → strict 𝓡 h (standing s [] r) (strike 𝓡 h unclosed (standing s [] r) (pre ++ a ∷ post)) ≡ stopped n p q
        → mark_of 𝓡 h (standing s [] r) pre a post ≡ marked rule_refused n
    end_mark post p q t d e = fate-mark post t (end-fate post p q d e)

    group-mark : (post : List A) → Opens 𝓡 h (after 𝓡 h (standing s [] r) pre) a → GroupStop 𝓡 h (standing s [] r) pre a post n
        → mark_of 𝓡 h (standing s [] r) pre a post ≡ marked rule_refused n
    group-mark post t (at_line mid c post' g e d q) =
        subst (λ x. mark_of 𝓡 h (standing s [] r) pre a x ≡ marked rule_refused n) (sym e) (line-mark mid c post' (a ∷ g) _ t d q)
    group-mark post t (at_end g d q) = end_mark post _ _ t d q

  -- a group
  pub refused-group : (h : Bool) (s : S) (r : R) (pre : List A) (a : A) (post : List A) (n : ℕ)
      → Opens 𝓡 h (after 𝓡 h (standing s [] r) pre) a
      → (mark_of 𝓡 h (standing s [] r) pre a post ≡ marked rule_refused n) ↔ GroupStop 𝓡 h (standing s [] r) pre a post n
  unfolding after
  refused-group h s r pre a post n t =
      let st₁ : Standing S A R = after 𝓡 h (standing s [] r) pre in (
        (λ e. group-stop h s r pre a post n
            (closing h _ a n post (after 𝓡 h st₁ (a ∷ [])) [] (opens-group (step 𝓡 h st₁ a) st₁.sec st₁.group st₁.recs a t)
            (first-rejected _ n (sym (mark_of-first h (standing s [] r) pre a post t) ∙ e)))),
        group-mark h s r pre a n post t,
      )

  -- ---- every stop is one of these

  -- the group that is open after some lines: none, the one that was open before them, or one that a line of them opened
  pub data Trace (h : Bool) (st : Standing S A R) (ls : List A) : Type 0 where
    none : (after 𝓡 h st ls).group ≡ [] → Trace h st ls
    kept : (y : A) (g g₁ : List A) → st.group ≡ y ∷ g → (after 𝓡 h st ls).group ≡ y ∷ g₁ → fate 𝓡 h unclosed st ls ≡ unclosed → Trace h st ls
    opened : (pre : List A) (a : A) (mid g : List A) → ls ≡ pre ++ a ∷ mid → Opens 𝓡 h (after 𝓡 h st pre) a
        → fate 𝓡 h unclosed (after 𝓡 h (after 𝓡 h st pre) (a ∷ [])) mid ≡ unclosed → (after 𝓡 h st ls).group ≡ a ∷ g → Trace h st ls

  trace-kept : (h : Bool) (s : S) (g₀ : List A) (r : R) (l : A) (ls : List A) (o : Outcome S R) → step 𝓡 h (standing s g₀ r) l ≡ o
      → (y : A) (g g₁ : List A) → (next (standing s g₀ r) l o).group ≡ y ∷ g → (after 𝓡 h (standing s g₀ r) (l ∷ ls)).group ≡ y ∷ g₁
      → fate 𝓡 h unclosed (after 𝓡 h (standing s g₀ r) (l ∷ [])) ls ≡ unclosed → Trace h (standing s g₀ r) (l ∷ ls)
  unfolding next after fate fate_at
  trace-kept h s g₀ r l ls (still c s₁) eo y g g₁ e k d = kept y g g₁ e k (ap (λ x. fate_at x (fate 𝓡 h unclosed (after 𝓡 h (standing s g₀ r) (l ∷ [])) ls)) eo ∙ d)
  trace-kept h s g₀ r l ls (filed v) eo y g g₁ e k d = kept y g g₁ e k (ap (λ x. fate_at x (fate 𝓡 h unclosed (after 𝓡 h (standing s g₀ r) (l ∷ [])) ls)) eo ∙ d)
  trace-kept h s [] r l ls joins eo y g g₁ e k d =
      opened [] l ls g₁ refl (subst (λ x. OpensBy {A = A} x []) (sym eo) tt) d (k ∙ ap (◌∷ g₁) (sym (head-eq_of_cons-eq e)))
  trace-kept h s (z ∷ g₀) r l ls joins eo y g g₁ e k d =
      kept z g₀ g₁ refl (k ∙ ap (◌∷ g₁) (sym (head-eq_of_cons-eq e))) (ap (λ x. fate_at x (fate 𝓡 h unclosed (after 𝓡 h (standing s (z ∷ g₀) r) (l ∷ [])) ls)) eo ∙ d)
  trace-kept h s g₀ r l ls (closes v (itself c s₁)) eo y g g₁ e k d = absurd (nil≢cons e)
  trace-kept h s g₀ r l ls (closes v last) eo y g g₁ e k d = absurd (nil≢cons e)
  trace-kept h s g₀ r l ls (closes v fresh) eo y g g₁ e k d =
      opened [] l ls g₁ refl (subst (λ x. OpensBy x g₀) (sym eo) tt) d (k ∙ ap (◌∷ g₁) (sym (head-eq_of_cons-eq e)))

  trace-on : (h : Bool) (st : Standing S A R) (l : A) (ls : List A) → Trace h (next st l (step 𝓡 h st l)) ls → Trace h st (l ∷ ls)
  unfolding after
  trace-on h st l ls (none e) = none e
  trace-on h st l ls (kept y g g₁ e k d) = trace-kept h st.sec st.group st.recs l ls (step 𝓡 h st l) refl y g g₁ e k d
  trace-on h st l ls (opened pre a mid g e t d k) = opened (l ∷ pre) a mid g (ap (l ∷◌) e) t d k

  trace-nil : (h : Bool) (s : S) (g : List A) (r : R) → Trace h (standing s g r) []
  unfolding after fate
  trace-nil h s [] r = none refl
  trace-nil h s (x ∷ g) r = kept x g g refl refl refl

  pub trace : (h : Bool) (ls : List A) (st : Standing S A R) → Trace h st ls
  trace h [] st = trace-nil h st.sec st.group st.recs
  trace h (l ∷ ls) st = trace-on h st l ls (trace h ls (next st l (step 𝓡 h st l)))

  stored-never : (s : S) (w : Stored R) → ClosesBy (of_stored s w) → ⊥
  unfolding of_stored
  stored-never s over t = t
  stored-never s (judged v) t = t

  pub none-closes : (h : Bool) (k : Sort S) (b : Bool) (s : S) (r : R) (l : A) → ClosesBy (act 𝓡 h k b (standing s [] r) l) → ⊥
  unfolding act if_open of_stored
  none-closes h empty b s r l t = t
  none-closes true (heading s₁) b s r l t = t
  none-closes false (heading s₁) b s r l t = t
  none-closes h start true s r l t = t
  none-closes h start false s r l t = stored-never s (𝓡.store s l r) t
  none-closes h other true s r l t = t
  none-closes h other false s r l t = stored-never s (𝓡.store s l r) t

  stop-group : (h : Bool) (s : S) (r : R) (pre : List A) (c : A) (n : ℕ) (own : Own S)
      → step 𝓡 h (after 𝓡 h (standing s [] r) pre) c ≡ closes (bad n) own
      → Trace h (standing s [] r) pre → Stop 𝓡 h (standing s [] r) pre c n (a_group (after 𝓡 h (standing s [] r) pre).group)
  unfolding step
  stop-group h s r pre c n own eo (none e) =
      let st₁ : Standing S A R = after 𝓡 h (standing s [] r) pre in
      let z : ClosesBy (step 𝓡 h (standing st₁.sec st₁.group st₁.recs) c) = subst ClosesBy (sym eo) tt in
      absurd (none-closes h (𝓡.sort c) (𝓡.rules st₁.sec) st₁.sec st₁.recs c
      (subst (λ g. ClosesBy (step 𝓡 h (standing st₁.sec g st₁.recs) c)) e z))
  stop-group h s r pre c n own eo (kept y g g₁ e k d) = absurd (nil≢cons e)
  stop-group h s r pre c n own eo (opened pre₁ a mid g e t d k) =
      let st : Standing S A R = standing s [] r in
      let st₁ : Standing S A R = after 𝓡 h st pre in
      let w : strict_to 𝓡 h st (strike 𝓡 h unclosed st pre ++ (c ∷ [])) ≡ stopped n (a_group (a ∷ g)) st₁.recs =
      to-line h s r pre c ∙ stop-there st₁ c (step 𝓡 h st₁ c) own n (a ∷ g) eo k in
      subst (λ x. Stop 𝓡 h st pre c n (a_group x)) (sym k)
      (is_group pre₁ a mid g e t
      (λ post. (refused-group h s r pre₁ a (mid ++ c ∷ post) n t).1
      (at_line mid c post g refl d
      (subst (λ x. strict_to 𝓡 h st (strike 𝓡 h unclosed st x ++ (c ∷ [])) ≡ stopped n (a_group (a ∷ g)) (after 𝓡 h st x).recs) e w))))

  stop-by : (h : Bool) (s : S) (r : R) (pre : List A) (c : A) (n : ℕ) (p : Piece A) (q : R) (o : Outcome S R)
      → step 𝓡 h (after 𝓡 h (standing s [] r) pre) c ≡ o
      → stop_at (after 𝓡 h (standing s [] r) pre) c o (accepted (next (after 𝓡 h (standing s [] r) pre) c o).recs) ≡ stopped n p q
      → Stop 𝓡 h (standing s [] r) pre c n p
  unfolding stop_at unless mark line_mark
  stop-by h s r pre c n p q (still k s₁) eo e = absurd (subst IsStop (sym e) tt)
  stop-by h s r pre c n p q (filed (good r₁)) eo e = absurd (subst IsStop (sym e) tt)
  stop-by h s r pre c n p q (filed (bad m)) eo e =
      subst (λ x. Stop 𝓡 h (standing s [] r) pre c n x) (ap (piece_from p) e)
      (is_line (λ post. let (f, w) = mark_of-is h (standing s [] r) pre c post in
      w ∙ ap (λ x. mark (after 𝓡 h (standing s [] r) pre) x f) eo ∙ ap (marked refused) (ap reason_from e)))
  stop-by h s r pre c n p q joins eo e = absurd (subst IsStop (sym e) tt)
  stop-by h s r pre c n p q (closes (good r₁) own) eo e = absurd (subst IsStop (sym e) tt)
  stop-by h s r pre c n p q (closes (bad m) own) eo e =
      subst (λ x. Stop 𝓡 h (standing s [] r) pre c n x) (ap (piece_from p) e)
      (stop-group h s r pre c n own (eo ∙ ap (λ k. closes (bad k) own) (ap reason_from e)) (trace h pre (standing s [] r)))

  -- a piece that strict reading stops at is refused by the survey
  pub every-stop : (h : Bool) (s : S) (r : R) (pre : List A) (c : A) (n : ℕ) (p : Piece A) (q : R)
      → strict_to 𝓡 h (standing s [] r) (strike 𝓡 h unclosed (standing s [] r) pre ++ (c ∷ [])) ≡ stopped n p q
      → Stop 𝓡 h (standing s [] r) pre c n p
  every-stop h s r pre c n p q e =
      let st₁ : Standing S A R = after 𝓡 h (standing s [] r) pre in
      stop-by h s r pre c n p q (step 𝓡 h st₁ c) refl (sym (to-line h s r pre c) ∙ e)

  -- ---- where the end of the text closes nothing, the stops of `strict` and of `strict_to` are the same

  stop-too : (o : Outcome S R) (st : Standing S A R) (l : A) (a b : Reply A R) (n : ℕ) (p : Piece A) (q : R)
      → (a ≡ stopped n p q → b ≡ stopped n p q) → stop_at st l o a ≡ stopped n p q → stop_at st l o b ≡ stopped n p q
  unfolding stop_at unless
  stop-too (still c s) st l a b n p q f e = f e
  stop-too (filed (good r)) st l a b n p q f e = f e
  stop-too (filed (bad m)) st l a b n p q f e = e
  stop-too joins st l a b n p q f e = f e
  stop-too (closes (good r) own) st l a b n p q f e = f e
  stop-too (closes (bad m) own) st l a b n p q f e = e

  read-stops : (h : Bool) (ε δ : Standing S A R → Reply A R) (n : ℕ) (p : Piece A) (q : R) → ((st : Standing S A R) → ε st ≡ stopped n p q → ⊥)
      → (ls : List A) (st : Standing S A R) → read 𝓡 h ε st ls ≡ stopped n p q → read 𝓡 h δ st ls ≡ stopped n p q
  unfolding read
  read-stops h ε δ n p q f [] st e = absurd (f st e)
  read-stops h ε δ n p q f (l ∷ ls) st e =
      stop-too (step 𝓡 h st l) st l _ _ n p q (read-stops h ε δ n p q f ls (next st l (step 𝓡 h st l))) e

  pub plain-stops : (ls : List A) (st : Standing S A R) (n : ℕ) (p : Piece A) (q : R)
      → (strict 𝓡 false st ls ≡ stopped n p q) ↔ (strict_to 𝓡 false st ls ≡ stopped n p q)
  unfolding strict strict_to ending end_verdict unless
  plain-stops ls st n p q = (
    read-stops false (ending 𝓡 false) (λ x. accepted x.recs) n p q (λ x e. subst IsStop (sym e) tt) ls st,
    read-stops false (λ x. accepted x.recs) (ending 𝓡 false) n p q (λ x e. subst IsStop (sym e) tt) ls st,
  )

  -- ---- where the end of the text closes the open group, no line is of class 8

  abbrev Closes : Fate → Type 0
  Closes unclosed = ⊥
  Closes approved = Unit {0}
  Closes (rejected n) = Unit {0}

  closes_at : (o : Outcome S R) (f : Fate) → Closes f → Closes (fate_at o f)
  unfolding fate_at fate_of
  closes_at (still c s) f t = t
  closes_at (filed v) f t = t
  closes_at joins f t = t
  closes_at (closes (good r) own) f t = tt
  closes_at (closes (bad n) own) f t = tt

  fate-closes : (h : Bool) (φ : Fate) (ls : List A) (st : Standing S A R) → Closes φ → Closes (fate 𝓡 h φ st ls)
  unfolding fate
  fate-closes h φ [] st t = t
  fate-closes h φ (l ∷ ls) st t = closes_at (step 𝓡 h st l) _ (fate-closes h φ ls (next st l (step 𝓡 h st l)) t)

  not-open : (o : Outcome S R) (s : S) (g : List A) (r : R) (f : Fate) → Closes f → tally 8 (mark (standing s g r) o f).class ≡ 0
  unfolding mark group_mark first_mark line_mark group_class fate_of still_class tally code
  not-open (still is_blank s₁) s g r f t = refl
  not-open (still is_header s₁) s g r f t = refl
  not-open (still is_passed s₁) s g r f t = refl
  not-open (filed (good r₁)) s g r f t = refl
  not-open (filed (bad n)) s g r f t = refl
  not-open joins s g r unclosed t = absurd t
  not-open joins s [] r approved t = refl
  not-open joins s [] r (rejected n) t = refl
  not-open joins s (x ∷ g) r approved t = refl
  not-open joins s (x ∷ g) r (rejected n) t = refl
  not-open (closes v (itself is_blank s₁)) s g r f t = refl
  not-open (closes v (itself is_header s₁)) s g r f t = refl
  not-open (closes v (itself is_passed s₁)) s g r f t = refl
  not-open (closes (good r₁) last) s g r f t = refl
  not-open (closes (bad n) last) s g r f t = refl
  not-open (closes v fresh) s g r unclosed t = absurd t
  not-open (closes v fresh) s g r approved t = refl
  not-open (closes v fresh) s g r (rejected n) t = refl

  none_open : (h : Bool) (φ : Fate) (ls : List A) (st : Standing S A R) → Closes φ → count 8 (marks 𝓡 h φ st ls) ≡ 0
  unfolding count marks
  none_open h φ [] st t = refl
  none_open h φ (l ∷ ls) st t =
      let o : Outcome S R = step 𝓡 h st l in
      ap₂ (λ x y. x + y) (not-open o st.sec st.group st.recs _ (fate-closes h φ ls (next st l o) t)) (none_open h φ ls (next st l o) t)

  pub house-none-open : (st : Standing S A R) (ls : List A) → count 8 (survey_marks 𝓡 true st ls) ≡ 0
  unfolding survey_marks end_fate fate_of
  house-none-open st ls = none_open true _ ls st (go (shut 𝓡 (after 𝓡 true st ls)))
    where
      go : (v : Verdict R) → Closes (fate_of v)
      go (good r) = tt
      go (bad n) = tt
