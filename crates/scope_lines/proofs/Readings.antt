-- Where reasons stand, when nothing is refused, and what a strict reading that stopped holds. Assumes nothing.
use mathlib.Core.Path.{◌≡◌, refl, ap, sym, ◌∙◌, subst}
use mathlib.Core.Bool.{Bool, true, false, cond, false≢true}
use mathlib.Core.List.{List, [], ◌∷◌, ◌++◌}
use mathlib.Core.Logic.{◌↔◌, ◌⊎◌, inl, inr}
use Prim.Native.Nat.{ℕ}
use lib.Dec.{eqb}
use borrow.Author.Tests.{eq-eqb}
use Rattle.scope_lines.specs.Reader.{verdict, Sort, empty, heading, start, other, Verdict, good, bad, Stored, over, judged, Reader, Standing, standing}
use Rattle.scope_lines.specs.Reader.{Class, refused, rule_refused, Mark, marked, Piece, a_group, Reply, accepted, stopped, Fate, unclosed, approved}
use Rattle.scope_lines.specs.Reader.{rejected, Own, itself, last, fresh, Outcome, still, filed, joins, closes, settle, fate_of, group_class, reason_of}
use Rattle.scope_lines.specs.Reader.{if_open, of_stored, next, unless, stop_at, fate_at, first_mark, group_mark, line_mark, mark, struck, strike_by, shut, act}
use Rattle.scope_lines.specs.Reader.{step, end_verdict, end_fate, read, ending, strict, strict_to, after, fate, marks, survey_marks, survey_recs}
use Rattle.scope_lines.specs.Text.{nothing, each}
use Rattle.scope_lines.specs.Demand3.{OpensBy, mark_of, Opens}
use Rattle.scope_lines.specs.Readings.{NoneStruck, Fair, RefusedFrom, where_closed, where_ended, ReasonStands, StoppedAt, stop_line, stop_group, stop_end}
use Rattle.scope_lines.proofs.Strike.{strike-accepts, struck-still, Gone}
use Rattle.scope_lines.proofs.Pieces.{IsStop, reason_from, piece_from, mark_of-is, refused-only, mark_of-first, first-rejected, Closed, by_line, by_end}
use Rattle.scope_lines.proofs.Pieces.{closing, opens-group, after_open, rejected-inj, end-stops, end-rejected}

-- ---- what a line that is judged, or that closes a group, was judged by

abbrev IsGood : {R : Type 0} → Verdict R → Type 0
IsGood (good r) = Unit {0}
IsGood (bad n) = ⊥

abbrev number_in : {R : Type 0} → Verdict R → ℕ
number_in (good r) = 0
number_in (bad n) = n

abbrev FiledAs : {S R : Type 0} → Verdict R → Outcome S R → Type 0
FiledAs v (still c s) = ⊥
FiledAs v (filed w) = w ≡ v
FiledAs v joins = ⊥
FiledAs v (closes w own) = ⊥

abbrev ClosesAs : {S R : Type 0} → Verdict R → Outcome S R → Type 0
ClosesAs v (still c s) = ⊥
ClosesAs v (filed w) = ⊥
ClosesAs v joins = ⊥
ClosesAs v (closes w own) = w ≡ v

-- a verdict by number is fair
pub verdict-fair : {R : Type 0} (k : ℕ) (r : R) (n : ℕ) → verdict k r ≡ bad n → n ≡ 0 → ⊥
verdict-fair k r n e z = go (eqb k 0) refl e
  where
    go : (t : Bool) → eqb k 0 ≡ t → cond t (good r) (bad k) ≡ bad n → ⊥
    go true b d = subst IsGood d tt
    go false b d = false≢true (sym b ∙ eq-eqb k 0 (ap number_in d ∙ z))

module _ {S A R : Type 0} (𝓡 : Reader S A R) where
  stored-filed : (s : S) (x : Stored R) (v : Verdict R) → FiledAs v (of_stored s x) → x ≡ judged v
  unfolding of_stored
  stored-filed s over v t = absurd t
  stored-filed s (judged w) v t = ap judged t

  stored-closes : (s : S) (x : Stored R) (v : Verdict R) → ClosesAs v (of_stored s x) → ⊥
  unfolding of_stored
  stored-closes s over v t = t
  stored-closes s (judged w) v t = t

  act-filed : (h : Bool) (k : Sort S) (b : Bool) (s : S) (g : List A) (r : R) (l : A) (v : Verdict R)
      → FiledAs v (act 𝓡 h k b (standing s g r) l) → 𝓡.store s l r ≡ judged v
  unfolding act if_open
  act-filed h empty b s [] r l v t = absurd t
  act-filed h empty b s (x ∷ g) r l v t = absurd t
  act-filed false (heading s₁) b s g r l v t = absurd t
  act-filed true (heading s₁) b s [] r l v t = absurd t
  act-filed true (heading s₁) b s (x ∷ g) r l v t = absurd t
  act-filed h start true s [] r l v t = absurd t
  act-filed h start true s (x ∷ g) r l v t = absurd t
  act-filed h start false s g r l v t = stored-filed s (𝓡.store s l r) v t
  act-filed h other true s g r l v t = absurd t
  act-filed h other false s g r l v t = stored-filed s (𝓡.store s l r) v t

  act-closes : (h : Bool) (k : Sort S) (b : Bool) (s : S) (g : List A) (r : R) (l : A) (v : Verdict R)
      → ClosesAs v (act 𝓡 h k b (standing s g r) l) → 𝓡.close g r ≡ v
  unfolding act if_open shut
  act-closes h empty b s [] r l v t = absurd t
  act-closes h empty b s (x ∷ g) r l v t = t
  act-closes false (heading s₁) b s g r l v t = absurd t
  act-closes true (heading s₁) b s [] r l v t = absurd t
  act-closes true (heading s₁) b s (x ∷ g) r l v t = t
  act-closes h start true s [] r l v t = absurd t
  act-closes h start true s (x ∷ g) r l v t = t
  act-closes h start false s g r l v t = absurd (stored-closes s (𝓡.store s l r) v t)
  act-closes h other true s g r l v t = absurd t
  act-closes h other false s g r l v t = absurd (stored-closes s (𝓡.store s l r) v t)

  pub step-filed : (h : Bool) (st : Standing S A R) (l : A) (v : Verdict R) → step 𝓡 h st l ≡ filed v → 𝓡.store st.sec l st.recs ≡ judged v
  unfolding step
  step-filed h st l v e = act-filed h (𝓡.sort l) (𝓡.rules st.sec) st.sec st.group st.recs l v (subst (FiledAs v) (sym e) refl)

  pub step-closes : (h : Bool) (st : Standing S A R) (l : A) (v : Verdict R) (own : Own S) → step 𝓡 h st l ≡ closes v own → 𝓡.close st.group st.recs ≡ v
  unfolding step
  step-closes h st l v own e = act-closes h (𝓡.sort l) (𝓡.rules st.sec) st.sec st.group st.recs l v (subst (ClosesAs v) (sym e) refl)

  -- the end of a house text refuses the open group
  end-close : (h : Bool) (st : Standing S A R) (n : ℕ) → end_fate 𝓡 h st ≡ rejected n → 𝓡.close st.group st.recs ≡ bad n
  unfolding end_fate shut if_open fate_of
  end-close false st n e = absurd (subst Gone (sym e) tt)
  end-close true st n e = go st.group st.recs e
    where
      by : (v : Verdict R) → fate_of v ≡ rejected n → v ≡ bad n
      by (good r) e = absurd (subst Gone (sym e) tt)
      by (bad m) e = ap bad (rejected-inj e)

      go : (g : List A) (r : R) → fate_of (shut 𝓡 (standing st.sec g r)) ≡ rejected n → 𝓡.close g r ≡ bad n
      go [] r e = absurd (subst Gone (sym e) tt)
      go (x ∷ g) r e = by (𝓡.close (x ∷ g) r) e

  -- ---- where reasons stand

  first-only : (f : Fate) → ((first_mark f).reason ≡ 0 → ⊥) → (first_mark f).class ≡ rule_refused
  unfolding first_mark reason_of group_class
  first-only unclosed nz = absurd (nz refl)
  first-only approved nz = absurd (nz refl)
  first-only (rejected n) nz = refl

  only-by : (o : Outcome S R) (s : S) (g : List A) (r : R) (f : Fate) → ((mark (standing s g r) o f).reason ≡ 0 → ⊥)
      → ((mark (standing s g r) o f).class ≡ refused) ⊎ (((mark (standing s g r) o f).class ≡ rule_refused) × OpensBy o g)
  unfolding mark line_mark group_mark
  only-by (still c s₁) s g r f nz = absurd (nz refl)
  only-by (filed (good q)) s g r f nz = absurd (nz refl)
  only-by (filed (bad n)) s g r f nz = inl refl
  only-by joins s [] r f nz = inr (first-only f nz, tt)
  only-by joins s (x ∷ g) r f nz = absurd (nz refl)
  only-by (closes v (itself c s₁)) s g r f nz = absurd (nz refl)
  only-by (closes v last) s g r f nz = absurd (nz refl)
  only-by (closes v fresh) s g r f nz = inr (first-only f nz, tt)

  module _ (h : Bool) (st : Standing S A R) (pre : List A) (l : A) (post : List A) where
    abbrev st₁ : Standing S A R
    st₁ = after 𝓡 h st pre

    abbrev m : Mark
    m = mark_of 𝓡 h st pre l post

    as-marked : (c : Class) → m.class ≡ c → m ≡ marked c m.reason
    as-marked c e = ap (λ x. marked x m.reason) e

    from-closed : (n : ℕ) → Closed 𝓡 h (end_fate 𝓡 h (after 𝓡 h st (pre ++ l ∷ post))) (after 𝓡 h st₁ (l ∷ [])) l n post → RefusedFrom 𝓡 h st pre l post n
    from-closed n (by_line mid c post' g own e d p q) =
        let w = sym (after_open 𝓡 h st pre l mid) in
        let q₁ : step 𝓡 h (after 𝓡 h st (pre ++ l ∷ mid)) c ≡ closes (bad n) own = subst (λ x. step 𝓡 h x c ≡ closes (bad n) own) w q in
        where_closed mid c post' g e (subst (λ (x : Standing S A R). x.group ≡ l ∷ g) w p)
        (step-closes h (after 𝓡 h st (pre ++ l ∷ mid)) c (bad n) own q₁)
    from-closed n (by_end g d p q) =
        let w = sym (after_open 𝓡 h st pre l post) in
        where_ended g (subst (λ (x : Standing S A R). x.group ≡ l ∷ g) w p) (end-close h (after 𝓡 h st (pre ++ l ∷ post)) n q)

    pub reason-stands : ReasonStands 𝓡 h st pre l post m
    unfolding after
    reason-stands = record {
      only-there = λ nz. let (f, e) = mark_of-is 𝓡 h st pre l post in
          subst (λ (x : Mark). (x.class ≡ refused) ⊎ ((x.class ≡ rule_refused) × Opens 𝓡 h st₁ l)) (sym e)
          (only-by (step 𝓡 h st₁ l) st₁.sec st₁.group st₁.recs f (subst (λ (x : Mark). x.reason ≡ 0 → ⊥) e nz));
      of-line = λ c. let (f, e) = mark_of-is 𝓡 h st pre l post in
          step-filed h st₁ l (bad m.reason) (refused-only 𝓡 (step 𝓡 h st₁ l) st₁ f m.reason (sym e ∙ as-marked refused c));
      of-group = λ c t. from-closed m.reason
          (closing 𝓡 h _ l m.reason post (after 𝓡 h st₁ (l ∷ [])) [] (opens-group (step 𝓡 h st₁ l) st₁.sec st₁.group st₁.recs l t)
          (first-rejected _ m.reason (sym (mark_of-first 𝓡 h st pre l post t) ∙ as-marked rule_refused c)));
    }

    -- ..and none of them is 0
    fair-group : (n : ℕ) → Fair 𝓡 → RefusedFrom 𝓡 h st pre l post n → n ≡ 0 → ⊥
    fair-group n fair (where_closed mid c post' g e p q) = fair.groups-fair _ _ n q
    fair-group n fair (where_ended g p q) = fair.groups-fair _ _ n q

    pub reason-fair : Fair 𝓡 → (m.class ≡ refused) ⊎ ((m.class ≡ rule_refused) × Opens 𝓡 h st₁ l) → m.reason ≡ 0 → ⊥
    reason-fair fair (inl c) = fair.lines-fair _ l _ m.reason (reason-stands.of-line c)
    reason-fair fair (inr (c, t)) = fair-group m.reason fair (reason-stands.of-group c t)

  -- ---- an acceptance is a survey without refusals

  abbrev recs_from : R → Reply A R → R
  recs_from d (accepted r) = r
  recs_from d (stopped n p r) = r

  accepted-inj : (r q : R) → ◌≡◌ {A = Reply A R} (accepted r) (accepted q) → r ≡ q
  accepted-inj r q e = ap (recs_from r) e

  fate-unstruck : (f : Fate) → (Gone f → ⊥) → struck (group_class f) ≡ false
  unfolding struck group_class
  fate-unstruck unclosed k = refl
  fate-unstruck approved k = refl
  fate-unstruck (rejected n) k = absurd (k tt)

  joins-unstruck : (g : List A) (f : Fate) → (Gone f → ⊥) → struck (group_mark g f).class ≡ false
  unfolding group_mark first_mark
  joins-unstruck [] f k = fate-unstruck f k
  joins-unstruck (x ∷ g) f k = fate-unstruck f k

  -- what a line does to a strict reading that is accepted
  unstruck : (o : Outcome S R) (st : Standing S A R) (l : A) (a : Reply A R) (r : R) (f : Fate) → stop_at st l o a ≡ accepted r
      → (a ≡ accepted r → Gone f → ⊥)
      → (a ≡ accepted r) × (Gone (fate_at o f) → ⊥) × (struck (mark st o f).class ≡ false)
  unfolding stop_at unless fate_at fate_of mark line_mark first_mark group_class struck
  unstruck (still c s) st l a r f e k = (e, k e, struck-still c)
  unstruck (filed (good q)) st l a r f e k = (e, k e, refl)
  unstruck (filed (bad n)) st l a r f e k = absurd (subst IsStop e tt)
  unstruck joins st l a r f e k = (e, k e, joins-unstruck st.group f (k e))
  unstruck (closes (good q) (itself c s)) st l a r f e k = (e, (λ t. t), struck-still c)
  unstruck (closes (good q) last) st l a r f e k = (e, (λ t. t), refl)
  unstruck (closes (good q) fresh) st l a r f e k = (e, (λ t. t), fate-unstruck f (k e))
  unstruck (closes (bad n) own) st l a r f e k = absurd (subst IsStop e tt)

  end-accepts : (h : Bool) (st : Standing S A R) (r : R) → ending 𝓡 h st ≡ accepted r
      → (Gone (end_fate 𝓡 h st) → ⊥) × (𝓡.finish (settle (end_verdict 𝓡 h st) st.recs) ≡ r)
  unfolding ending end_fate end_verdict
  end-accepts false st r e = ((λ t. t), accepted-inj _ r e)
  end-accepts true st r e = go (shut 𝓡 st) e
    where
      go : (v : Verdict R) → unless v (a_group st.group) st.recs (accepted (𝓡.finish (settle v st.recs))) ≡ accepted r
          → (Gone (fate_of v) → ⊥) × (𝓡.finish (settle v st.recs) ≡ r)
      go (good q) e = ((λ t. t), accepted-inj _ r e)
      go (bad n) e = absurd (subst IsStop e tt)

  accepts : (h : Bool) (ls : List A) (st : Standing S A R) (r : R) → strict 𝓡 h st ls ≡ accepted r
      → (Gone (fate 𝓡 h (end_fate 𝓡 h (after 𝓡 h st ls)) st ls) → ⊥) × NoneStruck (survey_marks 𝓡 h st ls) × (survey_recs 𝓡 h st ls ≡ r)
  unfolding strict read after fate marks survey_marks survey_recs
  accepts h [] st r e = let (k, w) = end-accepts h st r e in (k, nothing, w)
  accepts h (l ∷ ls) st r e =
      let o : Outcome S R = step 𝓡 h st l in
      let n : Standing S A R = next st l o in
      let (a, k, u) = unstruck o st l (strict 𝓡 h n ls) r (fate 𝓡 h (end_fate 𝓡 h (after 𝓡 h n ls)) n ls) e (λ a. (accepts h ls n r a).0) in
      let (k₁, ms, w) = accepts h ls n r a in
      (k, each u ms, w)

  strike-none : {X : Type 0} {ms : List Mark} → NoneStruck ms → (ls : List X) → strike_by ms ls ≡ ls
  unfolding strike_by
  strike-none nothing ls = refl
  strike-none (each u ms) [] = refl
  strike-none (each {x} {xs} u ms) (l ∷ ls) = ap (λ b. cond b (strike_by xs ls) (l ∷ strike_by xs ls)) u ∙ ap (l ∷◌) (strike-none ms ls)

  -- strict reading accepts a text, with records r, exactly where the survey refuses nothing, and has the records r
  pub accepts-alike : (h : Bool) (s : S) (r₀ : R) (ls : List A) (r : R)
      → (strict 𝓡 h (standing s [] r₀) ls ≡ accepted r)
      ↔ (NoneStruck (survey_marks 𝓡 h (standing s [] r₀) ls) × (survey_recs 𝓡 h (standing s [] r₀) ls ≡ r))
  accepts-alike h s r₀ ls r =
      let st : Standing S A R = standing s [] r₀ in (
        (λ e. let (k, ms, w) = accepts h ls st r e in (ms, w)),
        λ (ms, w). ap (strict 𝓡 h st) (sym (strike-none ms ls)) ∙ strike-accepts 𝓡 h s r₀ ls ∙ ap accepted w,
      )

  -- ---- what a strict reading that stopped holds

  -- a line that refuses nothing: the reading goes on
  stopped-on : (h : Bool) (st : Standing S A R) (l : A) (ls : List A) (n : ℕ) (p : Piece A) (r : R)
      → ((a : Reply A R) → stop_at st l (step 𝓡 h st l) a ≡ a) → StoppedAt 𝓡 h (next st l (step 𝓡 h st l)) ls n p r → StoppedAt 𝓡 h st (l ∷ ls) n p r
  unfolding after strict_to read
  stopped-on h st l ls n p r k (stop_line pre c post e a w d q) = stop_line (l ∷ pre) c post (ap (l ∷◌) e) (k _ ∙ a) w d q
  stopped-on h st l ls n p r k (stop_group pre c post e a w d q) = stop_group (l ∷ pre) c post (ap (l ∷◌) e) (k _ ∙ a) w d q
  stopped-on h st l ls n p r k (stop_end a w d q) = stop_end (k _ ∙ a) w d q

  stopped_by : (h : Bool) (st : Standing S A R) (l : A) (ls : List A) (n : ℕ) (p : Piece A) (r : R) (o : Outcome S R) → step 𝓡 h st l ≡ o
      → stop_at st l o (strict 𝓡 h (next st l o) ls) ≡ stopped n p r
      → (strict 𝓡 h (next st l o) ls ≡ stopped n p r → StoppedAt 𝓡 h (next st l o) ls n p r) → StoppedAt 𝓡 h st (l ∷ ls) n p r
  unfolding stop_at unless after strict_to read
  stopped_by h st l ls n p r (still c s) eo e ih =
      stopped-on h st l ls n p r (λ a. ap (λ x. stop_at st l x a) eo) (subst (λ x. StoppedAt 𝓡 h (next st l x) ls n p r) (sym eo) (ih e))
  stopped_by h st l ls n p r (filed (good q)) eo e ih =
      stopped-on h st l ls n p r (λ a. ap (λ x. stop_at st l x a) eo) (subst (λ x. StoppedAt 𝓡 h (next st l x) ls n p r) (sym eo) (ih e))
  stopped_by h st l ls n p r (filed (bad m)) eo e ih =
      let z : st.recs ≡ r = ap (recs_from r) e in
      stop_line [] l ls refl (ap accepted z) z (sym (ap (piece_from p) e)) (step-filed h st l (bad n) (eo ∙ ap (λ x. filed (bad x)) (ap reason_from e)))
  stopped_by h st l ls n p r joins eo e ih =
      stopped-on h st l ls n p r (λ a. ap (λ x. stop_at st l x a) eo) (subst (λ x. StoppedAt 𝓡 h (next st l x) ls n p r) (sym eo) (ih e))
  stopped_by h st l ls n p r (closes (good q) own) eo e ih =
      stopped-on h st l ls n p r (λ a. ap (λ x. stop_at st l x a) eo) (subst (λ x. StoppedAt 𝓡 h (next st l x) ls n p r) (sym eo) (ih e))
  stopped_by h st l ls n p r (closes (bad m) own) eo e ih =
      let z : st.recs ≡ r = ap (recs_from r) e in
      stop_group [] l ls refl (ap accepted z) z (sym (ap (piece_from p) e))
      (step-closes h st l (bad n) own (eo ∙ ap (λ x. closes (bad x) own) (ap reason_from e)))

  stopped-end : (h : Bool) (st : Standing S A R) (n : ℕ) (p : Piece A) (r : R) → ending 𝓡 h st ≡ stopped n p r → StoppedAt 𝓡 h st [] n p r
  unfolding after strict_to read
  stopped-end h st n p r e =
      let f = end-stops 𝓡 h st n p r e in
      let w : stopped n (a_group st.group) st.recs ≡ stopped n p r = sym (end-rejected 𝓡 h st n f) ∙ e in
      let z : st.recs ≡ r = ap (recs_from r) w in
      stop_end (ap accepted z) z (sym (ap (piece_from p) w)) (end-close h st n f)

  -- strict reading that stops holds what the lines before the stop stored
  pub stopped-at : (h : Bool) (ls : List A) (st : Standing S A R) (n : ℕ) (p : Piece A) (r : R) → strict 𝓡 h st ls ≡ stopped n p r → StoppedAt 𝓡 h st ls n p r
  unfolding strict read
  stopped-at h [] st n p r e = stopped-end h st n p r e
  stopped-at h (l ∷ ls) st n p r e = stopped_by h st l ls n p r (step 𝓡 h st l) refl e (stopped-at h ls (next st l (step 𝓡 h st l)) n p r)
