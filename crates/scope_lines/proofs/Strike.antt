-- Demand 3, over any reader: strict reading of what is left when the refused pieces are struck. Assumes nothing.
use mathlib.Core.Path.{◌≡◌, refl, ap, sym, ◌∙◌, subst}
use mathlib.Core.Bool.{Bool, true, false, cond, false≢true}
use mathlib.Core.List.{List, [], ◌∷◌, ◌++◌, append-nil}
use Rattle.scope_lines.specs.Reader.{Sort, empty, heading, start, other, Verdict, good, bad, Stored, over, judged, Reader, Standing, standing, Still}
use Rattle.scope_lines.specs.Reader.{is_blank, is_header, is_passed, still_class, Reply, accepted, Fate, unclosed, approved, rejected, itself, last, fresh}
use Rattle.scope_lines.specs.Reader.{Outcome, still, filed, joins, closes, settle, fate_of, group_class, if_open, of_stored, next, unless, stop_at, fate_at}
use Rattle.scope_lines.specs.Reader.{first_mark, group_mark, line_mark, mark, struck, strike_by, shut, act, step, end_verdict, end_fate, read, ending, strict}
use Rattle.scope_lines.specs.Reader.{after, fate, marks, survey_marks, survey_recs, strike}

pub struck-still : (c : Still) → struck (still_class c) ≡ false
unfolding struck still_class
struck-still is_blank = refl
struck-still is_header = refl
struck-still is_passed = refl

-- is the open group, if any, in the struck text?
abbrev Shown : {A : Type 0} → Fate → List A → Type 0
Shown f [] = Unit {0}
Shown unclosed (x ∷ g) = Unit {0}
Shown approved (x ∷ g) = Unit {0}
Shown (rejected n) (x ∷ g) = ⊥

abbrev pub Gone : Fate → Type 0
Gone unclosed = ⊥
Gone approved = ⊥
Gone (rejected n) = Unit {0}

module _ {S A R : Type 0} (𝓡 : Reader S A R) where
  -- The state of strict reading of the struck text, beside the survey's state `st`, where the open group is struck.
  -- In a house text the group before it may still be open, since the RULE line that closed it is struck too.
  abbrev pub Pending : Bool → Standing S A R → Standing S A R → Type 0
  Pending false st st' = st' ≡ standing st.sec [] st.recs
  Pending true st st' =
      (g : List A) × (r : R) × (st' ≡ standing st.sec g r) × (shut 𝓡 (standing st.sec g r) ≡ good st.recs) × (𝓡.rules st.sec ≡ true)

  abbrev pub TwinBy : Bool → Fate → List A → Standing S A R → Standing S A R → Type 0
  TwinBy h f [] st st' = st' ≡ st
  TwinBy h unclosed (x ∷ g) st st' = st' ≡ st
  TwinBy h approved (x ∷ g) st st' = st' ≡ st
  TwinBy h (rejected n) (x ∷ g) st st' = Pending h st st'

  -- ..and where `f` becomes of the open group, if any
  abbrev pub Twin : Bool → Fate → Standing S A R → Standing S A R → Type 0
  Twin h f st st' = TwinBy h f st.group st st'

  -- A line takes twins to twins: the survey does `o` with it, and strict reading does `o'`, unless the line is struck.
  abbrev Goes : Bool → Fate → Standing S A R → Standing S A R → A → Outcome S R → Outcome S R → Type 0
  Goes h f st st' l o o' =
      (st'' : Standing S A R)
      × Twin h f (next st l o) st''
      × ((κ : Standing S A R → Reply A R)
      → cond (struck (mark st o f).class) (κ st') (stop_at st' l o' (κ (next st' l o'))) ≡ κ st'')

  twin-same : (h : Bool) (f : Fate) (g : List A) (st : Standing S A R) → Shown f g → TwinBy h f g st st
  twin-same h f [] st t = refl
  twin-same h unclosed (x ∷ g) st t = refl
  twin-same h approved (x ∷ g) st t = refl
  twin-same h (rejected n) (x ∷ g) st t = absurd t

  -- ---- the open group, if any, is not struck: the two states are one

  same-still : (h : Bool) (f : Fate) (st : Standing S A R) (l : A) (c : Still) (s : S)
      → Shown f (st.group) → Goes h f st st l (still c s) (still c s)
  unfolding next stop_at mark
  same-still h f st l c s t = (standing s st.group st.recs, twin-same h f st.group _ t, λ κ. rw (struck-still c))

  same-filed : (h : Bool) (f : Fate) (st : Standing S A R) (l : A) (v : Verdict R)
      → Shown f (st.group) → Goes h f st st l (filed v) (filed v)
  unfolding next stop_at mark line_mark settle unless struck
  same-filed h f st l (good r) t = (standing st.sec st.group r, twin-same h f st.group _ t, λ κ. refl)
  same-filed h f st l (bad n) t = (st, twin-same h f st.group _ t, λ κ. refl)

  same-joins : (h : Bool) (f : Fate) (s : S) (g : List A) (r : R) (l : A)
      → 𝓡.rules s ≡ true → Shown f g → Goes h f (standing s g r) (standing s g r) l joins joins
  unfolding next stop_at mark group_mark first_mark group_class struck shut if_open
  same-joins h unclosed s [] r l e t = (standing s (l ∷ []) r, refl, λ κ. refl)
  same-joins h unclosed s (x ∷ g) r l e t = (standing s (x ∷ g ++ (l ∷ [])) r, refl, λ κ. refl)
  same-joins h approved s [] r l e t = (standing s (l ∷ []) r, refl, λ κ. refl)
  same-joins h approved s (x ∷ g) r l e t = (standing s (x ∷ g ++ (l ∷ [])) r, refl, λ κ. refl)
  same-joins true (rejected n) s [] r l e t = (standing s [] r, ([], r, refl, refl, e), λ κ. refl)
  same-joins false (rejected n) s [] r l e t = (standing s [] r, refl, λ κ. refl)
  same-joins h (rejected n) s (x ∷ g) r l e t = absurd t

  same-itself : (h : Bool) (f : Fate) (st : Standing S A R) (l : A) (v : Verdict R) (c : Still) (s : S) (x : A) (g : List A)
      → Shown (fate_of v) (x ∷ g) → Goes h f st st l (closes v (itself c s)) (closes v (itself c s))
  unfolding next stop_at mark settle unless fate_of
  same-itself h f st l (good r) c s x g t = (standing s [] r, refl, λ κ. rw (struck-still c))
  same-itself h f st l (bad n) c s x g t = absurd t

  same-last : (h : Bool) (f : Fate) (st : Standing S A R) (l : A) (v : Verdict R) (x : A) (g : List A)
      → Shown (fate_of v) (x ∷ g) → Goes h f st st l (closes v last) (closes v last)
  unfolding next stop_at mark settle unless fate_of group_class struck
  same-last h f st l (good r) x g t = (standing st.sec [] r, refl, λ κ. refl)
  same-last h f st l (bad n) x g t = absurd t

  same-fresh : (f : Fate) (st : Standing S A R) (l : A) (v : Verdict R) (x : A) (g : List A)
      → 𝓡.rules st.sec ≡ true → shut 𝓡 st ≡ v → Shown (fate_of v) (x ∷ g) → Goes true f st st l (closes v fresh) (closes v fresh)
  unfolding next stop_at mark settle unless fate_of first_mark group_class struck
  same-fresh unclosed st l (good r) x g e d t = (standing st.sec (l ∷ []) r, refl, λ κ. refl)
  same-fresh approved st l (good r) x g e d t = (standing st.sec (l ∷ []) r, refl, λ κ. refl)
  same-fresh (rejected n) st l (good r) x g e d t = (st, (st.group, st.recs, refl, d, e), λ κ. refl)
  same-fresh f st l (bad n) x g e d t = absurd t

  same-stored : (h : Bool) (f : Fate) (st : Standing S A R) (l : A) (w : Stored R)
      → Shown (fate_at (of_stored st.sec w) f) st.group → Goes h f st st l (of_stored st.sec w) (of_stored st.sec w)
  unfolding of_stored fate_at
  same-stored h f st l over t = same-still h f st l is_passed st.sec t
  same-stored h f st l (judged v) t = same-filed h f st l v t

  same : (h : Bool) (f : Fate) (k : Sort S) (b : Bool) (s : S) (g : List A) (r : R) (l : A)
      → 𝓡.rules s ≡ b → Shown (fate_at (act 𝓡 h k b (standing s g r) l) f) g
      → Goes h f (standing s g r) (standing s g r) l (act 𝓡 h k b (standing s g r) l) (act 𝓡 h k b (standing s g r) l)
  unfolding act if_open fate_at
  same h f empty b s [] r l e t = same-still h f (standing s [] r) l is_blank s t
  same h f empty b s (x ∷ g) r l e t = same-itself h f (standing s (x ∷ g) r) l (shut 𝓡 (standing s (x ∷ g) r)) is_blank s x g t
  same false f (heading s₁) b s g r l e t = same-still false f (standing s g r) l is_header s₁ t
  same true f (heading s₁) b s [] r l e t = same-still true f (standing s [] r) l is_header s₁ t
  same true f (heading s₁) b s (x ∷ g) r l e t = same-itself true f (standing s (x ∷ g) r) l (shut 𝓡 (standing s (x ∷ g) r)) is_header s₁ x g t
  same h f start true s [] r l e t = same-joins h f s [] r l e t
  same false f start true s (x ∷ g) r l e t = same-last false f (standing s (x ∷ g) r) l (shut 𝓡 (standing s (x ∷ g) r)) x g t
  same true f start true s (x ∷ g) r l e t = same-fresh f (standing s (x ∷ g) r) l (shut 𝓡 (standing s (x ∷ g) r)) x g e refl t
  same h f start false s g r l e t = same-stored h f (standing s g r) l (𝓡.store s l r) t
  same h f other true s g r l e t = same-joins h f s g r l e t
  same h f other false s g r l e t = same-stored h f (standing s g r) l (𝓡.store s l r) t

  -- ---- the open group is struck

  gone-itself : (f : Fate) (s : S) (g : List A) (r : R) (l : A) (v : Verdict R) (c : Still) (s₁ : S)
      → Gone (fate_of v) → Goes false f (standing s g r) (standing s [] r) l (closes v (itself c s₁)) (still c s₁)
  unfolding next stop_at mark settle fate_of
  gone-itself f s g r l (good r₁) c s₁ t = absurd t
  gone-itself f s g r l (bad n) c s₁ t = (standing s₁ [] r, refl, λ κ. rw (struck-still c))

  gone-still : (f : Fate) (s : S) (x : A) (g : List A) (r : R) (l : A) (c : Still) (s₁ : S)
      → Gone f → Goes false f (standing s (x ∷ g) r) (standing s [] r) l (still c s₁) (still c s₁)
  unfolding next stop_at mark
  gone-still unclosed s x g r l c s₁ t = absurd t
  gone-still approved s x g r l c s₁ t = absurd t
  gone-still (rejected n) s x g r l c s₁ t = (standing s₁ [] r, refl, λ κ. rw (struck-still c))

  gone-stored : (f : Fate) (s : S) (x : A) (g : List A) (r : R) (l : A) (w : Stored R)
      → Gone (fate_at (of_stored s w) f) → Goes false f (standing s (x ∷ g) r) (standing s [] r) l (of_stored s w) (of_stored s w)
  unfolding of_stored fate_at next stop_at mark line_mark settle unless struck
  gone-stored f s x g r l over t = gone-still f s x g r l is_passed s t
  gone-stored unclosed s x g r l (judged v) t = absurd t
  gone-stored approved s x g r l (judged v) t = absurd t
  gone-stored (rejected n) s x g r l (judged (good r₁)) t = (standing s [] r₁, refl, λ κ. refl)
  gone-stored (rejected n) s x g r l (judged (bad m)) t = (standing s [] r, refl, λ κ. refl)

  gone-last : (f : Fate) (s : S) (g : List A) (r : R) (l : A) (v : Verdict R) (o' : Outcome S R)
      → Gone (fate_of v) → Goes false f (standing s g r) (standing s [] r) l (closes v last) o'
  unfolding next stop_at mark settle fate_of group_class struck
  gone-last f s g r l (good r₁) o' t = absurd t
  gone-last f s g r l (bad n) o' t = (standing s [] r, refl, λ κ. refl)

  gone-joins : (h : Bool) (f : Fate) (s : S) (x : A) (g : List A) (r : R) (st' : Standing S A R) (l : A) (o' : Outcome S R)
      → Pending h (standing s (x ∷ g) r) st' → Gone f → Goes h f (standing s (x ∷ g) r) st' l joins o'
  unfolding next mark group_mark group_class struck
  gone-joins h unclosed s x g r st' l o' p t = absurd t
  gone-joins h approved s x g r st' l o' p t = absurd t
  gone-joins false (rejected n) s x g r st' l o' p t = (st', p, λ κ. refl)
  gone-joins true (rejected n) s x g r st' l o' p t = (st', p, λ κ. refl)

  gone : (f : Fate) (k : Sort S) (b : Bool) (s : S) (x : A) (g : List A) (r : R) (l : A)
      → Gone (fate_at (act 𝓡 false k b (standing s (x ∷ g) r) l) f)
      → Goes false f (standing s (x ∷ g) r) (standing s [] r) l (act 𝓡 false k b (standing s (x ∷ g) r) l) (act 𝓡 false k b (standing s [] r) l)
  unfolding act if_open fate_at
  gone f empty b s x g r l t = gone-itself f s (x ∷ g) r l (shut 𝓡 (standing s (x ∷ g) r)) is_blank s t
  gone f (heading s₁) b s x g r l t = gone-still f s x g r l is_header s₁ t
  gone f start true s x g r l t = gone-last f s (x ∷ g) r l (shut 𝓡 (standing s (x ∷ g) r)) joins t
  gone f start false s x g r l t = gone-stored f s x g r l (𝓡.store s l r) t
  gone f other true s x g r l t = gone-joins false f s x g r (standing s [] r) l joins refl t
  gone f other false s x g r l t = gone-stored f s x g r l (𝓡.store s l r) t

  -- ---- the same in a house text: what was open before it, `g'`, closes well

  good-inj : (r r₁ : R) → good r ≡ good r₁ → r ≡ r₁
  good-inj r r₁ e = cc

  late-itself : (f : Fate) (s : S) (g : List A) (r : R) (g' : List A) (r' : R) (l : A) (v : Verdict R) (c : Still) (s₁ : S)
      → shut 𝓡 (standing s g' r') ≡ good r → Gone (fate_of v)
      → Goes true f (standing s g r) (standing s g' r') l (closes v (itself c s₁)) (if_open g' (closes (shut 𝓡 (standing s g' r')) (itself c s₁)) (still c s₁))
  unfolding next stop_at mark settle fate_of if_open shut unless
  late-itself f s g r g' r' l (good r₁) c s₁ d t = absurd t
  late-itself f s g r [] r' l (bad n) c s₁ d t =
      (standing s₁ [] r, refl, λ κ. rw (struck-still c) (ap (λ q. κ (standing s₁ [] q)) (good-inj r' r d)))
  late-itself f s g r (x ∷ g') r' l (bad n) c s₁ d t = (standing s₁ [] r, refl, λ κ. rw (struck-still c, d))

  late-fresh : (f : Fate) (s : S) (g : List A) (r : R) (g' : List A) (r' : R) (l : A) (v : Verdict R)
      → 𝓡.rules s ≡ true → shut 𝓡 (standing s g' r') ≡ good r → Gone (fate_of v)
      → Goes true f (standing s g r) (standing s g' r') l (closes v fresh) (if_open g' (closes (shut 𝓡 (standing s g' r')) fresh) joins)
  unfolding next stop_at mark settle fate_of if_open shut unless first_mark group_class struck
  late-fresh f s g r g' r' l (good r₁) e d t = absurd t
  late-fresh (rejected m) s g r g' r' l (bad n) e d t = (standing s g' r', (g', r', refl, d, e), λ κ. refl)
  late-fresh unclosed s g r [] r' l (bad n) e d t = (standing s (l ∷ []) r, refl, λ κ. ap (λ q. κ (standing s (l ∷ []) q)) (good-inj r' r d))
  late-fresh unclosed s g r (x ∷ g') r' l (bad n) e d t = (standing s (l ∷ []) r, refl, λ κ. rw d)
  late-fresh approved s g r [] r' l (bad n) e d t = (standing s (l ∷ []) r, refl, λ κ. ap (λ q. κ (standing s (l ∷ []) q)) (good-inj r' r d))
  late-fresh approved s g r (x ∷ g') r' l (bad n) e d t = (standing s (l ∷ []) r, refl, λ κ. rw d)

  late : (f : Fate) (k : Sort S) (b : Bool) (s : S) (x : A) (g : List A) (r : R) (g' : List A) (r' : R) (l : A)
      → 𝓡.rules s ≡ b → 𝓡.rules s ≡ true → shut 𝓡 (standing s g' r') ≡ good r
      → Gone (fate_at (act 𝓡 true k b (standing s (x ∷ g) r) l) f)
      → Goes true f (standing s (x ∷ g) r) (standing s g' r') l (act 𝓡 true k b (standing s (x ∷ g) r) l) (act 𝓡 true k b (standing s g' r') l)
  unfolding act if_open fate_at
  late f empty b s x g r g' r' l e e' d t = late-itself f s (x ∷ g) r g' r' l (shut 𝓡 (standing s (x ∷ g) r)) is_blank s d t
  late f (heading s₁) b s x g r g' r' l e e' d t = late-itself f s (x ∷ g) r g' r' l (shut 𝓡 (standing s (x ∷ g) r)) is_header s₁ d t
  late f start true s x g r g' r' l e e' d t = late-fresh f s (x ∷ g) r g' r' l (shut 𝓡 (standing s (x ∷ g) r)) e d t
  late f start false s x g r g' r' l e e' d t = absurd (false≢true (sym e ∙ e'))
  late f other true s x g r g' r' l e e' d t = gone-joins true f s x g r (standing s g' r') l joins (g', r', refl, d, e) t
  late f other false s x g r g' r' l e e' d t = absurd (false≢true (sym e ∙ e'))

  -- ---- a line, and any lines

  one-by : (h : Bool) (f F : Fate) (s : S) (g : List A) (r : R) (st' : Standing S A R) (l : A)
      → fate_at (step 𝓡 h (standing s g r) l) f ≡ F → TwinBy h F g (standing s g r) st'
      → Goes h f (standing s g r) st' l (step 𝓡 h (standing s g r) l) (step 𝓡 h st' l)
  unfolding step
  one-by h f F s [] r st' l e p = rw p (same h f (𝓡.sort l) (𝓡.rules s) s [] r l refl tt)
  one-by h f unclosed s (x ∷ g) r st' l e p =
      rw p (same h f (𝓡.sort l) (𝓡.rules s) s (x ∷ g) r l refl (subst (λ q. Shown q (x ∷ g)) (sym e) tt))
  one-by h f approved s (x ∷ g) r st' l e p =
      rw p (same h f (𝓡.sort l) (𝓡.rules s) s (x ∷ g) r l refl (subst (λ q. Shown q (x ∷ g)) (sym e) tt))
  one-by false f (rejected n) s (x ∷ g) r st' l e p =
      rw p (gone f (𝓡.sort l) (𝓡.rules s) s x g r l (subst Gone (sym e) tt))
  one-by true f (rejected n) s (x ∷ g) r st' l e (g', r', p, d, t) =
      rw p (late f (𝓡.sort l) (𝓡.rules s) s x g r g' r' l refl t d (subst Gone (sym e) tt))

  one : (h : Bool) (f : Fate) (st st' : Standing S A R) (l : A) → Twin h (fate_at (step 𝓡 h st l) f) st st'
      → Goes h f st st' l (step 𝓡 h st l) (step 𝓡 h st' l)
  one h f st st' l p = one-by h f (fate_at (step 𝓡 h st l) f) st.sec st.group st.recs st' l refl p

  -- Where strict reading of the struck text stands after the struck lines: in a twin of the survey's state.
  abbrev pub Reads : (Standing S A R → Reply A R) → Bool → Fate → Standing S A R → Standing S A R → List A → List A → Type 0
  Reads ε h φ st st' ls rest =
      (st'' : Standing S A R)
      × Twin h φ (after 𝓡 h st ls) st''
      × (read 𝓡 h ε st' (strike 𝓡 h φ st ls ++ rest) ≡ read 𝓡 h ε st'' rest)

  read-cond : (ε : Standing S A R → Reply A R) (h : Bool) (c : Bool) (st : Standing S A R) (l : A) (ls rest : List A)
      → read 𝓡 h ε st (cond c ls (l ∷ ls) ++ rest)
      ≡ cond c (read 𝓡 h ε st (ls ++ rest)) (stop_at st l (step 𝓡 h st l) (read 𝓡 h ε (next st l (step 𝓡 h st l)) (ls ++ rest)))
  unfolding read
  read-cond ε h true st l ls rest = refl
  read-cond ε h false st l ls rest = refl

  pub reads : (ε : Standing S A R → Reply A R) (h : Bool) (φ : Fate) (ls rest : List A) (st st' : Standing S A R)
      → Twin h (fate 𝓡 h φ st ls) st st' → Reads ε h φ st st' ls rest
  unfolding after strike strike_by marks fate
  reads ε h φ [] rest st st' p = (st', p, refl)
  reads ε h φ (l ∷ ls) rest st st' p =
      let st₀ : Standing S A R = next st l (step 𝓡 h st l) in
      let f : Fate = fate 𝓡 h φ st₀ ls in
      let (st₁, p₁, e₁) = one h f st st' l p in
      let (st₂, p₂, e₂) = reads ε h φ ls rest st₀ st₁ p₁ in (
        st₂,
        p₂,
        read-cond ε h (struck (mark st (step 𝓡 h st l) f).class) st' l (strike 𝓡 h φ st₀ ls) rest
            ∙ e₁ (λ q. read 𝓡 h ε q (strike 𝓡 h φ st₀ ls ++ rest))
            ∙ e₂,
      )

  end_by : (s : S) (g : List A) (r : R) (v : Verdict R) (st' : Standing S A R)
      → shut 𝓡 (standing s g r) ≡ v → TwinBy true (fate_of v) g (standing s g r) st'
      → ending 𝓡 true st' ≡ accepted (𝓡.finish (settle v r))
  unfolding ending end_verdict settle unless fate_of shut if_open
  end_by s [] r v st' e p = rw p (ap (λ q. accepted (𝓡.finish (settle q r))) e)
  end_by s (x ∷ g) r (good r₁) st' e p = rw p (rw e)
  end_by s (x ∷ g) r (bad n) st' e (g', r', p, d, t) = rw p (rw d)

  end : (h : Bool) (s : S) (g : List A) (r : R) (st' : Standing S A R) → Twin h (end_fate 𝓡 h (standing s g r)) (standing s g r) st'
      → ending 𝓡 h st' ≡ accepted (𝓡.finish (settle (end_verdict 𝓡 h (standing s g r)) r))
  unfolding ending end_verdict end_fate settle unless
  end false s [] r st' p = rw p
  end false s (x ∷ g) r st' p = rw p
  end true s g r st' p = end_by s g r (shut 𝓡 (standing s g r)) st' refl p

  -- what is left is accepted
  pub strike-accepts : (h : Bool) (s : S) (r : R) (ls : List A)
      → strict 𝓡 h (standing s [] r) (strike_by (survey_marks 𝓡 h (standing s [] r) ls) ls) ≡ accepted (survey_recs 𝓡 h (standing s [] r) ls)
  unfolding survey_marks survey_recs strike strict read
  strike-accepts h s r ls =
      let st : Standing S A R = standing s [] r in
      let (st', p, e) = reads (ending 𝓡 h) h (end_fate 𝓡 h (after 𝓡 h st ls)) ls [] st st refl in
      let st∞ : Standing S A R = after 𝓡 h st ls in
      ap (strict 𝓡 h st) (sym (append-nil (strike 𝓡 h (end_fate 𝓡 h st∞) st ls))) ∙ e ∙ end h st∞.sec st∞.group st∞.recs st' p
