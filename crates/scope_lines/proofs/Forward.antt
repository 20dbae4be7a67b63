-- The survey as a program makes it, line by line: the marks of the lines read so far, where the lines of the open group have
-- the class `rule_open` until it closes. For the invariant of a loop.
use mathlib.Core.Path.{◌≡◌, refl, ap, ap₂, ◌∙◌}
use mathlib.Core.Bool.{Bool, true, false, cond}
use mathlib.Core.List.{List, [], ◌∷◌, ◌++◌}
use Rattle.scope_lines.proofs.Pieces.{fate-append}
use Rattle.scope_lines.specs.Reader.{Verdict, good, bad, Reader, Standing, standing, Class, blank, header, passed, taken, refused, rule_taken, rule_refused}
use Rattle.scope_lines.specs.Reader.{rule_open, Still, is_blank, is_header, is_passed, still_class, Mark, Fate, unclosed, approved, rejected, itself, last}
use Rattle.scope_lines.specs.Reader.{fresh, Outcome, still, filed, joins, closes, fate_of, group_class, next, fate_at, first_mark, group_mark, line_mark, marked}
use Rattle.scope_lines.specs.Reader.{mark, step, end_fate, after, fate, marks, survey_marks}

unfoldable pub is_open : Class → Bool
is_open blank = false
is_open header = false
is_open passed = false
is_open taken = false
is_open refused = false
is_open rule_taken = false
is_open rule_refused = false
is_open rule_open = true

-- the mark of a line of the group that `f` becomes of, the first or a later one
unfoldable pub open_mark : Bool → Fate → Mark
unfolding first_mark group_class
open_mark false f = first_mark f
open_mark true f = marked (group_class f) 0

-- `f` becomes of the open group: write it to the lines of class rule_open. `later`: the group's first line stands before them.
unfoldable pub refill : Bool → Fate → List Mark → List Mark
unfolding is_open open_mark
refill later f [] = []
refill later f (m ∷ ms) = cond (is_open m.class) (open_mark later f ∷ refill true f ms) (m ∷ refill later f ms)

-- a fate that the lines leave open is `φ`
unfoldable pub fill : Fate → Fate → Fate
fill φ unclosed = φ
fill φ approved = approved
fill φ (rejected n) = rejected n

-- is a group open, and stays so?
unfoldable pub waits : {A : Type 0} → List A → Fate → Bool
waits [] f = false
waits (x ∷ g) unclosed = true
waits (x ∷ g) approved = false
waits (x ∷ g) (rejected n) = false

pub still-shut : (c : Still) → is_open (still_class c) ≡ false
unfolding is_open still_class
still-shut is_blank = refl
still-shut is_header = refl
still-shut is_passed = refl

waits-shut : {A R : Type 0} (g : List A) (v : Verdict R) → waits g (fate_of v) ≡ false
unfolding waits fate_of
waits-shut [] v = refl
waits-shut (x ∷ g) (good r) = refl
waits-shut (x ∷ g) (bad n) = refl

module _ {S A R : Type 0} (𝓡 : Reader S A R) where
  fill-at : (φ f : Fate) (o : Outcome S R) → fate_at o (fill φ f) ≡ fill φ (fate_at o f)
  unfolding fate_at fill fate_of
  fill-at φ f (still c s) = refl
  fill-at φ f (filed v) = refl
  fill-at φ f joins = refl
  fill-at φ f (closes (good r) own) = refl
  fill-at φ f (closes (bad n) own) = refl

  fill-fate : (h : Bool) (φ : Fate) (ls : List A) (st : Standing S A R) → fate 𝓡 h φ st ls ≡ fill φ (fate 𝓡 h unclosed st ls)
  unfolding fate fill
  fill-fate h φ [] st = refl
  fill-fate h φ (l ∷ ls) st =
      ap (fate_at (step 𝓡 h st l)) (fill-fate h φ ls (next st l (step 𝓡 h st l))) ∙ fill-at φ _ (step 𝓡 h st l)

  refill-step : (φ f : Fate) (o : Outcome S R) (s : S) (g : List A) (r : R) (l : A) (ms : List Mark)
      → mark (standing s g r) o (fill φ f) ∷ refill (waits (next (standing s g r) l o).group f) φ ms
      ≡ refill (waits g (fate_at o f)) φ (mark (standing s g r) o f ∷ ms)
  unfolding mark refill waits next fate_at fate_of fill group_mark first_mark line_mark group_class open_mark is_open
  refill-step φ f (still c s₁) s g r l ms = rw (still-shut c)
  refill-step φ f (filed (good r₁)) s g r l ms = refl
  refill-step φ f (filed (bad n)) s g r l ms = refl
  refill-step φ unclosed joins s [] r l ms = refl
  refill-step φ unclosed joins s (x ∷ g) r l ms = refl
  refill-step φ approved joins s [] r l ms = refl
  refill-step φ approved joins s (x ∷ g) r l ms = refl
  refill-step φ (rejected n) joins s [] r l ms = refl
  refill-step φ (rejected n) joins s (x ∷ g) r l ms = refl
  refill-step φ f (closes v (itself c s₁)) s g r l ms = rw (still-shut c, waits-shut g v)
  refill-step φ f (closes (good r₁) last) s g r l ms = rw (waits-shut g (good r₁))
  refill-step φ f (closes (bad n) last) s g r l ms = rw (waits-shut {R = R} g (bad n))
  refill-step φ unclosed (closes v fresh) s g r l ms = rw (waits-shut g v)
  refill-step φ approved (closes v fresh) s g r l ms = rw (waits-shut g v)
  refill-step φ (rejected n) (closes v fresh) s g r l ms = rw (waits-shut g v)

  pub refill-marks : (h : Bool) (φ : Fate) (ls : List A) (st : Standing S A R)
      → marks 𝓡 h φ st ls ≡ refill (waits st.group (fate 𝓡 h unclosed st ls)) φ (marks 𝓡 h unclosed st ls)
  unfolding marks fate refill
  refill-marks h φ [] st = refl
  refill-marks h φ (l ∷ ls) st =
      let o : Outcome S R = step 𝓡 h st l in
      let n : Standing S A R = next st l o in
      ap₂ {C = List Mark} (λ x y. mark st o x ∷ y) (fill-fate h φ ls n) (refill-marks h φ ls n)
      ∙ refill-step φ (fate 𝓡 h unclosed n ls) o st.sec st.group st.recs l (marks 𝓡 h unclosed n ls)

  marks-append : (h : Bool) (φ : Fate) (ls ks : List A) (st : Standing S A R)
      → marks 𝓡 h φ st (ls ++ ks) ≡ marks 𝓡 h (fate 𝓡 h φ (after 𝓡 h st ls) ks) st ls ++ marks 𝓡 h φ (after 𝓡 h st ls) ks
  unfolding marks after
  marks-append h φ [] ks st = refl
  marks-append h φ (l ∷ ls) ks st =
      let o : Outcome S R = step 𝓡 h st l in
      let n : Standing S A R = next st l o in
      ap₂ {C = List Mark} (λ x y. mark st o x ∷ y) (fate-append 𝓡 h φ ls ks n) (marks-append h φ ls ks n)

  -- one more line: the marks so far are refilled with what becomes of the open group at it, and its own mark is added
  pub marks-next : (h : Bool) (s : S) (r : R) (ls : List A) (l : A)
      → let st : Standing S A R = after 𝓡 h (standing s [] r) ls in
      let o : Outcome S R = step 𝓡 h st l in
      marks 𝓡 h unclosed (standing s [] r) (ls ++ (l ∷ []))
      ≡ refill false (fate_at o unclosed) (marks 𝓡 h unclosed (standing s [] r) ls) ++ (mark st o unclosed ∷ [])
  unfolding marks fate waits
  marks-next h s r ls l =
      let st : Standing S A R = after 𝓡 h (standing s [] r) ls in
      marks-append h unclosed ls (l ∷ []) (standing s [] r)
      ∙ ap (λ x. x ++ (mark st (step 𝓡 h st l) unclosed ∷ [])) (refill-marks h _ ls (standing s [] r))

  -- the end
  pub marks-end : (h : Bool) (s : S) (r : R) (ls : List A)
      → survey_marks 𝓡 h (standing s [] r) ls ≡ refill false (end_fate 𝓡 h (after 𝓡 h (standing s [] r) ls)) (marks 𝓡 h unclosed (standing s [] r) ls)
  unfolding survey_marks waits
  marks-end h s r ls = refill-marks h _ ls (standing s [] r)
