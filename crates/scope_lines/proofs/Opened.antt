-- A survey's tables while a group is open: its lines have the class 8 and no reason, from its first line on; when it closes they are
-- filled in. Assumes nothing.
use Prim.Native.Nat.{ℕ, suc, ◌-◌, ◌≤◌, ◌<◌}
use native.Mathlib.Omega.{arith}
use borrow.Author.Tests.{ne_eqb}
use mathlib.Core.Path.{◌≡◌, refl, sym, ap, ◌∙◌, subst}
use mathlib.Core.Bool.{Bool, true, false, cond, false≢true}
use mathlib.Core.List.{List, [], ◌∷◌, ◌++◌, append_assoc}
use lib.ListN.{length, set, length-append}
use lib.Dec.{eqb}
use Rattle.scope_lines.specs.Reader.{Reader, Standing, standing, Sort, empty, heading, start, other, Stored, over, judged, Verdict, good, bad, rule_open}
use Rattle.scope_lines.specs.Reader.{refused, Own, Mark, marked, Fate, unclosed, approved, rejected, Outcome, still, filed, joins, closes, itself, last}
use Rattle.scope_lines.specs.Reader.{fresh, fate_of, group_class, reason_of, fate_at, first_mark, group_mark, line_mark, mark, next, code, a_group, if_open}
use Rattle.scope_lines.specs.Reader.{of_stored, act, step}
use Rattle.scope_lines.specs.Text.{Line, piece_no}
use Rattle.scope_lines.specs.Turn.{refusal_in, fine_in, refusal, fine, closed_by, piece_by}
use Rattle.scope_lines.specs.Tables.{code_of, reason_in, marks_in, refilled}
use Rattle.scope_lines.proofs.Forward.{is_open, open_mark, refill, still-shut}
use Rattle.scope_lines.proofs.Marks.{mark_set, mark-zero, Shut, shut[], shut∷, Quiet, quiet[], quiet∷, open-class, refill-length, classes-refilled, reasons-refilled, reasons-kept}

-- ---- the marks of the open group begin at its first line

pub data Opened : List Line → List Mark → Type 0 where
  opened[] : {ms : List Mark} → Shut ms → Opened [] ms
  opened∷ : {x : Line} {g : List Line} {old new : List Mark} → Shut old → Quiet new → x.no ≡ suc (length old)
      → Opened (x ∷ g) (old ++ marked rule_open 0 ∷ new)

shut-snoc : {ms : List Mark} (mk : Mark) → Shut ms → is_open mk.class ≡ false → Shut (ms ++ (mk ∷ []))
shut-snoc mk shut[] o = shut∷ o shut[]
shut-snoc mk (shut∷ p s) o = shut∷ p (shut-snoc mk s o)

quiet-snoc : {ms : List Mark} (mk : Mark) → Quiet ms → (is_open mk.class ≡ true → mk.reason ≡ 0) → Quiet (ms ++ (mk ∷ []))
quiet-snoc mk quiet[] o = quiet∷ o quiet[]
quiet-snoc mk (quiet∷ p s) o = quiet∷ p (quiet-snoc mk s o)

line-shut : {R : Type 0} (v : Verdict R) → is_open (line_mark v).class ≡ false
unfolding is_open line_mark
line-shut (good r) = refl
line-shut (bad n) = refl

fate-shut : {R : Type 0} (v : Verdict R) → is_open (group_class (fate_of v)) ≡ false
unfolding is_open group_class fate_of
fate-shut (good r) = refl
fate-shut (bad n) = refl

refill-shut : {R : Type 0} (v : Verdict R) (b : Bool) (ms : List Mark) → Shut (refill b (fate_of v) ms)
unfolding refill
refill-shut v b [] = shut[]
refill-shut v b (m ∷ ms) = go (is_open m.class) refl (refill-shut v true ms) (refill-shut v b ms)
  where
    go : (t : Bool) → is_open m.class ≡ t → Shut (refill true (fate_of v) ms) → Shut (refill b (fate_of v) ms)
        → Shut (cond t (open_mark b (fate_of v) ∷ refill true (fate_of v) ms) (m ∷ refill b (fate_of v) ms))
    go true e p q = shut∷ (ap is_open (open-class b (fate_of v)) ∙ fate-shut v) p
    go false e p q = shut∷ e q

-- one mark more after the open group's first
grow : {x : Line} {g : List Line} {old new : List Mark} (mk : Mark) → Shut old → Quiet new → x.no ≡ suc (length old)
    → (is_open mk.class ≡ true → mk.reason ≡ 0) → Opened (x ∷ g) ((old ++ marked rule_open 0 ∷ new) ++ (mk ∷ []))
grow {x} {g} {old} {new} mk s q e o =
    subst (Opened (x ∷ g)) (sym (append_assoc old (marked rule_open 0 ∷ new) (mk ∷ []))) (opened∷ s (quiet-snoc mk q o) e)

shut-off : {X : Type 0} {t : Bool} → t ≡ false → t ≡ true → X
shut-off a b = absurd (false≢true (sym a ∙ b))

pub opened-next : {S R : Type 0} (s : S) (r : R) (l : Line) (o : Outcome S R) {g : List Line} {ms : List Mark} → Opened g ms
    → refill false unclosed ms ≡ ms → l.no ≡ suc (length ms)
    → Opened (next (standing s g r) l o).group (refill false (fate_at o unclosed) ms ++ (mark (standing s g r) o unclosed ∷ []))
unfolding next fate_at mark first_mark group_mark group_class reason_of
opened-next s r l (still c x) (opened[] p) z n = rw z (opened[] (shut-snoc _ p (still-shut c)))
opened-next s r l (still c x) (opened∷ p q e) z n = rw z (grow _ p q e (λ t. shut-off (still-shut c) t))
opened-next s r l (filed v) (opened[] p) z n = rw z (opened[] (shut-snoc _ p (line-shut v)))
opened-next s r l (filed v) (opened∷ p q e) z n = rw z (grow _ p q e (λ t. shut-off (line-shut v) t))
opened-next s r l joins (opened[] p) z n = rw z (opened∷ p quiet[] n)
opened-next s r l joins (opened∷ p q e) z n = rw z (grow _ p q e (λ t. refl))
opened-next s r l (closes v (itself c x)) {ms = ms} p z n = opened[] (shut-snoc _ (refill-shut v false ms) (still-shut c))
opened-next s r l (closes v last) {ms = ms} p z n = opened[] (shut-snoc _ (refill-shut v false ms) (fate-shut v))
opened-next s r l (closes v fresh) {ms = ms} p z n = opened∷ (refill-shut v false ms) quiet[] (n ∙ ap suc (sym (refill-length false (fate_of v) ms)))

-- ---- a line that closes a group has one to close

module _ {S A R : Type 0} (𝓡 : Reader S A R) where
  stored-closed : (s : S) (x : Stored R) → closed_by (of_stored s x) ≡ 0
  unfolding closed_by of_stored
  stored-closed s over = refl
  stored-closed s (judged v) = refl

  act-open : (h : Bool) (k : Sort S) (b : Bool) (m : Standing S A R) (l : A) → m.group ≡ [] → closed_by (act 𝓡 h k b m l) ≡ 0
  unfolding act if_open closed_by
  act-open h empty b m l e = rw e
  act-open true (heading x) b m l e = rw e
  act-open false (heading x) b m l e = refl
  act-open h start true m l e = rw e
  act-open h start false m l e = stored-closed m.sec (𝓡.store m.sec l m.recs)
  act-open h other true m l e = refl
  act-open h other false m l e = stored-closed m.sec (𝓡.store m.sec l m.recs)

  pub none-closed : (h : Bool) (m : Standing S A R) (l : A) → m.group ≡ [] → closed_by (step 𝓡 h m l) ≡ 0
  unfolding step
  none-closed h m l e = act-open h (𝓡.sort l) (𝓡.rules m.sec) m l e

some-piece : {S R : Type 0} (m : Standing S Line R) (l : Line) (o : Outcome S R) → 0 < piece_no (a_group m.group) → (closed_by o ≡ 0 → ⊥) → 0 < piece_by m l o
unfolding closed_by piece_by
some-piece m l (still c s) h z = absurd (z refl)
some-piece m l (filed v) h z = absurd (z refl)
some-piece m l joins h z = absurd (z refl)
some-piece m l (closes v own) h z = h

pub has-piece : {S R : Type 0} (𝓡 : Reader S Line R) (h : Bool) (m : Standing S Line R) (l : Line) {ms : List Mark} → Opened m.group ms
    → (closed_by (step 𝓡 h m l) ≡ 0 → ⊥) → 0 < piece_by m l (step 𝓡 h m l)
unfolding piece_no
has-piece 𝓡 h m l p z = go m.group refl p
  where
    go : (g : List Line) {ms : List Mark} → m.group ≡ g → Opened g ms → 0 < piece_by m l (step 𝓡 h m l)
    go g e (opened[] q) = absurd (z (none-closed 𝓡 h m l e))
    go g e (opened∷ q r n) = some-piece m l (step 𝓡 h m l) (rw e (omega arith)) z

-- ---- the tables, one line further

module _ {S R : Type 0} (s : S) (r : R) (l : Line) (n : ℕ) where
  abbrev pub next_marks : List Line → Outcome S R → List Mark → List Mark
  next_marks g o ms = refill false (fate_at o unclosed) ms ++ (mark (standing s g r) o unclosed ∷ [])

  pub piece-le : (o : Outcome S R) {g : List Line} {ms : List Mark} → Opened g ms → (closed_by o ≡ 0 → ⊥) → piece_by (standing s g r) l o ≤ length ms
  unfolding closed_by piece_by piece_no
  piece-le (still c x) p z = absurd (z refl)
  piece-le (filed v) p z = absurd (z refl)
  piece-le joins p z = absurd (z refl)
  piece-le (closes v own) (opened[] p) z = omega arith
  piece-le (closes v own) (opened∷ {x} {g} {old} {new} p q e) z = omega (arith, length-append old (marked rule_open 0 ∷ new))

  closed_some : (v : Verdict R) → code (group_class (fate_of v)) ≡ 0 → ⊥
  unfolding code group_class fate_of
  closed_some (good q) e = omega arith
  closed_some (bad k) e = omega arith

  pub reason-piece : (o : Outcome S R) {g : List Line} {ms : List Mark} → Opened g ms → l.no ≡ suc (length ms) → ((closed_by o ≡ 0 → ⊥) → 0 < piece_by (standing s g r) l o)
      → (refusal o ≡ 0 → ⊥) → (0 < piece_by (standing s g r) l o) × (piece_by (standing s g r) l o ≤ suc (length ms))
  unfolding refusal closed_by piece_by
  reason-piece (still c x) p e h z = absurd (z refl)
  reason-piece (filed v) p e h z = (omega arith, omega arith)
  reason-piece joins p e h z = absurd (z refl)
  reason-piece (closes v own) {g} {ms} p e h z = (h (closed_some v), omega (arith, piece-le (closes v own) p (closed_some v)))

  -- the classes
  set-class : (f : Fate) (mk : Mark) (ms : List Mark) → length ms < n
      → set (marks_in code_of n (refill false f ms)) (length ms) (code_of mk) ≡ marks_in code_of n (refill false f ms ++ (mk ∷ []))
  set-class f mk ms h =
      ap (λ i. set (marks_in code_of n (refill false f ms)) i (code_of mk)) (sym (refill-length false f ms))
      ∙ mark_set code_of n (refill false f ms) mk (rw (refill-length false f ms) h) (code_of mk) refl

  close-class : (v : Verdict R) {g : List Line} {ms : List Mark} (mk : Mark) → Opened g ms → 0 < piece_no (a_group g) → length ms < n
      → set (refilled (marks_in code_of n ms) (piece_no (a_group g) - 1) (length ms) (code (group_class (fate_of v)))) (length ms) (code_of mk)
      ≡ marks_in code_of n (refill false (fate_of v) ms ++ (mk ∷ []))
  unfolding piece_no
  close-class v mk (opened[] p) h k = absurd (omega arith)
  close-class v mk (opened∷ {x} {g} {old} {new} p q e) h k =
      let ms = old ++ marked rule_open 0 ∷ new in
      let i : x.no - 1 ≡ length old = omega arith in
      ap (λ y. set y (length ms) (code_of mk)) (ap (λ y. refilled (marks_in code_of n ms) y (length ms) (code (group_class (fate_of v)))) i ∙ classes-refilled n (fate_of v) (marked rule_open 0 ∷ new) p)
      ∙ set-class (fate_of v) mk ms k

  pub class-turn : (o : Outcome S R) {g : List Line} {ms : List Mark} → Opened g ms → refill false unclosed ms ≡ ms
      → ((closed_by o ≡ 0 → ⊥) → 0 < piece_by (standing s g r) l o) → length ms < n
      → set (cond (eqb (closed_by o) 0) (marks_in code_of n ms) (refilled (marks_in code_of n ms) (piece_by (standing s g r) l o - 1) (length ms) (closed_by o)))
      (length ms) (code_of (mark (standing s g r) o unclosed))
      ≡ marks_in code_of n (next_marks g o ms)
  unfolding fate_at closed_by piece_by
  class-turn (still c x) {g} {ms} p z h k = ap (λ y. set (marks_in code_of n y) (length ms) (code_of (mark (standing s g r) (still c x) unclosed))) (sym z) ∙ set-class unclosed _ ms k
  class-turn (filed v) {g} {ms} p z h k = ap (λ y. set (marks_in code_of n y) (length ms) (code_of (mark (standing s g r) (filed v) unclosed))) (sym z) ∙ set-class unclosed _ ms k
  class-turn joins {g} {ms} p z h k = ap (λ y. set (marks_in code_of n y) (length ms) (code_of (mark (standing s g r) joins unclosed))) (sym z) ∙ set-class unclosed _ ms k
  class-turn (closes v own) {g} {ms} p z h k =
      rw (ne_eqb (code (group_class (fate_of v))) 0 (closed_some v)) (close-class v (mark (standing s g r) (closes v own) unclosed) p (h (closed_some v)) k)

  -- the reasons
  zero-reason : (f : Fate) (mk : Mark) (ms : List Mark) → mk.reason ≡ 0 → length ms < n
      → marks_in reason_in n (refill false f ms) ≡ marks_in reason_in n (refill false f ms ++ (mk ∷ []))
  zero-reason f mk ms e h = mark-zero reason_in n (refill false f ms) mk (rw (refill-length false f ms) h) e

  own-reason : (v : Verdict R) (own : Own S) (g : List Line) → (mark (standing s g r) (closes v own) unclosed).reason ≡ 0
  unfolding mark first_mark reason_of
  own-reason v (itself c x) g = refl
  own-reason v last g = refl
  own-reason v fresh g = refl

  joins-reason : (g : List Line) → (mark (standing s g r) joins unclosed).reason ≡ 0
  unfolding mark group_mark first_mark reason_of
  joins-reason [] = refl
  joins-reason (x ∷ g) = refl

  close-reason : (v : Verdict R) (own : Own S) {g : List Line} {ms : List Mark} → Opened g ms → (refusal_in v ≡ 0 → fine_in v ≡ true) → 0 < piece_no (a_group g) → length ms < n
      → cond (eqb (refusal_in v) 0) (marks_in reason_in n ms) (set (marks_in reason_in n ms) (piece_no (a_group g) - 1) (refusal_in v))
      ≡ marks_in reason_in n (next_marks g (closes v own) ms)
  unfolding piece_no refusal_in fine_in fate_at fate_of reason_of
  close-reason v own (opened[] p) f h k = absurd (omega arith)
  close-reason (good q₁) own (opened∷ {x} {g} {old} {new} p q e) f h k =
      reasons-kept n approved p q refl ∙ zero-reason approved (mark (standing s (x ∷ g) r) (closes (good q₁) own) unclosed) (old ++ marked rule_open 0 ∷ new) (own-reason (good q₁) own (x ∷ g)) k
  close-reason (bad j) own (opened∷ {x} {g} {old} {new} p q e) f h k =
      let i : x.no - 1 ≡ length old = omega arith in
      rw (ne_eqb j 0 (λ z. absurd (false≢true (f z))), i)
      (reasons-refilled n (rejected j) p q ∙ zero-reason (rejected j) (mark (standing s (x ∷ g) r) (closes (bad j) own) unclosed) (old ++ marked rule_open 0 ∷ new) (own-reason (bad j) own (x ∷ g)) k)

  pub reason-turn : (o : Outcome S R) {g : List Line} {ms : List Mark} → Opened g ms → refill false unclosed ms ≡ ms → l.no ≡ suc (length ms)
      → (refusal o ≡ 0 → fine o ≡ true) → ((closed_by o ≡ 0 → ⊥) → 0 < piece_by (standing s g r) l o) → length ms < n
      → cond (eqb (refusal o) 0) (marks_in reason_in n ms) (set (marks_in reason_in n ms) (piece_by (standing s g r) l o - 1) (refusal o)) ≡ marks_in reason_in n (next_marks g o ms)
  unfolding refusal refusal_in fine fine_in fate_at closed_by piece_by mark line_mark
  reason-turn (still c x) {g} {ms} p z e f h k = ap (marks_in reason_in n) (sym z) ∙ zero-reason unclosed (mark (standing s g r) (still c x) unclosed) ms refl k
  reason-turn (filed (good q)) {g} {ms} p z e f h k = ap (marks_in reason_in n) (sym z) ∙ zero-reason unclosed (mark (standing s g r) (filed (good q)) unclosed) ms refl k
  reason-turn (filed (bad j)) {g} {ms} p z e f h k =
      let i : l.no - 1 ≡ length ms = omega arith in
      rw (ne_eqb j 0 (λ x. absurd (false≢true (f x))), i, z) (mark_set reason_in n ms (marked refused j) k j refl)
  reason-turn joins {g} {ms} p z e f h k = ap (marks_in reason_in n) (sym z) ∙ zero-reason unclosed (mark (standing s g r) joins unclosed) ms (joins-reason g) k
  reason-turn (closes v own) {g} {ms} p z e f h k = close-reason v own p f (h (closed_some v)) k
