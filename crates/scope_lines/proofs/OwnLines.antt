-- The lines of a group in plain reading: its first, and of the lines up to the one that ends it those that stand in RULES and are neither blank nor headers. Assumes nothing.
use mathlib.Core.Path.{◌≡◌, refl, ap, ap₂, sym, ◌∙◌, subst}
use mathlib.Core.Bool.{Bool, true, false, cond}
use mathlib.Core.List.{List, [], ◌∷◌, ◌++◌, append_assoc, append-nil}
use Prim.Native.Nat.{ℕ}
use native.Mathlib.Omega.{arith}
use Rattle.scope_lines.specs.Reader.{Sort, empty, heading, start, other, Verdict, good, bad, Stored, over, judged, Reader, Standing, standing, Fate}
use Rattle.scope_lines.specs.Reader.{unclosed, itself, last, fresh, Outcome, still, filed, joins, closes, fate_of, if_open, of_stored, next, fate_at, shut}
use Rattle.scope_lines.specs.Reader.{act, step, after, fate}
use Rattle.scope_lines.specs.Demand3.{OpensBy, EndsAt}
use Rattle.scope_lines.specs.Stretch.{sec_by, own_by, owned}
use Rattle.scope_lines.proofs.Pieces.{opens-group, after_open}

never-unclosed : {R : Type 0} (v : Verdict R) → fate_of v ≡ unclosed → ⊥
unfolding fate_of
never-unclosed (good r) e = let z : ◌≡◌ {A = ℕ} 0 1 = cc in omega arith
never-unclosed (bad n) e = let z : ◌≡◌ {A = ℕ} 0 1 = cc in omega arith

opens-sec : {S A R : Type 0} (o : Outcome S R) (s : S) (g : List A) (r : R) (a : A) → OpensBy o g → (next (standing s g r) a o).sec ≡ s
unfolding next
opens-sec (still c s₁) s g r a t = absurd t
opens-sec (filed v) s g r a t = absurd t
opens-sec joins s g r a t = refl
opens-sec (closes v (itself c s₁)) s g r a t = absurd t
opens-sec (closes v last) s g r a t = absurd t
opens-sec (closes v fresh) s g r a t = refl

module _ {S A R : Type 0} (𝓡 : Reader S A R) where
  -- what a line that closes nothing makes of the section and of the group
  record Onward (k : Sort S) (st : Standing S A R) (l : A) (st₁ : Standing S A R) (f : Fate) : Type 0 where
    group : st₁.group ≡ st.group ++ cond (own_by 𝓡.rules k st.sec) (l ∷ []) []
    sec : st₁.sec ≡ sec_by k st.sec
    waits : f ≡ unclosed

  by-stored : (k : Sort S) (st : Standing S A R) (l : A) (f : Fate) (w : Stored R) → own_by 𝓡.rules k st.sec ≡ false → sec_by k st.sec ≡ st.sec
      → fate_at (of_stored st.sec w) f ≡ unclosed → Onward k st l (next st l (of_stored st.sec w)) f
  unfolding of_stored next fate_at
  by-stored k st l f over b c e = record { group = rw b (sym (append-nil st.group)); sec = sym c; waits = e }
  by-stored k st l f (judged v) b c e = record { group = rw b (sym (append-nil st.group)); sec = sym c; waits = e }

  by-act : (k : Sort S) (b : Bool) (s : S) (x : A) (g : List A) (r : R) (l : A) (f : Fate) → 𝓡.rules s ≡ b
      → fate_at (act 𝓡 false k b (standing s (x ∷ g) r) l) f ≡ unclosed → Onward k (standing s (x ∷ g) r) l (next (standing s (x ∷ g) r) l (act 𝓡 false k b (standing s (x ∷ g) r) l)) f
  unfolding act if_open next fate_at
  by-act empty b s x g r l f q e = absurd (never-unclosed (shut 𝓡 (standing s (x ∷ g) r)) e)
  by-act (heading s₁) b s x g r l f q e = record { group = sym (append-nil (x ∷ g)); sec = refl; waits = e }
  by-act start true s x g r l f q e = absurd (never-unclosed (shut 𝓡 (standing s (x ∷ g) r)) e)
  by-act start false s x g r l f q e = by-stored start (standing s (x ∷ g) r) l f (𝓡.store s l r) q refl e
  by-act other true s x g r l f q e = record { group = rw q; sec = refl; waits = e }
  by-act other false s x g r l f q e = by-stored other (standing s (x ∷ g) r) l f (𝓡.store s l r) q refl e

  by-step : (st : Standing S A R) (x : A) (g : List A) (l : A) (f : Fate) → st.group ≡ x ∷ g → fate_at (step 𝓡 false st l) f ≡ unclosed
      → Onward (𝓡.sort l) st l (next st l (step 𝓡 false st l)) f
  unfolding step
  by-step st x g l f p e =
      subst (λ (y : List A). fate_at (step 𝓡 false (standing st.sec y st.recs) l) f ≡ unclosed
      → Onward (𝓡.sort l) (standing st.sec y st.recs) l (next (standing st.sec y st.recs) l (step 𝓡 false (standing st.sec y st.recs) l)) f) (sym p)
      (by-act (𝓡.sort l) (𝓡.rules st.sec) st.sec x g st.recs l f refl) e

  group-after : (ls : List A) (st : Standing S A R) (x : A) (g : List A) → st.group ≡ x ∷ g → fate 𝓡 false unclosed st ls ≡ unclosed
      → (after 𝓡 false st ls).group ≡ st.group ++ owned 𝓡.sort 𝓡.rules st.sec ls
  unfolding after fate owned
  group-after [] st x g p e = sym (append-nil st.group)
  group-after (l ∷ ls) st x g p e =
      let st₁ : Standing S A R = next st l (step 𝓡 false st l) in
      let o = by-step st x g l (fate 𝓡 false unclosed st₁ ls) p e in
      let new : List A = cond (own_by 𝓡.rules (𝓡.sort l) st.sec) (l ∷ []) [] in
      group-after ls st₁ x (g ++ new) (o.group ∙ ap (◌++ new) p) o.waits
      ∙ ap₂ (λ y z. y ++ owned 𝓡.sort 𝓡.rules z ls) o.group o.sec
      ∙ append_assoc st.group new (owned 𝓡.sort 𝓡.rules (sec_by (𝓡.sort l) st.sec) ls)

  -- where a group ends
  pub ended-lines : (s : S) (r : R) (pre : List A) (a : A) (mid : List A) (c : A) → EndsAt 𝓡 false (standing s [] r) pre a mid c
      → (after 𝓡 false (standing s [] r) (pre ++ a ∷ mid)).group ≡ a ∷ owned 𝓡.sort 𝓡.rules (after 𝓡 false (standing s [] r) pre).sec mid
  unfolding after
  ended-lines s r pre a mid c k =
      let st : Standing S A R = after 𝓡 false (standing s [] r) pre in
      let o : Outcome S R = step 𝓡 false st a in
      let p : (next st a o).group ≡ a ∷ [] = opens-group o st.sec st.group st.recs a k.opens in
      ap (λ (x : Standing S A R). x.group) (after_open 𝓡 false (standing s [] r) pre a mid)
      ∙ group-after mid (next st a o) a [] p k.waits
      ∙ ap₂ (λ y z. y ++ owned 𝓡.sort 𝓡.rules z mid) p (opens-sec o st.sec st.group st.recs a k.opens)
