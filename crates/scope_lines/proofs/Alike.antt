-- Lines that are alike are read alike, strictly and by a survey. Assumes nothing.
use mathlib.Core.Path.{◌≡◌, refl, ap, ap₂, sym, ◌∙◌, subst}
use mathlib.Core.Bool.{Bool, true, false, cond}
use mathlib.Core.List.{List, [], ◌∷◌, ◌++◌, map}
use Prim.Native.Nat.{ℕ}
use lib.Dec.{eqb}
use Rattle.scope_lines.specs.Reader.{verdict, Sort, empty, heading, start, other, Verdict, good, bad, Stored, over, judged, Reader, Standing, standing}
use Rattle.scope_lines.specs.Reader.{Still, Piece, Reply, accepted, stopped, Own, itself, last, fresh, Outcome, still, filed, joins, closes, settle}
use Rattle.scope_lines.specs.Reader.{if_open, of_stored, next, unless, stop_at, shut, act, step, end_verdict, read, ending, strict, strict_to}
use Rattle.scope_lines.specs.Alike.{All2, nil, cons, VerdictLike, goods, bads, StoredLike, overs, judgeds, PieceLike, lines, groups, ReplyLike, accepteds, stoppeds, Alike, map_v, map_s, Erases}

pub all2-snoc : {A B : Type 0} {◌~◌ : A → B → Type 0} {g : List A} {k : List B} {a : A} {b : B}
    → All2 ◌~◌ g k → ◌~◌ a b → All2 ◌~◌ (g ++ (a ∷ [])) (k ++ (b ∷ []))
all2-snoc nil p = cons p nil
all2-snoc (cons q t) p = cons q (all2-snoc t p)

pub all2-map : {A B : Type 0} {◌~◌ ◌≃◌ : A → B → Type 0} → ((a : A) (b : B) → ◌~◌ a b → ◌≃◌ a b)
    → {g : List A} {k : List B} → All2 ◌~◌ g k → All2 ◌≃◌ g k
all2-map f nil = nil
all2-map f (cons {a} {b} p t) = cons (f a b p) (all2-map f t)

-- replies that are alike stop alike
pub stops-right : {A B R Q : Type 0} {◌~◌ : A → B → Type 0} {◌≈◌ : R → Q → Type 0} {n : ℕ} {p : Piece A} {r : R} {b : Reply B Q}
    → ReplyLike ◌~◌ ◌≈◌ (stopped n p r) b → (k : Piece B) × (q : Q) × (b ≡ stopped n k q) × PieceLike ◌~◌ p k
stops-right (stoppeds {k = k} {q = q} e t) = (k, q, refl, e)

pub stops-left : {A B R Q : Type 0} {◌~◌ : A → B → Type 0} {◌≈◌ : R → Q → Type 0} {n : ℕ} {k : Piece B} {q : Q} {a : Reply A R}
    → ReplyLike ◌~◌ ◌≈◌ a (stopped n k q) → (p : Piece A) × (r : R) × (a ≡ stopped n p r) × PieceLike ◌~◌ p k
stops-left (stoppeds {p = p} {r = r} e t) = (p, r, refl, e)

pub accepts-right : {A B R Q : Type 0} {◌~◌ : A → B → Type 0} {◌≈◌ : R → Q → Type 0} {r : R} {b : Reply B Q}
    → ReplyLike ◌~◌ ◌≈◌ (accepted r) b → (q : Q) × (b ≡ accepted q) × ◌≈◌ r q
accepts-right (accepteds {q = q} e) = (q, refl, e)

-- a finer relation of lines will do
pub alike-finer : {S A B R Q : Type 0} {𝓡 : Reader S A R} {𝓠 : Reader S B Q} {◌~◌ ◌≃◌ : A → B → Type 0} {◌≈◌ : R → Q → Type 0}
    → ((a : A) (b : B) → ◌≃◌ a b → ◌~◌ a b) → Alike 𝓡 𝓠 ◌~◌ ◌≈◌ → Alike 𝓡 𝓠 ◌≃◌ ◌≈◌
alike-finer f ℓ = record {
  sorts = λ a b p. ℓ.sorts a b (f a b p);
  rules = ℓ.rules;
  stores = λ s a b r q p. ℓ.stores s a b r q (f a b p);
  closings = λ g k r q p. ℓ.closings g k r q (all2-map f p);
  finishes = ℓ.finishes;
}

module _ {S A B R Q : Type 0} (𝓡 : Reader S A R) (𝓠 : Reader S B Q) (◌~◌ : A → B → Type 0) (◌≈◌ : R → Q → Type 0)
    (ℓ : Alike 𝓡 𝓠 ◌~◌ ◌≈◌) where
  pub record StandingLike (st : Standing S A R) (st' : Standing S B Q) : Type 0 where
    pub secs : st.sec ≡ st'.sec
    pub group_like : All2 ◌~◌ st.group st'.group
    pub recs_like : ◌≈◌ st.recs st'.recs

  data OutcomeLike : Outcome S R → Outcome S Q → Type 0 where
    stills : {c : Still} {s : S} → OutcomeLike (still c s) (still c s)
    fileds : {v : Verdict R} {w : Verdict Q} → VerdictLike ◌≈◌ v w → OutcomeLike (filed v) (filed w)
    joinings : OutcomeLike joins joins
    closings' : {v : Verdict R} {w : Verdict Q} {o : Own S} → VerdictLike ◌≈◌ v w → OutcomeLike (closes v o) (closes w o)

  stored-like : (s : S) {v : Stored R} {w : Stored Q} → StoredLike ◌≈◌ v w → OutcomeLike (of_stored s v) (of_stored s w)
  unfolding of_stored
  stored-like s overs = stills
  stored-like s (judgeds p) = fileds p

  -- the verdicts on the open groups
  shut-like : (s : S) {g : List A} {k : List B} (r : R) (q : Q) → All2 ◌~◌ g k → ◌≈◌ r q → VerdictLike ◌≈◌ (shut 𝓡 (standing s g r)) (shut 𝓠 (standing s k q))
  unfolding shut if_open
  shut-like s r q nil e = goods e
  shut-like s r q (cons {a} {b} {g} {k} p t) e = ℓ.closings (a ∷ g) (b ∷ k) r q (cons p t) e

  act-like : (h : Bool) (k : Sort S) (b : Bool) (s : S) {g : List A} {g' : List B} (r : R) (q : Q) (l : A) (l' : B)
      → All2 ◌~◌ g g' → ◌≈◌ r q → ◌~◌ l l' → OutcomeLike (act 𝓡 h k b (standing s g r) l) (act 𝓠 h k b (standing s g' q) l')
  unfolding act if_open
  act-like h empty b s r q l l' nil e m = stills
  act-like h empty b s r q l l' (cons p t) e m = closings' (shut-like s r q (cons p t) e)
  act-like false (heading s₁) b s r q l l' t e m = stills
  act-like true (heading s₁) b s r q l l' nil e m = stills
  act-like true (heading s₁) b s r q l l' (cons p t) e m = closings' (shut-like s r q (cons p t) e)
  act-like h start true s r q l l' nil e m = joinings
  act-like h start true s r q l l' (cons p t) e m = closings' (shut-like s r q (cons p t) e)
  act-like h start false s r q l l' t e m = stored-like s (ℓ.stores s l l' r q m e)
  act-like h other true s r q l l' t e m = joinings
  act-like h other false s r q l l' t e m = stored-like s (ℓ.stores s l l' r q m e)

  step-like : (h : Bool) (st : Standing S A R) (st' : Standing S B Q) (l : A) (l' : B) → StandingLike st st' → ◌~◌ l l'
      → OutcomeLike (step 𝓡 h st l) (step 𝓠 h st' l')
  unfolding step
  step-like h st st' l l' t m =
      subst (λ s. OutcomeLike (step 𝓡 h st l) (step 𝓠 h (standing s st'.group st'.recs) l')) t.secs
      (subst (λ b. OutcomeLike (step 𝓡 h st l) (act 𝓠 h (𝓠.sort l') b (standing st.sec st'.group st'.recs) l')) (ℓ.rules st.sec)
      (subst (λ k. OutcomeLike (step 𝓡 h st l) (act 𝓠 h k (𝓡.rules st.sec) (standing st.sec st'.group st'.recs) l')) (ℓ.sorts l l' m)
      (act-like h (𝓡.sort l) (𝓡.rules st.sec) st.sec st.recs st'.recs l l' t.group_like t.recs_like m)))

  settle-like : {v : Verdict R} {w : Verdict Q} {r : R} {q : Q} → VerdictLike ◌≈◌ v w → ◌≈◌ r q → ◌≈◌ (settle v r) (settle w q)
  unfolding settle
  settle-like (goods p) e = p
  settle-like bads e = e

  next_like : (st : Standing S A R) (st' : Standing S B Q) (l : A) (l' : B) {o : Outcome S R} {o' : Outcome S Q}
      → StandingLike st st' → ◌~◌ l l' → OutcomeLike o o' → StandingLike (next st l o) (next st' l' o')
  unfolding next
  next_like st st' l l' t m stills = record { secs = refl; group_like = t.group_like; recs_like = t.recs_like }
  next_like st st' l l' t m (fileds v) = record { secs = t.secs; group_like = t.group_like; recs_like = settle-like v t.recs_like }
  next_like st st' l l' t m joinings = record { secs = t.secs; group_like = all2-snoc t.group_like m; recs_like = t.recs_like }
  next_like st st' l l' t m (closings' {o = itself c s} v) = record { secs = refl; group_like = nil; recs_like = settle-like v t.recs_like }
  next_like st st' l l' t m (closings' {o = last} v) = record { secs = t.secs; group_like = nil; recs_like = settle-like v t.recs_like }
  next_like st st' l l' t m (closings' {o = fresh} v) = record { secs = t.secs; group_like = cons m nil; recs_like = settle-like v t.recs_like }

  unless-like : {v : Verdict R} {w : Verdict Q} {p : Piece A} {k : Piece B} {r : R} {q : Q} {a : Reply A R} {b : Reply B Q}
      → VerdictLike ◌≈◌ v w → PieceLike ◌~◌ p k → ◌≈◌ r q → ReplyLike ◌~◌ ◌≈◌ a b → ReplyLike ◌~◌ ◌≈◌ (unless v p r a) (unless w k q b)
  unfolding unless
  unless-like (goods e) p t z = z
  unless-like bads p t z = stoppeds p t

  stop_at-like : (st : Standing S A R) (st' : Standing S B Q) (l : A) (l' : B) {o : Outcome S R} {o' : Outcome S Q} {a : Reply A R} {b : Reply B Q}
      → StandingLike st st' → ◌~◌ l l' → OutcomeLike o o' → ReplyLike ◌~◌ ◌≈◌ a b → ReplyLike ◌~◌ ◌≈◌ (stop_at st l o a) (stop_at st' l' o' b)
  unfolding stop_at
  stop_at-like st st' l l' t m stills z = z
  stop_at-like st st' l l' t m (fileds v) z = unless-like v (lines m) t.recs_like z
  stop_at-like st st' l l' t m joinings z = z
  stop_at-like st st' l l' t m (closings' v) z = unless-like v (groups t.group_like) t.recs_like z

  read-like : (h : Bool) (ε : Standing S A R → Reply A R) (δ : Standing S B Q → Reply B Q)
      → ((st : Standing S A R) (st' : Standing S B Q) → StandingLike st st' → ReplyLike ◌~◌ ◌≈◌ (ε st) (δ st'))
      → {ls : List A} {ks : List B} (st : Standing S A R) (st' : Standing S B Q) → All2 ◌~◌ ls ks → StandingLike st st'
      → ReplyLike ◌~◌ ◌≈◌ (read 𝓡 h ε st ls) (read 𝓠 h δ st' ks)
  unfolding read
  read-like h ε δ f st st' nil t = f st st' t
  read-like h ε δ f st st' (cons {a} {b} m ms) t =
      let o = step-like h st st' a b t m in
      stop_at-like st st' a b t m o
      (read-like h ε δ f (next st a (step 𝓡 h st a)) (next st' b (step 𝓠 h st' b)) ms (next_like st st' a b t m o))

  end_verdict-like : (h : Bool) (st : Standing S A R) (st' : Standing S B Q) → StandingLike st st' → VerdictLike ◌≈◌ (end_verdict 𝓡 h st) (end_verdict 𝓠 h st')
  unfolding end_verdict
  end_verdict-like false st st' t = goods t.recs_like
  end_verdict-like true st st' t =
      subst (λ s. VerdictLike ◌≈◌ (shut 𝓡 st) (shut 𝓠 (standing s st'.group st'.recs))) t.secs
      (shut-like st.sec st.recs st'.recs t.group_like t.recs_like)

  ending-like : (h : Bool) (st : Standing S A R) (st' : Standing S B Q) → StandingLike st st' → ReplyLike ◌~◌ ◌≈◌ (ending 𝓡 h st) (ending 𝓠 h st')
  unfolding ending
  ending-like h st st' t =
      let v = end_verdict-like h st st' t in
      unless-like v (groups t.group_like) t.recs_like (accepteds (ℓ.finishes _ _ (settle-like v t.recs_like)))

  -- strict readings of lines that are alike
  pub strict-like : (h : Bool) (st : Standing S A R) (st' : Standing S B Q) {ls : List A} {ks : List B} → All2 ◌~◌ ls ks → StandingLike st st'
      → ReplyLike ◌~◌ ◌≈◌ (strict 𝓡 h st ls) (strict 𝓠 h st' ks)
  unfolding strict
  strict-like h st st' m t = read-like h (ending 𝓡 h) (ending 𝓠 h) (ending-like h) st st' m t

  pub strict_to-like : (h : Bool) (st : Standing S A R) (st' : Standing S B Q) {ls : List A} {ks : List B} → All2 ◌~◌ ls ks → StandingLike st st'
      → ReplyLike ◌~◌ ◌≈◌ (strict_to 𝓡 h st ls) (strict_to 𝓠 h st' ks)
  unfolding strict_to
  strict_to-like h st st' m t = read-like h _ _ (λ q q' e. accepteds e.recs_like) st st' m t

-- ---- from the equations to Alike

pub map-verdict : {R E : Type 0} (f : R → E) (k : ℕ) (r : R) → map_v f (verdict k r) ≡ verdict k (f r)
unfolding map_v
map-verdict f k r = go (eqb k 0)
  where
    go : (t : Bool) → map_v f (cond t (good r) (bad k)) ≡ cond t (good (f r)) (bad k)
    go true = refl
    go false = refl

abbrev good_or : {E : Type 0} → E → Verdict E → E
good_or d (good r) = r
good_or d (bad n) = d

abbrev reason_in : {E : Type 0} → Verdict E → ℕ
reason_in (good r) = 0
reason_in (bad n) = n

abbrev IsGood : {E : Type 0} → Verdict E → Type 0
IsGood (good r) = Unit {0}
IsGood (bad n) = ⊥

abbrev IsOver : {E : Type 0} → Stored E → Type 0
IsOver over = Unit {0}
IsOver (judged v) = ⊥

abbrev judged_or : {E : Type 0} → Verdict E → Stored E → Verdict E
judged_or d over = d
judged_or d (judged v) = v

module _ {R E : Type 0} (erase : R → E) where
  verdict-path : (v w : Verdict R) → map_v erase v ≡ map_v erase w → VerdictLike (λ r q. erase r ≡ erase q) v w
  unfolding map_v
  verdict-path (good r) (good q) e = goods (ap (good_or (erase r)) e)
  verdict-path (good r) (bad n) e = absurd (subst IsGood e tt)
  verdict-path (bad n) (good q) e = absurd (subst IsGood (sym e) tt)
  verdict-path (bad n) (bad m) e = subst (λ k. VerdictLike (λ r q. erase r ≡ erase q) (bad n) (bad k)) (ap reason_in e) bads

  stored-path : (v w : Stored R) → map_s erase v ≡ map_s erase w → StoredLike (λ r q. erase r ≡ erase q) v w
  unfolding map_s
  stored-path over over e = overs
  stored-path over (judged w) e = absurd (subst IsOver e tt)
  stored-path (judged v) over e = absurd (subst IsOver (sym e) tt)
  stored-path (judged v) (judged w) e = judgeds (verdict-path v w (ap (judged_or (map_v erase v)) e))

keys : {A K : Type 0} (key : A → K) {g k : List A} → All2 (λ a b. key a ≡ key b) g k → map key g ≡ map key k
keys key nil = refl
keys key (cons {g = g} {k = k} p t) = ap₂ {C = List _} (λ x y. x ∷ y) p (keys key t)

pub erases-alike : {S A K R E : Type 0} (𝓡 : Reader S A R) (𝓔 : Reader S K E) (key : A → K) (erase : R → E) → Erases 𝓡 𝓔 key erase
    → Alike 𝓡 𝓡 (λ a b. key a ≡ key b) (λ r q. erase r ≡ erase q)
erases-alike 𝓡 𝓔 key erase ε = record {
  sorts = λ a b p. ε.sorts a ∙ ap 𝓔.sort p ∙ sym (ε.sorts b);
  rules = λ s. refl;
  stores = λ s a b r q p e. stored-path erase _ _ (ε.stores s a r ∙ ap₂ (𝓔.store s) p e ∙ sym (ε.stores s b q));
  closings = λ g k r q p e. verdict-path erase _ _ (ε.closings g r ∙ ap₂ 𝓔.close (keys key p) e ∙ sym (ε.closings k q));
  finishes = λ r q e. ε.finishes r ∙ ap 𝓔.finish e ∙ sym (ε.finishes q);
}
