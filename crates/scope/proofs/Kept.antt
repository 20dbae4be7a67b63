-- What a reader keeps of its records from line to line, it keeps to the end: of plain reading, for any reader. Assumes nothing.
use Prim.Native.Nat.{ℕ}
use mathlib.Core.Bool.{Bool, true, false}
use mathlib.Core.List.{List, [], ◌∷◌, ◌++◌}
use Rattle.scope_lines.specs.Reader.{Sort, empty, heading, start, other, Verdict, good, bad, Stored, over, judged, Reader, Standing, standing, Reply, accepted}
use Rattle.scope_lines.specs.Reader.{stopped, Own, itself, last, fresh, Outcome, still, filed, joins, closes, settle, if_open, of_stored, next, unless, stop_at}
use Rattle.scope_lines.specs.Reader.{shut, act, step, end_verdict, read, ending, strict, after, survey_recs}
use Rattle.scope_lines.specs.Text.{Each, nothing, each}

pub data VerdictKeeps {R : Type 0} (P : R → Type 0) : Verdict R → Type 0 where
  keeps : {r : R} → P r → VerdictKeeps P (good r)
  refuses : {n : ℕ} → VerdictKeeps P (bad n)

pub data StoredKeeps {R : Type 0} (P : R → Type 0) : Stored R → Type 0 where
  passes : StoredKeeps P over
  judges : {v : Verdict R} → VerdictKeeps P v → StoredKeeps P (judged v)

data OutcomeKeeps {S R : Type 0} (P : R → Type 0) : Outcome S R → Type 0 where
  stills : {c : _} {s : S} → OutcomeKeeps P (still c s)
  fileds : {v : Verdict R} → VerdictKeeps P v → OutcomeKeeps P (filed v)
  joinings : OutcomeKeeps P joins
  closings : {v : Verdict R} {o : Own S} → VerdictKeeps P v → OutcomeKeeps P (closes v o)

snoc : {X : Type 0} {Q : X → Type 0} {xs : List X} {x : X} → Each Q xs → Q x → Each Q (xs ++ (x ∷ []))
snoc nothing q = each q nothing
snoc (each p ps) q = each p (snoc ps q)

abbrev pub recs_in : {A R : Type 0} → Reply A R → R
recs_in (accepted r) = r
recs_in (stopped n p r) = r

module _ {S A R : Type 0} (𝓡 : Reader S A R) (P : R → Type 0) (Q : A → Type 0)
    (stores : (s : S) (l : A) (r : R) → Q l → P r → StoredKeeps P (𝓡.store s l r))
    (shuts : (g : List A) (r : R) → Each Q g → P r → VerdictKeeps P (𝓡.close g r))
    (ends : (r : R) → P r → P (𝓡.finish r)) where
  stored-keeps : (s : S) {v : Stored R} → StoredKeeps P v → OutcomeKeeps {S = S} P (of_stored s v)
  unfolding of_stored
  stored-keeps s passes = stills
  stored-keeps s (judges k) = fileds k

  act-keeps : (k : Sort S) (b : Bool) (s : S) {g : List A} (r : R) (l : A) → Each Q g → P r → Q l → OutcomeKeeps P (act 𝓡 false k b (standing s g r) l)
  unfolding act if_open shut
  act-keeps empty b s r l nothing p q = stills
  act-keeps empty b s r l (each x xs) p q = closings (shuts _ r (each x xs) p)
  act-keeps (heading s₁) b s r l gs p q = stills
  act-keeps start true s r l nothing p q = joinings
  act-keeps start true s r l (each x xs) p q = closings (shuts _ r (each x xs) p)
  act-keeps start false s r l gs p q = stored-keeps s (stores s l r q p)
  act-keeps other true s r l gs p q = joinings
  act-keeps other false s r l gs p q = stored-keeps s (stores s l r q p)

  settle-keeps : {v : Verdict R} {r : R} → VerdictKeeps P v → P r → P (settle v r)
  unfolding settle
  settle-keeps (keeps p) q = p
  settle-keeps refuses q = q

  pub record Keeps (st : Standing S A R) : Type 0 where
    pub lines : Each Q st.group
    pub recs : P st.recs

  next-keeps : (st : Standing S A R) (l : A) {o : Outcome S R} → Keeps st → Q l → OutcomeKeeps P o → Keeps (next st l o)
  unfolding next
  next-keeps st l k q stills = record { lines = k.lines; recs = k.recs }
  next-keeps st l k q (fileds v) = record { lines = k.lines; recs = settle-keeps v k.recs }
  next-keeps st l k q joinings = record { lines = snoc k.lines q; recs = k.recs }
  next-keeps st l k q (closings {o = itself c s} v) = record { lines = nothing; recs = settle-keeps v k.recs }
  next-keeps st l k q (closings {o = last} v) = record { lines = nothing; recs = settle-keeps v k.recs }
  next-keeps st l k q (closings {o = fresh} v) = record { lines = each q nothing; recs = settle-keeps v k.recs }

  step_keeps : (st : Standing S A R) (l : A) → Keeps st → Q l → OutcomeKeeps P (step 𝓡 false st l)
  unfolding step
  step_keeps st l k q = act-keeps (𝓡.sort l) (𝓡.rules st.sec) st.sec st.recs l k.lines k.recs q

  after-keeps : (st : Standing S A R) {ls : List A} → Keeps st → Each Q ls → Keeps (after 𝓡 false st ls)
  unfolding after
  after-keeps st k nothing = k
  after-keeps st k (each {x} q qs) = after-keeps (next st x (step 𝓡 false st x)) (next-keeps st x k q (step_keeps st x k q)) qs

  pub survey-keeps : (st : Standing S A R) {ls : List A} → Keeps st → Each Q ls → P (survey_recs 𝓡 false st ls)
  unfolding survey_recs end_verdict settle
  survey-keeps st k qs = ends _ (after-keeps st k qs).recs

  stop-keeps : (st : Standing S A R) (l : A) {o : Outcome S R} (a : Reply A R) → P st.recs → OutcomeKeeps P o → P (recs_in a) → P (recs_in (stop_at st l o a))
  unfolding stop_at unless
  stop-keeps st l a p stills q = q
  stop-keeps st l a p (fileds (keeps x)) q = q
  stop-keeps st l a p (fileds refuses) q = p
  stop-keeps st l a p joinings q = q
  stop-keeps st l a p (closings (keeps x)) q = q
  stop-keeps st l a p (closings refuses) q = p

  pub strict-keeps : (st : Standing S A R) {ls : List A} → Keeps st → Each Q ls → P (recs_in (strict 𝓡 false st ls))
  unfolding strict read ending end_verdict settle unless
  strict-keeps st k nothing = ends _ k.recs
  strict-keeps st k (each {x} {xs} q qs) =
      let o = step_keeps st x k q in
      stop-keeps st x (strict 𝓡 false (next st x (step 𝓡 false st x)) xs) k.recs o (strict-keeps (next st x (step 𝓡 false st x)) (next-keeps st x k q o) qs)
