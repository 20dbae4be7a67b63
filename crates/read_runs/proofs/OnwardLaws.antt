-- A line more: what the loops over plain lines know, and what each way through them gives. Assumes nothing.
use Prim.Native.Nat.{ℕ, ◌+◌, ◌≤◌, ◌<◌}
use native.Mathlib.Omega.{arith}
use mathlib.Core.Path.{◌≡◌, refl, sym, ap, ◌∙◌, subst}
use mathlib.Core.Bool.{true, false, cond}
use mathlib.Core.List.{List}
use lib.ListN.{length, take, drop}
use lib.Ieee.{Float}
use Rattle.leaf_fields.specs.Fields.{fields_at}
use Rattle.leaf_scans.specs.Lines.{line_len, start_trimmed, cut_of}
use Rattle.leaf_scans.proofs.LineLaws.{body-long, end_more}
use Rattle.scope_lines.specs.Reader.{Outcome, next, step}
use Rattle.scope_lines.specs.Text.{body_at, line_at}
use Rattle.scope.specs.declared.Section.{Section}
use Rattle.scope.specs.declared.Counts.{Counts}
use Rattle.scope.specs.declared.Reason.{Reason}
use Rattle.scope.specs.Sections.{is_rules}
use Rattle.scope.specs.Records.{Network}
use Rattle.scope.specs.Lines.{sort_of, inp}
use Rattle.table_rows.specs.Holding.{Holds, After}
use Rattle.read_headers.specs.Own.{is_data, plain_by}
use Rattle.read_headers.specs.Sections.{passes_over}
use Rattle.read_sections.specs.Storing.{line_step}
use Rattle.read_steps.specs.Held.{Model, Fits, Unstored, Stepped, Goes, moved_to}
use Rattle.std.specs.Prelude.{Option, None, Some, is_some, Err, Ok, Result}
use Rattle.std.proofs.lemmas.Option.{none-some, some_pair_parts}
use Rattle.read_steps.specs.declared.State.{State}
use Rattle.read_steps.specs.declared.Turn.{Turn}
use Rattle.read_steps.proofs.StepLaws.{never}
use Rattle.read_steps.proofs.WayLaws.{both, body-at, way-joined}
use Rattle.read_runs.specs.Onward.{Ready, Onward, LeftAt, none, more}
use Rattle.read_runs.proofs.FiledLaws.{way-stored, way-refused}

-- what holds of a state and the tables holds of the same ones
pub same : (P : State → List ℕ → List Float → Type 0) {s t : State} {w w' : List ℕ} {f f' : List Float} → t ≡ s → w' ≡ w → f' ≡ f → P s w f → P t w' f'
same P {s} {t} {w} {w'} {f} {f'} a b c p = subst (λ (x : State). P x w' f') (sym a) (subst (λ (x : List ℕ). P s x f') (sym b) (subst (λ (x : List Float). P s w x) (sym c) p))

pub fits : {text w : List ℕ} {f : List Float} {s : State} → Ready text s w f → s.at < length text → Fits text s w f
fits y h = record { m = y.m; stands = y.stands; short = y.short; more = h }

-- a line takes the reading on
pub further : {text w : List ℕ} {f : List Float} {s : State} {m : Model} {o : Outcome Section Network} {r : Turn} → s.at < length text
    → Stepped text s (line_at text s.at (s.line + 1)) m o r w f → s.at < r.state.at
further {text} {s = s} h st =
    let e : ℕ = s.at + line_len (drop s.at text) in
    omega (arith, st.at, body-long text s.at e h refl, end_more text s.at e h refl)

-- the reading stands behind a line
pub after_line : {text w : List ℕ} {f : List Float} {s : State} {r : Turn} {w' : List ℕ} {f' : List Float} → Ready text s w f → Goes text s w f (step inp false) r w' f' → Ready text r.state w' f'
after_line {text} {s = s} y go = record {
  m = next y.m (line_at text s.at (s.line + 1)) (step inp false y.m (line_at text s.at (s.line + 1)));
  stands = (go y.m y.stands).stands;
  short = y.short;
}

-- ---- how far a loop has come, over lines of class k from s₀ on
pub record Come (text : List ℕ) (k : ℕ) (s₀ : State) (w₀ : List ℕ) (f₀ : List Float) (s : State) (w : List ℕ) (f : List Float) : Type 0 where
  pub onward : Onward text k s₀ w₀ f₀ s w f
  pub ready : Ready text s w f
  pub sec : s.section ≡ s₀.section

pub begin : {text w : List ℕ} {f : List Float} {s : State} (k : ℕ) → Ready text s w f → Come text k s w f s w f
begin k y = record { onward = none refl refl refl; ready = y; sec = refl }

module _ {text : List ℕ} {k : ℕ} {s₀ : State} {w₀ : List ℕ} {f₀ : List Float} {s : State} {w : List ℕ} {f : List Float} (g : Come text k s₀ w₀ f₀ s w f) (h : s.at < length text) where
  come : {r : Turn} {w' : List ℕ} {f' : List Float} → Goes text s w f (step inp false) r w' f' → r.class ≡ k → r.closed ≡ None → r.refused ≡ None → r.state.section ≡ s.section
      → Come text k s₀ w₀ f₀ r.state w' f'
  come {r} go a b c x = record { onward = more r g.onward h go a b c refl; ready = after_line g.ready go; sec = x ∙ g.sec }

-- ---- where they end: the text does, or at a line that no section stores
at-end : {text w : List ℕ} {f : List Float} {s : State} → length text ≤ s.at → LeftAt text w f s None
at-end h = record { refused = λ n e x. absurd (none-some _ x); left = λ _ k. absurd (omega (arith, h, k)) }

pub left-unstored : {text w : List ℕ} {f : List Float} {s : State} → Unstored (sort_of (body_at text s.at)) s.section → LeftAt text w f s None
left-unstored u = record { refused = λ n e x. absurd (none-some _ x); left = λ _ _. u }

pub came-to-end : {text : List ℕ} {k : ℕ} {s₀ : State} {w₀ : List ℕ} {f₀ : List Float} {s : State} {w : List ℕ} {f : List Float} → Come text k s₀ w₀ f₀ s w f → length text ≤ s.at
    → Onward text k s₀ w₀ f₀ s w f × LeftAt text w f s None
came-to-end g h = (g.onward, at-end h)

-- ---- a line of a section that stores
-- the reason and the end that are asked about are those of the line
refused-at : {text w : List ℕ} {f : List Float} {s : State} {n : Reason} {e : ℕ}
    → Goes text s w f (step inp false) (record { state = moved_to s s.section s.counts e; class = 5; closed = None; refused = Some (record { reason = n; piece = s.line + 1 }) }) w f
    → (n' : Reason) (e' : ℕ) → ◌≡◌ {A = Option (Reason × ℕ)} (Some (n, e)) (Some (n', e'))
    → Goes text s w f (step inp false) (record { state = moved_to s s.section s.counts e'; class = 5; closed = None; refused = Some (record { reason = n'; piece = s.line + 1 }) }) w f
refused-at {s = s} go n' e' z = let p = some_pair_parts _ _ _ _ z in rw (← p.0, ← p.1) go

module _ {text : List ℕ} {s₀ : State} {w₀ : List ℕ} {f₀ : List Float} {s : State} {w : List ℕ} {f : List Float} (g : Come text 4 s₀ w₀ f₀ s w f) (h : s.at < length text)
    {e : ℕ} (he : e ≡ s.at + line_len (drop s.at text)) where
  told : is_data (sort_of (body_at text s.at)) ≡ is_data (sort_of (drop s.at (take e text)))
  told = ap (λ y. is_data (sort_of y)) (sym (body-at (fits g.ready h) he))

  pub not-data : is_data (sort_of (drop s.at (take e text))) ≡ false → Onward text 4 s₀ w₀ f₀ s w f × LeftAt text w f s None
  not-data p = (g.onward, left-unstored (λ d _. never (sym (told ∙ p) ∙ d)))

  module _ {x : Section} (ex : x ≡ s₀.section) (a : is_rules x ≡ false) (b : passes_over x ≡ false)
      {end : ℕ} (z : end ≡ s.at + length (cut_of (drop s.at (take e text)))) (p : is_data (sort_of (drop s.at (take e text))) ≡ true) where
    its : x ≡ s.section
    its = ex ∙ sym g.sec

    not-rules : is_rules s.section ≡ false
    not-rules = ap is_rules (sym its) ∙ a

    not-over : passes_over s.section ≡ false
    not-over = ap passes_over (sym its) ∙ b

    -- what is promised of the line, in the words of the section x
    abbrev Promise : Section → Result Counts Reason → List ℕ → List Float → Type 0
    Promise y k w' f' = (n : Network) → Holds text n s.counts w f → After text (line_step y (fields_at (take end text) s.at) n) k w f w' f'

    module _ {w' : List ℕ} {f' : List Float} {kept : Result Counts Reason} (ens : Promise x kept w' f') where
      pub stored : {c : Counts} {t : State} → kept ≡ Ok c → t ≡ moved_to s x c e → Come text 4 s₀ w₀ f₀ t w' f'
      stored {c} {t} q es =
          let ens' = subst (λ (y : Section). Promise y kept w' f') its ens in
          let es' : t ≡ moved_to s s.section c e = es ∙ ap (λ (y : Section). moved_to s y c e) its in
          come g h (way-stored (fits g.ready h) he (told ∙ p) not-rules not-over z ens' q es') refl refl refl (ap (λ (y : State). y.section) es')

      pub unstored : {n : Reason} → kept ≡ Err n → Onward text 4 s₀ w₀ f₀ s w' f' × LeftAt text w' f' s (Some (n, e))
      unstored {n} q =
          let ens' = subst (λ (y : Section). Promise y kept w' f') its ens in
          let r = way-refused (fits g.ready h) he (told ∙ p) not-rules not-over z ens' q in
          let l : LeftAt text w f s (Some (n, e)) = record { refused = refused-at r.2; left = λ y. absurd (none-some _ (sym y)) } in
          (same (Onward text 4 s₀ w₀ f₀) refl r.0 r.1 g.onward, same (λ (t : State) (y : List ℕ) (v : List Float). LeftAt text y v t (Some (n, e))) refl r.0 r.1 l)

-- ---- a line that joins the open group, whatever the tables hold
pub record Joined (text : List ℕ) (s₀ s : State) : Type 0 where
  pub line : s.line ≤ s.at
  pub all : (w : List ℕ) (f : List Float) → Ready text s₀ w f → Come text 8 s₀ w f s w f

pub begin-joined : {text : List ℕ} {s : State} → s.line ≤ s.at → Joined text s s
begin-joined h = record { line = h; all = λ w f y. begin 8 y }

pub joined : {text : List ℕ} {s₀ s : State} (j : Joined text s₀ s) (h : s.at < length text) (a : is_rules s₀.section ≡ true) {x : Section} (ex : x ≡ s₀.section)
    {e : ℕ} (he : e ≡ s.at + line_len (drop s.at text)) → cond (is_some s.group) (plain_by (start_trimmed (drop s.at (take e text)))) false ≡ true
    → {t : State} → t ≡ moved_to s x s.counts e → Joined text s₀ t
joined {text} {s₀} {s} j h a {x} ex {e} he b {t} es = record {
  line = rw es (omega (arith, j.line, end_more text s.at e h he));
  all = λ w f y.
      let g = j.all w f y in
      let q = both (is_some s.group) (plain_by (start_trimmed (drop s.at (take e text)))) b in
      let es' : t ≡ moved_to s s.section s.counts e = es ∙ ap (λ (v : Section). moved_to s v s.counts e) (ex ∙ sym g.sec) in
      come g h (way-joined (fits g.ready h) he (ap is_rules g.sec ∙ a) q.0 q.1 es') refl refl refl (ap (λ (v : State). v.section) es');
}

pub left-joined : {text : List ℕ} {s₀ s : State} → Joined text s₀ s → is_rules s₀.section ≡ true → (w : List ℕ) (f : List Float) → Ready text s₀ w f
    → Onward text 8 s₀ w f s w f × LeftAt text w f s None
left-joined j a w f y = let g = j.all w f y in (g.onward, left-unstored (λ _ x. never (sym x ∙ ap is_rules g.sec ∙ a)))

-- ---- after lines of class k
pub ready-after : {text : List ℕ} {k : ℕ} {s : State} {w : List ℕ} {f : List Float} {t : State} {w' : List ℕ} {f' : List Float} → Ready text s w f → Onward text k s w f t w' f' → Ready text t w' f'
ready-after {text} y (none a b c) = same (Ready text) a b c y
ready-after {text} y (more r o h go a b c e) = same (Ready text) e refl refl (after_line (ready-after y o) go)

pub at_after : {text : List ℕ} {k : ℕ} {s : State} {w : List ℕ} {f : List Float} {t : State} {w' : List ℕ} {f' : List Float} → Ready text s w f → Onward text k s w f t w' f' → s.at ≤ t.at
at_after y (none a b c) = omega (arith, ap (λ (x : State). x.at) a)
at_after y (more r o h go a b c e) =
    let z = ready-after y o in
    omega (arith, at_after y o, further h (go z.m z.stands), ap (λ (x : State). x.at) e)
