-- A turn of strict reading, and its end. Assumes nothing.
use Prim.Native.Nat.{ℕ, ◌+◌, ◌≤◌, ◌<◌}
use native.Mathlib.Omega.{arith}
use mathlib.Core.Path.{◌≡◌, refl, sym, ap, ap₂, ◌∙◌, subst}
use mathlib.Core.Bool.{false}
use mathlib.Core.List.{List}
use lib.ListN.{length}
use lib.Ieee.{Float}
use Rattle.scope_lines.specs.Reader.{accepted, settle, unless, next, step, ending, end_verdict}
use Rattle.scope_lines.specs.Text.{line_at}
use Rattle.scope_lines.proofs.Loops.{Going, going_start, going_on, going-stops, going-ends}
use Rattle.scope.specs.declared.Section.TheVariants.{Passed}
use Rattle.scope.specs.Records.{Network, no_network, counts_of}
use Rattle.scope.specs.Series.{resolved}
use Rattle.scope.specs.Lines.{inp}
use Rattle.scope.specs.Reading.{at_start, says, told, strict_of, network_in}
use Rattle.table_rows.specs.Holding.{Holds}
use Rattle.read_steps.specs.Held.{Model, Carries, Stepped, Goes, new_state}
use Rattle.std.specs.Prelude.{None, Some}
use Rattle.std.proofs.lemmas.Option.{none-some, MatchOption-at_some}
use Rattle.scope.specs.Answers.{reason_no}
use Rattle.read_marks.specs.declared.Refusal.{Refusal}
use Rattle.read_marks.specs.Marked.{refused_no}
use Rattle.read_steps.specs.declared.State.{State}
use Rattle.read_steps.specs.declared.Turn.{Turn}
use Rattle.read_steps.proofs.StepLaws.{some-reason}
use Rattle.read_runs.specs.Onward.{Onward, none, more}
use Rattle.read_runs.proofs.OnwardLaws.{same}
use Rattle.read_loop.specs.Over.{Done}

-- ---- how far the loop has come
pub record Gone (text : List ℕ) (s : State) (w : List ℕ) (f : List Float) : Type 0 where
  pub m : Model
  pub stands : Carries text s w f m
  pub going : Going inp false Passed no_network text m s.at s.line

pub start-stands : (text w : List ℕ) (f : List Float) (s : State) → s ≡ new_state → Holds text no_network (counts_of no_network) w f → Carries text s w f at_start
start-stands text w f s e h = rw e (record { sec = refl; none = λ _. refl; group = λ g eg. absurd (none-some g eg); recs = h; line = omega arith; here = omega arith })

pub begin : (text w : List ℕ) (f : List Float) (s : State) → s ≡ new_state → Holds text no_network (counts_of no_network) w f → Gone text s w f
begin text w f s e h = record { m = at_start; stands = start-stands text w f s e h; going = rw e (going_start inp false Passed no_network text) }

module _ {text w : List ℕ} {f : List Float} {s : State} (g : Gone text s w f) where
  module _ {r : Turn} {w' : List ℕ} {f' : List Float} (h : s.at < length text) (go : Goes text s w f (step inp false) r w' f') where
    stepped : Stepped text s (line_at text s.at (s.line + 1)) g.m (step inp false g.m (line_at text s.at (s.line + 1))) r w' f'
    stepped = go g.m g.stands

    pub turn : r.refused ≡ None → Gone text r.state w' f'
    turn z =
        let st = stepped in
        record {
          m = next g.m (line_at text s.at (s.line + 1)) (step inp false g.m (line_at text s.at (s.line + 1)));
          stands = st.stands;
          going = going_on inp false Passed no_network text g.going st.tells h st.at st.line (ap refused_no z);
        }

    pub halt : {x : Refusal} → r.refused ≡ Some x → Done text w' f' (Some x) r.state.counts
    unfolding strict_of told network_in
    halt {x} z =
        let st = stepped in
        let n : refused_no r.refused ≡ reason_no x.reason = ap refused_no z in
        let at : x.piece ≡ st.piece = MatchOption-at_some _ _ x z st.named.refused in
        let p = going-stops inp false Passed no_network text g.going st.tells h st.at st.line (λ e. some-reason x.reason (sym n ∙ e)) in (
          ap₂ says (sym n) (at ∙ sym p.2) ∙ sym (ap told p.1),
          subst (λ (x : Network). Holds text x r.state.counts w' f') (sym (ap network_in p.1)) st.stands.recs,
        )

  pub ended : {w' : List ℕ} → length text ≤ s.at → ((n : Network) (y : List Float) → Holds text n s.counts w y → Holds text (resolved n) s.counts w' y) → Done text w' f None s.counts
  unfolding strict_of ending end_verdict unless settle told network_in inp
  ended {w'} h res =
      let e : strict_of text ≡ accepted (resolved g.m.recs) = going-ends inp false Passed no_network text g.going h in (
        sym (ap told e),
        subst (λ (x : Network). Holds text x s.counts w' f) (sym (ap network_in e)) (res g.m.recs f g.stands.recs),
      )

-- the loop behind lines that stop nothing
pub gone-after : {text : List ℕ} {k : ℕ} {s : State} {w : List ℕ} {f : List Float} {t : State} {w' : List ℕ} {f' : List Float} → Gone text s w f → Onward text k s w f t w' f' → Gone text t w' f'
gone-after {text} g (none a b c) = same (Gone text) a b c g
gone-after {text} g (more r o h go a b c e) = same (Gone text) e refl refl (turn (gone-after g o) h go c)
