-- Lines one after another that stop nothing: each is of one class, is not refused and closes no group; and the line at which they end. Assumes nothing.
use Rattle.std.specs.Prelude.{ℕ, ◌+◌, ◌≤◌, ◌<◌, ◌≡◌, false, List, length, Float, Option, None, Some}
use Rattle.scope_lines.specs.Reader.{step}
use Rattle.scope_lines.specs.Text.{body_at}
use Rattle.scope.specs.declared.Reason.{Reason}
use Rattle.scope.specs.Lines.{sort_of, inp}
use Rattle.scope.specs.Sections.{room_text}
use Rattle.read_steps.specs.Held.{Model, Carries, Unstored, Goes, moved_to}
use Rattle.read_steps.specs.declared.State.{State}
use Rattle.read_steps.specs.declared.Turn.{Turn}

-- a reading stands at s, in a text that is not too long
pub record Ready (text : List ℕ) (s : State) (w : List ℕ) (f : List Float) : Type 0 where
  pub m : Model
  pub stands : Carries text s w f m
  pub short : length text ≤ room_text

-- from s on, lines of class k take the state to t, and the tables to w' and f': no line, or one line more
pub data Onward (text : List ℕ) (k : ℕ) (s : State) (w : List ℕ) (f : List Float) : State → List ℕ → List Float → Type 0 where
  none : {t : State} {w' : List ℕ} {f' : List Float} → t ≡ s → w' ≡ w → f' ≡ f → Onward text k s w f t w' f'
  more : {t u : State} {w₁ w' : List ℕ} {f₁ f' : List Float} (r : Turn) → Onward text k s w f t w₁ f₁ → t.at < length text → Goes text t w₁ f₁ (step inp false) r w' f'
      → r.class ≡ k → r.closed ≡ None → r.refused ≡ None → u ≡ r.state → Onward text k s w f u w' f'

-- the line at which they end, where the reading stands at s: it is refused for a reason, and ends at e; or no section stores it
pub record LeftAt (text : List ℕ) (w : List ℕ) (f : List Float) (s : State) (r : Option (Reason × ℕ)) : Type 0 where
  pub refused : (n : Reason) (e : ℕ) → r ≡ Some (n, e)
      → Goes text s w f (step inp false)
      (record { state = moved_to s s.section s.counts e; class = 5; closed = None; refused = Some (record { reason = n; piece = s.line + 1 }) }) w f
  pub left : r ≡ None → s.at < length text → Unstored (sort_of (body_at text s.at)) s.section
