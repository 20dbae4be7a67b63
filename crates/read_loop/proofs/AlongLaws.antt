-- A turn of the loop of both readings, and its end. Assumes nothing.
use Prim.Native.Nat.{ℕ, ◌-◌, ◌≤◌, ◌<◌}
use native.Mathlib.Omega.{arith}
use mathlib.Core.Path.{◌≡◌, refl, ap, ◌∙◌}
use mathlib.Core.Bool.{Bool, true, false, cond}
use mathlib.Core.List.{List}
use lib.ListN.{length, set}
use lib.Ieee.{Float}
use Rattle.scope_lines.specs.Reader.{step}
use Rattle.scope.specs.Sections.{room_lines, room_text}
use Rattle.scope.specs.Records.{Network, no_network, counts_of}
use Rattle.scope.specs.Series.{resolved}
use Rattle.scope.specs.Lines.{inp}
use Rattle.table_rows.specs.Holding.{Holds}
use Rattle.read_steps.specs.Held.{Goes, new_state}
use Rattle.std.specs.Prelude.{None, Some, IfSome}
use Rattle.std.proofs.lemmas.Option.{none-some}
use Rattle.read_marks.specs.declared.Refusal.{Refusal}
use Rattle.read_marks.specs.Marked.{closed_in, refused_in}
use Rattle.read_steps.specs.declared.State.{State}
use Rattle.read_steps.specs.declared.Turn.{Turn}
use Rattle.read_marks.specs.Filled.{filled}
use Rattle.read_runs.specs.Onward.{Ready, Onward}
use Rattle.read_runs.proofs.OnwardLaws.{further, ready-after, after_line}
use Rattle.read_loop.specs.Over.{Unmarked, Done, Overseen}
use Rattle.read_loop.proofs.GoneLaws as gone
use Rattle.read_loop.proofs.GoneLaws.{Gone}
use Rattle.read_loop.proofs.SweptLaws as swept
use Rattle.read_loop.proofs.SweptLaws.{Swept}

-- ---- how far the loop has come, a survey where b is true: the classes have room nc, and the reasons nr
pub record Along (b : Bool) (text : List ℕ) (nc nr : ℕ) (w : List ℕ) (f : List Float) (c r : List ℕ) (s : State) : Type 0 where
  pub strict : b ≡ false → Gone text s w f
  pub survey : b ≡ true → Swept text nc nr w f c r s
  pub room : b ≡ true → (nc ≡ room_lines) × (nr ≡ room_lines)
  pub ready : Ready text s w f
  pub long_c : length c ≡ nc
  pub long_r : length r ≡ nr

pub begin : (b : Bool) (text w : List ℕ) (f : List Float) (c r : List ℕ) (s : State) → s ≡ new_state → length text ≤ room_text → Holds text no_network (counts_of no_network) w f → (b ≡ true → Unmarked c r)
    → Along b text (length c) (length r) w f c r s
begin b text w f c r s e h d u =
    record {
      strict = λ z. gone.begin text w f s e d;
      survey = λ z. swept.sweep text w f c r s e d (u z).2 (u z).3;
      room = λ z. ((u z).0, (u z).1);
      ready = record { m = (gone.begin text w f s e d).m; stands = (gone.begin text w f s e d).stands; short = h };
      long_c = refl;
      long_r = refl;
    }

module _ {b : Bool} {text : List ℕ} {nc nr : ℕ} {w : List ℕ} {f : List Float} {c r : List ℕ} {s : State} (g : Along b text nc nr w f c r s) where
  room_c : b ≡ true → length text ≤ nc
  room_c z = omega (arith, g.ready.short, (g.room z).0)

  room_r : b ≡ true → length text ≤ nr
  room_r z = omega (arith, g.ready.short, (g.room z).1)

  -- ---- plain lines
  module _ {k : ℕ} {t : State} {w' : List ℕ} {f' : List Float} (o : Onward text k s w f t w' f') where
    pub plain-asks : b ≡ true → (s.line ≤ t.line) × (t.line ≤ length c)
    plain-asks z = swept.lines-ask (g.survey z) (room_c z) (room_r z) o

    pub plain-on : {c' : List ℕ} → c' ≡ cond b (filled c s.line (t.line - s.line) k) c → length c' ≡ length c → Along b text nc nr w' f' c' r t
    plain-on e l =
        record {
          strict = λ z. gone.gone-after (g.strict z) o;
          survey = λ z. swept.swept-marked (g.survey z) (room_c z) (room_r z) o (e ∙ ap (λ (x : Bool). cond x (filled c s.line (t.line - s.line) k) c) z);
          room = g.room;
          ready = ready-after g.ready o;
          long_c = l ∙ g.long_c;
          long_r = g.long_r;
        }

  -- ---- any line
  module _ (h : s.at < length text) {t : Turn} {w' : List ℕ} {f' : List Float} (go : Goes text s w f (step inp false) t w' f') where
    pub onward : s.at < t.state.at
    onward = further h (go g.ready.m g.ready.stands)

    pub turn-asks : b ≡ true → (s.line < length c) × IfSome t.closed (λ c. (0 < c.first) × (c.first ≤ s.line)) × IfSome t.refused (λ x. (0 < x.piece) × (x.piece ≤ length r))
    turn-asks z = (
      swept.line-asks (g.survey z) h (room_c z) (room_r z) go,
      swept.class-asks (g.survey z) h (room_c z) (room_r z) go,
      rw g.long_r (swept.reason-asks (g.survey z) h (room_c z) (room_r z) go),
    )

    pub turn_on : {c' r' : List ℕ} → cond b None t.refused ≡ None
        → c' ≡ cond b (set (closed_in t.closed s.line c) s.line t.class) c → length c' ≡ length c
        → r' ≡ cond b (refused_in t.refused r) r → length r' ≡ length r
        → Along b text nc nr w' f' c' r' t.state
    turn_on y ec lc er lr =
        record {
          strict = λ z. gone.turn (g.strict z) h go (rw z at y);
          survey = λ z. swept.swept-on (g.survey z) h (room_c z) (room_r z) go
              (ec ∙ ap (λ (x : Bool). cond x (set (closed_in t.closed s.line c) s.line t.class) c) z) lc
              (er ∙ ap (λ (x : Bool). cond x (refused_in t.refused r) r) z) lr;
          room = g.room;
          ready = after_line g.ready go;
          long_c = lc ∙ g.long_c;
          long_r = lr ∙ g.long_r;
        }

    pub turn-stops : {x : Refusal} {c' r' : List ℕ} (n : ℕ) → cond b None t.refused ≡ Some x
        → (b ≡ false → Done text w' f' (Some x) t.state.counts) × (b ≡ true → Overseen text w' f' c' r' n t.state.counts)
    turn-stops n y = (λ z. gone.halt (g.strict z) h go (rw z at y), λ z. absurd (none-some _ (rw z at y)))

  -- ---- the end
  pub ended : {w' : List ℕ} → length text ≤ s.at → ((n : Network) (y : List Float) → Holds text n s.counts w y → Holds text (resolved n) s.counts w' y)
      → (b ≡ false → Done text w' f None s.counts) × (b ≡ true → Overseen text w' f c r s.line s.counts)
  ended h res = (λ z. gone.ended (g.strict z) h res, λ z. swept.overseen (g.survey z) h (g.room z).0 (g.room z).1 res)
