-- A turn of a survey, and its end. Assumes nothing.
use Prim.Native.Nat.{ℕ, ◌+◌, ◌-◌, ◌≤◌, ◌<◌}
use native.Mathlib.Omega.{arith}
use mathlib.Core.Path.{◌≡◌, refl, sym, ap, ◌∙◌, subst}
use mathlib.Core.Bool.{false, cond}
use mathlib.Core.List.{List}
use lib.ListN.{length, take, set, replicate, length-set}
use lib.Dec.{eqb}
use lib.Ieee.{Float}
use Rattle.scope_lines.specs.Reader.{Outcome, step, next}
use Rattle.scope_lines.specs.Text.{Line, line_at}
use Rattle.scope_lines.specs.Tables.{code_of, reason_in, marks_in, refilled}
use Rattle.scope_lines.proofs.Loops as loops
use Rattle.scope.specs.declared.Section.{Section}
use Rattle.scope.specs.declared.Section.TheVariants.{Passed}
use Rattle.scope.specs.Sections.{room_lines}
use Rattle.scope.specs.Records.{Network, no_network, counts_of}
use Rattle.scope.specs.Series.{resolved}
use Rattle.scope.specs.Lines.{inp}
use Rattle.scope.specs.Reading.{at_start, marks_of, surveyed, survey_of}
use Rattle.table_rows.specs.Holding.{Holds}
use Rattle.read_steps.specs.Held.{Model, Carries, Stepped, Goes, new_state}
use borrow.Author.Tests.{ne_eqb}
use Rattle.std.specs.Prelude.{Option, None, Some, IfSome}
use Rattle.scope.specs.Answers.{reason_no}
use Rattle.read_marks.specs.declared.Closed.{Closed}
use Rattle.read_marks.specs.declared.Refusal.{Refusal}
use Rattle.read_marks.specs.Marked.{closed_no, refused_no, closed_in, refused_in}
use Rattle.read_steps.proofs.StepLaws.{some-reason}
use Rattle.read_steps.specs.declared.State.{State}
use Rattle.read_steps.specs.declared.Turn.{Turn}
use Rattle.read_marks.specs.Counted.{counted}
use Rattle.read_marks.specs.Filled.{filled}
use Rattle.read_marks.proofs.FilledLaws.{filled_more, filled_none}
use Rattle.read_runs.specs.Onward.{Onward, none, more}
use Rattle.read_runs.proofs.OnwardLaws.{same}
use Rattle.read_loop.specs.Over.{Overseen}
use Rattle.read_loop.proofs.GoneLaws.{start-stands}

-- ---- how far the loop has come: the classes have room nc, and the reasons nr
pub record Swept (text : List ℕ) (nc nr : ℕ) (w : List ℕ) (f : List Float) (c r : List ℕ) (s : State) : Type 0 where
  pub m : Model
  pub swept : loops.Swept inp false Passed no_network text m nc nr c r s.at s.line
  pub stands : Carries text s w f m
  pub long_c : length c ≡ nc
  pub long_r : length r ≡ nr

pub sweep : (text w : List ℕ) (f : List Float) (c r : List ℕ) (s : State) → s ≡ new_state → Holds text no_network (counts_of no_network) w f → c ≡ replicate (length c) 0 → r ≡ replicate (length r) 0
    → Swept text (length c) (length r) w f c r s
sweep text w f c r s e h zc zr = rw e (record {
  m = at_start;
  swept = loops.swept-start inp false Passed no_network text zc zr;
  stands = start-stands text w f new_state refl h;
  long_c = refl;
  long_r = refl;
})

module _ {text : List ℕ} {nc nr : ℕ} {w : List ℕ} {f : List Float} {c r : List ℕ} {s : State} (q : Swept text nc nr w f c r s) (h : s.at < length text) (hc : length text ≤ nc) (hr : length text ≤ nr)
    {t : Turn} {w' : List ℕ} {f' : List Float} (go : Goes text s w f (step inp false) t w' f') where
  abbrev l : Line
  l = line_at text s.at (s.line + 1)

  abbrev o : Outcome Section Network
  o = step inp false q.m l

  stepped : Stepped text s l q.m o t w' f'
  stepped = go q.m q.stands

  pub class-asks : IfSome t.closed (λ c. (0 < c.first) × (c.first ≤ s.line))
  class-asks = by t.closed refl stepped.named.closed
    where
      by : (x : Option Closed) → t.closed ≡ x → IfSome x (λ c. (c.first ≡ stepped.piece) × (c.class ≡ 0 → ⊥)) → IfSome x (λ c. (0 < c.first) × (c.first ≤ s.line))
      by None e n = tt
      by (Some c) e n =
          let p = loops.class-asks inp false Passed no_network text q.swept stepped.tells (λ z. n.1 (sym (ap closed_no e) ∙ z)) in
          (omega (arith, p.0, n.0), omega (arith, p.1, n.0))

  pub reason-asks : IfSome t.refused (λ x. (0 < x.piece) × (x.piece ≤ nr))
  reason-asks = by t.refused refl stepped.named.refused
    where
      by : (x : Option Refusal) → t.refused ≡ x → IfSome x (λ r. r.piece ≡ stepped.piece) → IfSome x (λ r. (0 < r.piece) × (r.piece ≤ nr))
      by None e n = tt
      by (Some r) e n =
          let p = loops.reason-asks inp false Passed no_network text q.swept stepped.tells (λ z. some-reason r.reason (sym (ap refused_no e) ∙ z)) in
          (omega (arith, p.0, n), omega (arith, p.1, n, q.stands.line))

  pub line-asks : s.line < length c
  line-asks = omega (arith, q.long_c, q.stands.line)

  -- the marks in the words of the numbers
  classes-by : (x : Option Closed) → IfSome x (λ c. (c.first ≡ stepped.piece) × (c.class ≡ 0 → ⊥))
      → closed_in x s.line c ≡ cond (eqb (closed_no x) 0) c (refilled c (stepped.piece - 1) s.line (closed_no x))
  classes-by None n = refl
  classes-by (Some x) n = rw (ne_eqb x.class 0 n.1) (ap (λ (i : ℕ). refilled c (i - 1) s.line x.class) n.0)

  reasons-by : (x : Option Refusal) → IfSome x (λ x. x.piece ≡ stepped.piece)
      → refused_in x r ≡ cond (eqb (refused_no x) 0) r (set r (stepped.piece - 1) (refused_no x))
  reasons-by None n = refl
  reasons-by (Some x) n = rw (ne_eqb (reason_no x.reason) 0 (some-reason x.reason)) (ap (λ (i : ℕ). set r (i - 1) (reason_no x.reason)) n)

  pub swept-on : {c' r' : List ℕ} → c' ≡ set (closed_in t.closed s.line c) s.line t.class → length c' ≡ length c → r' ≡ refused_in t.refused r → length r' ≡ length r
      → Swept text nc nr w' f' c' r' t.state
  swept-on ec lc er lr =
      let st = stepped in
      let ic : s.line < nc = omega (arith, q.stands.line) in
      let ir : s.line < nr = omega (arith, q.stands.line) in
      let ec' = ec ∙ ap (λ (x : List ℕ). set x s.line t.class) (classes-by t.closed st.named.closed) in
      record {
        m = next q.m l o;
        swept = loops.swept-on inp false Passed no_network text q.swept st.tells h st.at st.line ic ir ec' (er ∙ reasons-by t.refused st.named.refused);
        stands = st.stands;
        long_c = lc ∙ q.long_c;
        long_r = lr ∙ q.long_r;
      }

-- ---- behind lines of class k that stop nothing
same-swept : {text : List ℕ} {nc nr : ℕ} {w w' : List ℕ} {f f' : List Float} {c c' r : List ℕ} {s t : State} → t ≡ s → w' ≡ w → f' ≡ f → c' ≡ c
    → Swept text nc nr w f c r s → Swept text nc nr w' f' c' r t
same-swept {text} {nc} {nr} {w} {f = f} {c' = c'} {r} {s} a b d e q =
    same (λ (x : State) (y : List ℕ) (z : List Float). Swept text nc nr y z c' r x) a b d (subst (λ (x : List ℕ). Swept text nc nr w f x r s) (sym e) q)

module _ {text : List ℕ} {nc nr : ℕ} {w : List ℕ} {f : List Float} {c r : List ℕ} {s : State} (q : Swept text nc nr w f c r s) (hc : length text ≤ nc) (hr : length text ≤ nr) where
  pub swept-after : {k : ℕ} {t : State} {w' : List ℕ} {f' : List Float} → Onward text k s w f t w' f' → (s.line ≤ t.line) × Swept text nc nr w' f' (filled c s.line (t.line - s.line) k) r t
  swept-after {k} {t} (none a b d) =
      let e : t.line ≡ s.line = ap (λ (x : State). x.line) a in
      (omega (arith, e), same-swept a b d (ap (λ (x : ℕ). filled c s.line (x - s.line) k) e ∙ sym (filled_none c s.line k)) q)
  swept-after {k} {t = u} (more {t} v o h go a b d e) =
      let p = swept-after o in
      let st = stepped p.1 h hc hr go in
      let l : u.line ≡ t.line + 1 = ap (λ (x : State). x.line) e ∙ st.line in
      let fill : filled c s.line (u.line - s.line) k ≡ set (filled c s.line (t.line - s.line) k) t.line k =
      ap (λ (x : ℕ). filled c s.line (x - s.line) k) l ∙ sym (filled_more c s.line t.line k p.0) in
      (omega (arith, p.0, l), same-swept e refl refl fill (swept-on p.1 h hc hr go (rw (b, a)) (rw length-set) (rw d) refl))

  module _ {k : ℕ} {t : State} {w' : List ℕ} {f' : List Float} (o : Onward text k s w f t w' f') where
    pub lines-ask : (s.line ≤ t.line) × (t.line ≤ length c)
    lines-ask = let p = swept-after o in (p.0, omega (arith, p.1.stands.line, p.1.stands.here, q.long_c))

    pub swept-marked : {c' : List ℕ} → c' ≡ filled c s.line (t.line - s.line) k → Swept text nc nr w' f' c' r t
    swept-marked e = same-swept refl refl refl e (swept-after o).1

-- ---- the end
module _ {text : List ℕ} {nc nr : ℕ} {w : List ℕ} {f : List Float} {c r : List ℕ} {s : State} (q : Swept text nc nr w f c r s) (h : length text ≤ s.at) where
  counts-surveyed : counted (take s.line c) s.line ≡ survey_of text
  unfolding counted survey_of marks_of
  counts-surveyed =
      let k = loops.counts-are inp Passed no_network text q.swept h in
      rw (k 1, k 2, k 3, k 4, k 5, k 6, k 7, k 8, loops.lines_are inp false Passed no_network text q.swept h)

  recs-surveyed : resolved q.m.recs ≡ surveyed text
  unfolding surveyed inp
  recs-surveyed = loops.recs-are inp Passed no_network text q.swept h

  pub overseen : {w' : List ℕ} → nc ≡ room_lines → nr ≡ room_lines → ((n : Network) (y : List Float) → Holds text n s.counts w y → Holds text (resolved n) s.counts w' y)
      → Overseen text w' f c r s.line s.counts
  unfolding marks_of
  overseen {w' = w'} ec er res = (
    counts-surveyed,
    subst (λ (x : Network). Holds text x s.counts w' f) recs-surveyed (res q.m.recs f q.stands.recs),
    loops.classes-are inp Passed no_network text q.swept h ∙ ap (λ (n : ℕ). marks_in code_of n (marks_of text)) ec,
    loops.reasons-are inp Passed no_network text q.swept h ∙ ap (λ (n : ℕ). marks_in reason_in n (marks_of text)) er,
  )
