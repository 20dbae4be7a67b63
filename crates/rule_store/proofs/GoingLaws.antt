-- A group's lines, read one after another, and the sketch that goes with them. Assumes nothing.
use Prim.Native.Nat.{ℕ, ◌≤◌, ◌<◌}
use native.Mathlib.Omega.{arith}
use mathlib.Core.Path.{◌≡◌, refl, sym, ap, ap₂, ◌∙◌, subst}
use mathlib.Core.Bool.{Bool}
use mathlib.Core.List.{List}
use lib.ListN.{length, take}
use Rattle.leaf_fields.specs.Fields.{fields_at}
use Rattle.leaf_fields.specs.declared.Span.{Span}
use Rattle.scope.specs.declared.Reason.{Reason}
use Rattle.scope.specs.Records.{Network}
use Rattle.scope.specs.Values.{Read, good, bad, on_read}
use Rattle.scope.specs.Rules.{Draft, line_of, lines_of, no_draft}
use Rattle.read_headers.specs.Own.{group_fields, NextHere}
use Rattle.rule_lines.specs.declared.Saying.{Saying}
use Rattle.rule_lines.specs.Lines.{Said, with_said, said_of, said_in, SayingFits}
use Rattle.rule_lines.proofs.LineLaws.{line-said, saying-fits-text, said-text, clauses-more}
use Rattle.rule_groups.specs.declared.Sketch.{Sketch}
use Rattle.rule_groups.specs.Sketches.{Sketched}

pub record Going (m : Network) (text : List ℕ) (at first p : ℕ) (q : Sketch) : Type 0 where
  pub d : Draft
  pub same : lines_of m no_draft (group_fields text at first) ≡ lines_of m d (group_fields text at p)
  pub sketched : Sketched text d q
  pub below : length d.clauses ≤ p

abbrev pub going_start : (m : Network) (text : List ℕ) (at first : ℕ) (q : Sketch) → Sketched text no_draft q → Going m text at first first q
going_start m text at first q h = record { d = no_draft; same = refl; sketched = h; below = omega arith }

-- one line more
module _ {m : Network} {text : List ℕ} {at first p : ℕ} {q : Sketch} (g : Going m text at first p q) (s : Span) (h : NextHere text at p s) (l : List ℕ) (el : l ≡ take s.end text) where
  line-is : (o : Read Said) → o ≡ said_of m q.acting q.otherwise (fields_at l s.at) → line_of m g.d (fields_at (take s.end text) s.at) ≡ on_read o (λ x. good (with_said x g.d))
  line-is o e =
      line-said m g.d (fields_at (take s.end text) s.at)
      ∙ ap (λ (x : Read Said). on_read x (λ y. good (with_said y g.d)))
      (ap₂ (λ (t u : Bool). said_of m t u (fields_at (take s.end text) s.at)) g.sketched.acting g.sketched.otherwise
      ∙ ap (λ (x : List ℕ). said_of m q.acting q.otherwise (fields_at x s.at)) (sym el) ∙ sym e)

  lines_are : (o : Read Said) → o ≡ said_of m q.acting q.otherwise (fields_at l s.at)
      → lines_of m g.d (group_fields text at p) ≡ on_read (on_read o (λ x. good (with_said x g.d))) (λ e. lines_of m e (group_fields text at s.end))
  unfolding lines_of
  lines_are o e = rw (h.whole, line-is o e)

  -- it is refused
  pub going-bad : (why : Reason) → bad why ≡ said_of m q.acting q.otherwise (fields_at l s.at) → lines_of m no_draft (group_fields text at first) ≡ bad why
  going-bad why e = g.same ∙ lines_are (bad why) e

  -- what was read of it is r
  module _ (r : Saying) (er : good (said_in l r) ≡ said_of m q.acting q.otherwise (fields_at l s.at)) (fr : SayingFits l r) where
    fits_line : SayingFits (take s.end text) r
    fits_line = subst (λ (x : List ℕ). SayingFits x r) el fr

    pub line-fits : SayingFits text r
    line-fits = saying-fits-text text s.end r fits_line

    pub next-same : lines_of m no_draft (group_fields text at first) ≡ lines_of m (with_said (said_in text r) g.d) (group_fields text at s.end)
    next-same = g.same ∙ lines_are (good (said_in text r))
        (ap (λ (x : Said). good x) (sym (said-text text s.end r fits_line) ∙ ap (λ (x : List ℕ). said_in x r) (sym el)) ∙ er)

    pub next-below : length (with_said (said_in text r) g.d).clauses ≤ s.end
    next-below = omega (arith, (clauses-more (said_in text r) g.d).1, g.below, h.after, h.some)

    abbrev pub going-with : (next : Sketch) → Sketched text (with_said (said_in text r) g.d) next → Going m text at first s.end next
    going-with next z = record { d = with_said (said_in text r) g.d; same = next-same; sketched = z; below = next-below }

pub falls : {text : List ℕ} {at p : ℕ} {s : Span} → NextHere text at p s → length (group_fields text at s.end) < length (group_fields text at p)
falls {text} {at} {p} {s} h = omega (arith, ap length h.whole)
