-- A line that its section stores, or refuses, from what the code knows there. Assumes nothing.
use Prim.Native.Nat.{ℕ, ◌+◌, ◌≤◌}
use native.Mathlib.Omega.{arith}
use mathlib.Core.Path.{◌≡◌, refl, sym, ap, ◌∙◌}
use mathlib.Core.Bool.{true, false}
use mathlib.Core.List.{List}
use lib.ListN.{length, take, drop, length-take, length-drop}
use lib.Ieee.{Float}
use Rattle.leaf_fields.specs.Fields.{Name, fields_of, fields_at}
use Rattle.leaf_fields.proofs.FieldLaws.{line-cut-fields}
use Rattle.leaf_scans.specs.Lines.{line_len, cut_of}
use Rattle.leaf_scans.proofs.LineLaws.{end-le, end_more, body_is, cut-prefix}
use Rattle.scope_lines.specs.Reader as L
use Rattle.scope_lines.specs.Reader.{filed, of_stored, act, step, empty, heading, start, other}
use Rattle.scope_lines.specs.Text.{Line, body_at, line_at}
use Rattle.scope_lines.specs.Stretch.{own_by, sec_by}
use Rattle.scope.specs.declared.Section.{Section}
use Rattle.scope.specs.declared.Section.TheVariants.{Junctions, Reservoirs, Tanks, Pipes, Pumps, Valves, Curves, Patterns, Demands, Emitters, Coordinates, Times, Rules, Passed}
use Rattle.scope.specs.declared.Counts.{Counts}
use Rattle.scope.specs.declared.Reason.{Reason}
use Rattle.scope.specs.Sections.{is_rules}
use Rattle.scope.specs.Records.{Network}
use Rattle.scope.specs.Values.{Read, bad}
use Rattle.scope.specs.Lines.{sort_of, section_fields, verdict, step_of, inp}
use Rattle.table_rows.specs.Holding.{Holds, After}
use Rattle.table_rows.proofs.AfterLaws.{after-stored, after-refused}
use Rattle.read_headers.specs.Own.{is_data}
use Rattle.read_headers.specs.Sections.{passes_over}
use Rattle.read_sections.specs.Storing.{line_step}
use Rattle.read_steps.specs.Held.{Model, Carries, Fits, Goes, moved_to, quiet}
use Rattle.std.specs.Prelude.{None, Some, Err, Ok, Result}
use Rattle.read_steps.specs.declared.State.{State}
use Rattle.read_steps.proofs.StepLaws.{never, taken_step, refused-step}
use Rattle.read_steps.proofs.WayLaws.{becomes, data-own, data-sec}

-- in a section that stores
stores : (x : Section) (fs : List Name) (n : Network) → is_rules x ≡ false → passes_over x ≡ false → step_of x fs n ≡ L.judged (verdict (line_step x fs n))
unfolding step_of
stores Junctions fs n a b = refl
stores Reservoirs fs n a b = refl
stores Tanks fs n a b = refl
stores Pipes fs n a b = refl
stores Pumps fs n a b = refl
stores Valves fs n a b = refl
stores Curves fs n a b = refl
stores Patterns fs n a b = refl
stores Demands fs n a b = refl
stores Emitters fs n a b = refl
stores Coordinates fs n a b = refl
stores Times fs n a b = refl
stores Rules fs n a b = never (sym a)
stores Passed fs n a b = never (sym b)

files : (k : L.Sort Section) (x : Section) → is_data k ≡ true → is_rules x ≡ false → passes_over x ≡ false → (m : Model) (l : Line) → m.sec ≡ x
    → act inp false k (is_rules m.sec) m l ≡ filed (verdict (line_step x (section_fields l) m.recs))
unfolding act inp of_stored
files empty x d a b m l e = never d
files (heading y) x d a b m l e = never d
files start x d a b m l e = rw (e, a, stores x (section_fields l) m.recs a b)
files other x d a b m l e = rw (e, a, stores x (section_fields l) m.recs a b)

module _ {text w : List ℕ} {f : List Float} {s : State} (fit : Fits text s w f) {e : ℕ} (he : e ≡ s.at + line_len (drop s.at text)) where
  abbrev here : Line
  here = line_at text s.at (s.line + 1)

  cut-le : (l : List ℕ) → length (cut_of l) ≤ length l
  cut-le l = omega (arith, ap length (cut-prefix l), length-take (length (cut_of l)) l)

  pub end-inside : {end : ℕ} → end ≡ s.at + length (cut_of (drop s.at (take e text))) → end ≤ length text
  end-inside z =
      omega (arith, cut-le (drop s.at (take e text)), length-drop s.at (take e text), length-take e text, end-le text s.at e fit.more he, end_more text s.at e fit.more he)

  body-cut : {end : ℕ} → end ≡ s.at + length (cut_of (drop s.at (take e text))) → fields_at (take end text) s.at ≡ section_fields here
  body-cut {end} z = line-cut-fields text s.at e end z ∙ ap (λ x. fields_of s.at (cut_of x)) (body_is text s.at e fit.more he)

  module _ (d : is_data (sort_of (body_at text s.at)) ≡ true) (a : is_rules s.section ≡ false) (b : passes_over s.section ≡ false)
      {end : ℕ} (z : end ≡ s.at + length (cut_of (drop s.at (take e text)))) where
    own : own_by is_rules (sort_of (body_at text s.at)) s.section ≡ false
    own = data-own (sort_of (body_at text s.at)) d s.section ∙ a

    sec : sec_by (sort_of (body_at text s.at)) s.section ≡ s.section
    sec = data-sec (sort_of (body_at text s.at)) d s.section

    steps : (m : Model) → Carries text s w f m → step inp false m here ≡ filed (verdict (line_step s.section (fields_at (take end text) s.at) m.recs))
    unfolding step inp
    steps m hs =
        files (sort_of (body_at text s.at)) s.section d a b m here hs.sec ∙ ap (λ x. filed (verdict (line_step s.section x m.recs))) (sym (body-cut z))

    module _ {w' : List ℕ} {f' : List Float} {k : Result Counts Reason}
        (ens : (n : Network) → Holds text n s.counts w f → After text (line_step s.section (fields_at (take end text) s.at) n) k w f w' f') where
      pub way-stored : {c : Counts} {st : State} → k ≡ Ok c → st ≡ moved_to s s.section c e
          → Goes text s w f (step inp false) (quiet st 4) w' f'
      way-stored {c} q es m hs =
          let o : Read Network = line_step s.section (fields_at (take end text) s.at) m.recs in
          let r = after-stored text w w' f f' o k c (ens m.recs hs.recs) q in
          becomes (steps m hs ∙ ap (λ x. filed (verdict x)) r.1) (rw es (taken_step hs fit.more e he own sec r.0 c r.2))

      unchanged : {n : Reason} → k ≡ Err n → (m : Model) → Carries text s w f m → (line_step s.section (fields_at (take end text) s.at) m.recs ≡ bad n) × (w' ≡ w) × (f' ≡ f)
      unchanged {n} q m hs = after-refused text w w' f f' (line_step s.section (fields_at (take end text) s.at) m.recs) k n (ens m.recs hs.recs) q

      pub way-refused : {n : Reason} → k ≡ Err n
          → (w' ≡ w) × (f' ≡ f)
          × Goes text s w f (step inp false)
          (record { state = moved_to s s.section s.counts e; class = 5; closed = None; refused = Some (record { reason = n; piece = s.line + 1 }) }) w f
      way-refused {n} q =
          let r = unchanged q fit.m fit.stands in
          (r.1, r.2, λ m hs. becomes (steps m hs ∙ ap (λ x. filed (verdict x)) (unchanged q m hs).0) (refused-step hs fit.more e he own sec n refl refl))
