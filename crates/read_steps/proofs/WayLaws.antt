-- Each way through the functions of one line, from what the code knows there. Assumes nothing.
use Prim.Native.Nat.{ℕ, ◌+◌}
use mathlib.Core.Path.{◌≡◌, refl, sym, ap, ◌∙◌, subst}
use mathlib.Core.Bool.{Bool, true, false, cond}
use mathlib.Core.List.{List, [], map}
use lib.ListN.{take, drop}
use lib.Ieee.{Float}
use Rattle.leaf_fields.specs.Fields.{Name, start_at}
use Rattle.leaf_scans.specs.Lines.{line_len, start_trimmed}
use Rattle.leaf_scans.proofs.LineLaws.{body_is}
use Rattle.leaf_fields.proofs.FieldLaws.{drop-take}
use Rattle.scope_lines.specs.Reader as L
use Rattle.scope_lines.specs.Reader.{Outcome, still, joins, closes, itself, last, is_blank, is_header, is_passed, still_class, code, if_open, of_stored, shut, act, step, empty, heading, start, other}
use Rattle.scope_lines.specs.Text.{Line, body_at, line_at}
use Rattle.scope_lines.specs.Stretch.{own_by, sec_by}
use Rattle.scope_lines.proofs.Stretch.{is_open-law}
use Rattle.scope.specs.declared.Section.{Section}
use Rattle.scope.specs.declared.Section.TheVariants.{Junctions, Reservoirs, Tanks, Pipes, Pumps, Valves, Curves, Patterns, Demands, Emitters, Coordinates, Times, Rules, Passed}
use Rattle.scope.specs.declared.Counts.{Counts}
use Rattle.scope.specs.declared.Reason.{Reason}
use Rattle.scope.specs.Sections.{is_rules}
use Rattle.scope.specs.Answers.{reason_no}
use Rattle.scope.specs.Records.{Network}
use Rattle.scope.specs.Values.{Read, good, bad}
use Rattle.scope.specs.Rules.{group_step}
use Rattle.scope.specs.Lines.{sort_of, section_fields, rule_fields, verdict, step_of, inp}
use Rattle.table_rows.specs.Holding.{Holds, After}
use Rattle.table_rows.proofs.AfterLaws.{after-stored, after-refused}
use Rattle.read_headers.specs.Own.{sort_in, is_data, plain_by, group_fields}
use Rattle.read_headers.specs.Sections.{passes_over}
use Rattle.read_headers.specs.declared.Sort.{Sort}
use Rattle.read_headers.specs.declared.Sort.TheVariants as sort
use Rattle.read_headers.proofs.OwnLaws.{own-rules, plain-sort}
use Rattle.read_steps.specs.Held.{Model, Carries, Fits, Unstored, Stepped, Goes, own_line, closes_by, moved_to, joined_to, shut_to, quiet, plain_turn}
use Rattle.std.specs.Prelude.{Option, None, Some, is_some, Err, Ok, Result}
use Rattle.std.proofs.lemmas.Option.{none-some}
use Rattle.read_steps.specs.declared.OpenGroup.{OpenGroup}
use Rattle.read_steps.specs.declared.State.{State}
use Rattle.read_steps.specs.declared.Turn.{Turn}
use Rattle.read_steps.proofs.StepLaws.{never, still-step, joins-step, closed-step, rejected-step}

pub both : (a b : Bool) → cond a b false ≡ true → (a ≡ true) × (b ≡ true)
both true b z = (refl, z)
both false b z = (z, never z)

-- the group that is tested
both-some : {A : Type 0} (a : Bool) (g : Option A) {x : A} → cond a g None ≡ Some x → (a ≡ true) × (g ≡ Some x)
both-some true g z = (refl, z)
both-some false g z = absurd (none-some _ z)

some-of : {A : Type 0} (g : Option A) → is_some g ≡ true → (x : A) × (g ≡ Some x)
some-of (Some x) z = (x, refl)
some-of None z = never z

-- where a group is open, to join it is to move on
joined-open : (s : State) (e : ℕ) (g : OpenGroup) → s.group ≡ Some g → moved_to s s.section s.counts e ≡ joined_to s e
joined-open s e g eg = rw eg

-- a line closes a group only where one is open
pub closes-open : (k : L.Sort Section) (x : Section) (g : Option OpenGroup) {o : OpenGroup} → closes_by k x g ≡ Some o → g ≡ Some o
closes-open empty x g z = z
closes-open (heading y) x g z = absurd (none-some _ z)
closes-open start x g z = (both-some (is_rules x) g z).1
closes-open other x g z = absurd (none-some _ z)

-- a line that is neither blank nor a header
pub data-own : (k : L.Sort Section) → is_data k ≡ true → (x : Section) → own_by is_rules k x ≡ is_rules x
data-own empty d x = never d
data-own (heading y) d x = never d
data-own start d x = refl
data-own other d x = refl

pub data-sec : (k : L.Sort Section) → is_data k ≡ true → (x : Section) → sec_by k x ≡ x
data-sec empty d x = never d
data-sec (heading y) d x = never d
data-sec start d x = refl
data-sec other d x = refl

-- ---- what the definitions say of a line
pub becomes : {text w : List ℕ} {f : List Float} {s : State} {l : Line} {m : Model} {o o' : Outcome Section Network} {r : Turn} → o ≡ o' → Stepped text s l m o' r w f → Stepped text s l m o r w f
becomes {text} {w} {f} {s} {l} {m} {r = r} e st = subst (λ x. Stepped text s l m x r w f) (sym e) st

passed_over : (x : Section) (fs : List Name) (n : Network) → passes_over x ≡ true → (is_rules x ≡ false) × (step_of x fs n ≡ L.over)
unfolding step_of
passed_over Junctions fs n a = never a
passed_over Reservoirs fs n a = never a
passed_over Tanks fs n a = never a
passed_over Pipes fs n a = never a
passed_over Pumps fs n a = never a
passed_over Valves fs n a = never a
passed_over Curves fs n a = never a
passed_over Patterns fs n a = never a
passed_over Demands fs n a = never a
passed_over Emitters fs n a = never a
passed_over Coordinates fs n a = never a
passed_over Times fs n a = never a
passed_over Rules fs n a = never a
passed_over Passed fs n a = (refl, refl)

module _ (m : Model) (l : Line) (x : Section) (e : m.sec ≡ x) where
  passes : passes_over x ≡ true → act inp false other (is_rules m.sec) m l ≡ still is_passed x
  unfolding act inp of_stored
  passes b = let p = passed_over x (section_fields l) m.recs b in rw (e, p.0, p.1)

  joining : is_rules x ≡ true → act inp false other (is_rules m.sec) m l ≡ joins
  unfolding act
  joining a = rw (e, a)

-- a verdict on what the code answers
verdict-good : (o : Read Network) {n : Network} → o ≡ good n → verdict o ≡ L.good n
verdict-good o e = ap verdict e

verdict-bad : (o : Read Network) {n : Reason} → o ≡ bad n → verdict o ≡ L.bad (reason_no n)
verdict-bad o e = ap verdict e

module _ {text w : List ℕ} {f : List Float} {s : State} (fit : Fits text s w f) {e : ℕ} (he : e ≡ s.at + line_len (drop s.at text)) where
  abbrev here : Line
  here = line_at text s.at (s.line + 1)

  -- ---- close
  shut-is : (m : Model) → Carries text s w f m → (g : OpenGroup) → s.group ≡ Some g → shut inp m ≡ verdict (group_step (group_fields text s.at g.first) m.recs)
  unfolding shut inp
  shut-is m hs g eg =
      let gr = hs.group g eg in
      is_open-law m.group gr.stretch.named gr.stretch.some (verdict (group_step (map rule_fields m.group) m.recs)) (L.good m.recs)
      ∙ ap (λ x. verdict (group_step x m.recs)) gr.fields

  module _ {w' : List ℕ} {f' : List Float} {k : Result Counts Reason} (d : Bool) (g : OpenGroup) (eg : s.group ≡ Some g)
      (ens : (n : Network) → Holds text n s.counts w f → After text (group_step (group_fields text s.at g.first) n) k w f w' f') where
    pub way-closed : {c : Counts} {st : State} {cl : ℕ} → k ≡ Ok c → st ≡ shut_to s c e → cl ≡ cond d 6 1
        → Goes text s w f (λ m l. closes (shut inp m) (own_line d m.sec)) (record { state = st; class = cl; closed = Some (record { first = g.no; class = 6 }); refused = None }) w' f'
    way-closed {c} z es ec m hs =
        let o : Read Network = group_step (group_fields text s.at g.first) m.recs in
        let p = after-stored text w w' f f' o k c (ens m.recs hs.recs) z in
        becomes (ap (λ v. closes v (own_line d m.sec)) (shut-is m hs g eg ∙ verdict-good o p.1))
        (rw (es, ec) (closed-step hs fit.more e he g eg d p.0 c p.2))

    pub way-rejected : {n : Reason} {st : State} {cl : ℕ} → k ≡ Err n → st ≡ shut_to s s.counts e → cl ≡ cond d 7 1
        → Goes text s w f (λ m l. closes (shut inp m) (own_line d m.sec)) (record { state = st; class = cl; closed = Some (record { first = g.no; class = 7 }); refused = Some (record { reason = n; piece = g.no }) }) w' f'
    way-rejected {n} z es ec m hs =
        let o : Read Network = group_step (group_fields text s.at g.first) m.recs in
        let p = after-refused text w w' f f' o k n (ens m.recs hs.recs) z in
        becomes (ap (λ v. closes v (own_line d m.sec)) (shut-is m hs g eg ∙ verdict-bad o p.0))
        (rw (es, ec) (rejected-step hs fit.more e he g eg d n p.1 p.2))

  -- ---- the line, by its sort
  pub body-at : drop s.at (take e text) ≡ body_at text s.at
  body-at = drop-take s.at e text ∙ body_is text s.at e fit.more he

  pub sort-here : {k : L.Sort Section} → k ≡ sort_of (drop s.at (take e text)) → sort_of (body_at text s.at) ≡ k
  sort-here q = ap sort_of (sym body-at) ∙ sym q

  -- it closes the group
  closing : (k : L.Sort Section) (g : OpenGroup) → closes_by k s.section s.group ≡ Some g → (m : Model) (l : Line) → Carries text s w f m
      → act inp false k (is_rules m.sec) m l ≡ closes (shut inp m) (own_line (own_by is_rules k s.section) m.sec)
  unfolding act
  closing empty g z m l hs =
      let st = (hs.group g z).stretch in
      is_open-law {X = Outcome Section Network} m.group st.named st.some (closes (shut inp m) (itself is_blank m.sec)) (still is_blank m.sec)
  closing (heading y) g z m l hs = absurd (none-some _ z)
  closing start g z m l hs =
      let b = both-some (is_rules s.section) s.group z in
      let st = (hs.group g b.1).stretch in
      rw (ap is_rules hs.sec ∙ b.0, b.0) (is_open-law {X = Outcome Section Network} m.group st.named st.some (closes (shut inp m) last) joins)
  closing other g z m l hs = absurd (none-some _ z)

  -- it closes nothing, and is neither blank nor a header
  start-other : (m : Model) (l : Line) (t : Bool) → is_rules m.sec ≡ t → (t ≡ true → m.group ≡ [])
      → act inp false start (is_rules m.sec) m l ≡ act inp false other (is_rules m.sec) m l
  unfolding act if_open
  start-other m l true a b = rw (a, b refl)
  start-other m l false a b = rw a

  as-other : (k : L.Sort Section) → is_data k ≡ true → closes_by k s.section s.group ≡ None → (m : Model) (l : Line) → Carries text s w f m
      → act inp false k (is_rules m.sec) m l ≡ act inp false other (is_rules m.sec) m l
  as-other empty d z m l hs = never d
  as-other (heading y) d z m l hs = never d
  as-other start d z m l hs = start-other m l (is_rules s.section) (ap is_rules hs.sec) (λ a. hs.none (rw a at z))
  as-other other d z m l hs = refl

  -- it closes nothing
  blanks : (m : Model) (l : Line) (t : Bool) → m.group ≡ [] → act inp false empty t m l ≡ still is_blank m.sec
  unfolding act if_open
  blanks m l t z = rw z

  headed : (m : Model) (l : Line) (t : Bool) (x : Section) → act inp false (heading x) t m l ≡ still is_header x
  unfolding act
  headed m l t x = refl

  plain_in : is_rules s.section ≡ true → plain_turn s e ≡ quiet (joined_to s e) 8
  plain_in a = rw a

  plain_over : is_rules s.section ≡ false → plain_turn s e ≡ quiet (moved_to s s.section s.counts e) 3
  plain_over a = rw a

  module _ (k : Sort) (ek : sort_of (body_at text s.at) ≡ sort_in k) where
    steps : (m : Model) → step inp false m here ≡ act inp false (sort_in k) (is_rules m.sec) m here
    unfolding step inp
    steps m = ap (λ y. act inp false y (is_rules m.sec) m here) ek

    own_is : {x : Sort} → k ≡ x → own_by is_rules (sort_of (body_at text s.at)) s.section ≡ own_by is_rules (sort_in x) s.section
    own_is q = ap (λ y. own_by is_rules y s.section) (ek ∙ ap sort_in q)

    sec-is : {x : Sort} → k ≡ x → sec_by (sort_of (body_at text s.at)) s.section ≡ sec_by (sort_in x) s.section
    sec-is q = ap (λ y. sec_by y s.section) (ek ∙ ap sort_in q)

    steps-as : {x : Sort} → k ≡ x → (m : Model) → step inp false m here ≡ act inp false (sort_in x) (is_rules m.sec) m here
    steps-as q m = steps m ∙ ap (λ y. act inp false (sort_in y) (is_rules m.sec) m here) q

    pub way-closes : {d : Bool} {g : OpenGroup} {r : Turn} {w' : List ℕ} {f' : List Float} → closes_by (sort_in k) s.section s.group ≡ Some g → d ≡ own_by is_rules (sort_in k) s.section
        → Goes text s w f (λ m l. closes (shut inp m) (own_line d m.sec)) r w' f' → Goes text s w f (step inp false) r w' f'
    way-closes {g = g} z ed go m hs = becomes (steps m ∙ closing (sort_in k) g z m here hs ∙ ap (λ y. closes (shut inp m) (own_line y m.sec)) (sym ed)) (go m hs)

    pub way-header : {r : Turn} {x : Section} → k ≡ sort.Heading x → r ≡ quiet (moved_to s x s.counts e) 2 → Goes text s w f (step inp false) r w f
    unfolding still_class code
    way-header {x = x} q er m hs =
        becomes (steps-as q m ∙ headed m here (is_rules m.sec) x) (rw er (still-step hs fit.more e he is_header x (own_is q) (sec-is q)))

    module _ (z : closes_by (sort_in k) s.section s.group ≡ None) where
      pub way-blank : {r : Turn} → k ≡ sort.Empty → r ≡ quiet (moved_to s s.section s.counts e) 1 → Goes text s w f (step inp false) r w f
      unfolding still_class code
      way-blank q er m hs =
          let g : s.group ≡ None = sym (ap (λ y. closes_by (sort_in y) s.section s.group) q) ∙ z in
          becomes (steps-as q m ∙ blanks m here (is_rules m.sec) (hs.none g) ∙ ap (still is_blank) hs.sec)
          (rw er (still-step hs fit.more e he is_blank s.section (own_is q) (sec-is q)))

      pub way-plain : {r : Turn} → is_data (sort_in k) ≡ true → Unstored (sort_in k) s.section → r ≡ plain_turn s e → Goes text s w f (step inp false) r w f
      unfolding still_class code
      way-plain {r} d u er m hs = go (is_rules s.section) refl
        where
          acts : step inp false m here ≡ act inp false other (is_rules m.sec) m here
          acts = steps m ∙ as-other (sort_in k) d z m here hs

          own : own_by is_rules (sort_of (body_at text s.at)) s.section ≡ is_rules s.section
          own = own_is refl ∙ data-own (sort_in k) d s.section

          sec : sec_by (sort_of (body_at text s.at)) s.section ≡ s.section
          sec = sec-is refl ∙ data-sec (sort_in k) d s.section

          go : (t : Bool) → is_rules s.section ≡ t → Stepped text s here m (step inp false m here) r w f
          go true a =
              let q : r ≡ quiet (joined_to s e) 8 = er ∙ plain_in a in
              becomes (acts ∙ joining m here s.section hs.sec a) (rw q (joins-step hs fit.more e he (own ∙ a) sec (own-rules other s.section a)))
          go false a =
              let q : r ≡ quiet (moved_to s s.section s.counts e) 3 = er ∙ plain_over a in
              becomes (acts ∙ passes m here s.section hs.sec (u d a)) (rw q (still-step hs fit.more e he is_passed s.section (own ∙ a) sec))

  -- ---- a line that joins the open group
  pub way-joined : {st : State} → is_rules s.section ≡ true → is_some s.group ≡ true → plain_by (start_trimmed (drop s.at (take e text))) ≡ true → st ≡ moved_to s s.section s.counts e
      → Goes text s w f (step inp false) (quiet st 8) w f
  way-joined a g b es =
      let k : sort_of (body_at text s.at) ≡ other = sort-here (plain-sort (take e text) s.at (start_at (take e text) s.at) refl b) in
      let o = some-of s.group g in
      way-plain sort.Other k refl refl (λ _ y. never (sym y ∙ a)) (ap (λ x. quiet x 8) (es ∙ joined-open s e o.0 o.1) ∙ sym (plain_in a))
