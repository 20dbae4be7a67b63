-- What each thing that a line can do makes of the state and the tables. Assumes nothing.
use Prim.Native.Nat.{ℕ, ◌+◌, ◌≤◌, ◌<◌}
use native.Mathlib.Omega.{arith}
use mathlib.Core.Path.{◌≡◌, refl, sym, ap, ◌∙◌, subst}
use mathlib.Core.Bool.{Bool, true, false, cond}
use mathlib.Core.List.{List, [], ◌∷◌, ◌++◌, append-nil}
use lib.ListN.{length, drop}
use lib.Ieee.{Float}
use Rattle.leaf_scans.specs.Lines.{line_len}
use Rattle.leaf_scans.proofs.LineLaws.{end-le, end_more, body-long}
use Rattle.scope_lines.specs.Reader as L
use Rattle.scope_lines.specs.Reader.{Still, still_class, still, filed, joins, closes, settle, next, code, standing}
use Rattle.scope_lines.specs.Text.{Line, body_at, line_at}
use Rattle.scope_lines.specs.Stretch.{own_by, sec_by}
use Rattle.scope_lines.specs.Turn.{Tells, own_class}
use Rattle.scope_lines.proofs.Turn.{tells-still, tells-joins, tells-taken, tells-refused, tells-group-taken, tells-group-refused}
use Rattle.scope.specs.declared.Section.{Section}
use Rattle.scope.specs.declared.Section.TheVariants.{Rules}
use Rattle.scope.specs.declared.Counts.{Counts}
use Rattle.scope.specs.declared.Reason.{Reason}
use Rattle.scope.specs.declared.Reason.TheVariants.{Missing, Malformed, Used, NotFound, WrongKind, XFalls, UnknownWord, NoCondition, NoAction, NoId, TooLong}
use Rattle.scope.specs.declared.Reason.TheVariants.{HighByte, BeyondReach, NoRoom, SmallTable}
use Rattle.scope.specs.Sections.{is_rules}
use Rattle.scope.specs.Answers.{reason_no}
use Rattle.scope.specs.Records.{Network}
use Rattle.scope.specs.Lines.{sort_of}
use Rattle.table_rows.specs.Holding.{Holds, Sound}
use Rattle.read_steps.specs.Held.{Model, Group, Carries, Stepped, own_line, moved_to, joined_to, shut_to}
use Rattle.std.specs.Prelude.{Option, None, Some, unwrap_or}
use Rattle.std.proofs.lemmas.Option.{none-some, same_Some}
use Rattle.read_steps.specs.declared.OpenGroup.{OpenGroup}
use Rattle.read_steps.specs.declared.State.{State}
use Rattle.read_steps.proofs.GroupLaws.{group-on, group-new}

pub never : {X : Type 0} → false ≡ true → X
never e = let z : ◌≡◌ {A = ℕ} 0 1 = ap (λ (t : Bool). cond t 1 0) e in absurd (omega arith)

-- a reason has a number
pub some-reason : (n : Reason) → reason_no n ≡ 0 → ⊥
some-reason Missing e = omega arith
some-reason Malformed e = omega arith
some-reason Used e = omega arith
some-reason NotFound e = omega arith
some-reason WrongKind e = omega arith
some-reason XFalls e = omega arith
some-reason UnknownWord e = omega arith
some-reason NoCondition e = omega arith
some-reason NoAction e = omega arith
some-reason NoId e = omega arith
some-reason TooLong e = omega arith
some-reason HighByte e = omega arith
some-reason BeyondReach e = omega arith
some-reason NoRoom e = omega arith
some-reason SmallTable e = omega arith

-- the class of a line that closes a group of class k
own-class : (d : Bool) (x : Section) (k : ℕ) → own_class (own_line d x) k ≡ cond d k 1
unfolding own_class still_class code
own-class true x k = refl
own-class false x k = refl

retold : {m : Model} {l : Line} {o : L.Outcome Section Network} {a a' b c p p' : ℕ} → a ≡ a' → p ≡ p' → Tells m l o a b c p → Tells m l o a' b c p'
retold ea ep t = record { its-class = sym ea ∙ t.its-class; its-closed = t.its-closed; its-reason = t.its-reason; its-piece = sym ep ∙ t.its-piece; fair = t.fair }

module _ {text w : List ℕ} {f : List Float} {s : State} {m : Model} (hs : Carries text s w f m) (h : s.at < length text) (e : ℕ)
    (he : e ≡ s.at + line_len (drop s.at text)) where
  abbrev pub l : Line
  l = line_at text s.at (s.line + 1)

  abbrev pub k : L.Sort Section
  k = sort_of (body_at text s.at)

  long : e ≡ s.at + length (body_at text s.at)
  long = sym (body-long text s.at e h he)

  line-le : s.line + 1 ≤ e
  line-le = omega (arith, end_more text s.at e h he, hs.line)

  -- a line that is not the group's own
  on : (x : Section) → own_by is_rules k s.section ≡ false → sec_by k s.section ≡ x → (g : OpenGroup) → s.group ≡ Some g
      → Group text g.first g.no e x m.group
  on x o z g eg =
      subst (λ y. Group text g.first g.no e y m.group) z
      (subst (λ y. Group text g.first g.no e (sec_by k s.section) y) (append-nil m.group)
      (group-on text s.at e h he [] (hs.group g eg) (rw o) (rw o)))

  pub still-step : (c : Still) (x : Section) → own_by is_rules k s.section ≡ false → sec_by k s.section ≡ x
      → Stepped text s l m (still c x) (record { state = moved_to s x s.counts e; class = code (still_class c); closed = None; refused = None }) w f
  unfolding next
  still-step c x o z = record {
    stands = record { sec = refl; none = hs.none; group = on x o z; recs = hs.recs; line = line-le; here = end-le text s.at e h he };
    piece = 0;
    tells = tells-still m l c x;
    named = record { closed = tt; refused = tt };
    at = long;
    line = refl;
  }

  -- a line that joins the group, or opens one
  abbrev joined-group-of : Option OpenGroup → OpenGroup
  joined-group-of t = unwrap_or t (record { first = s.at; no = s.line + 1 })

  joined-group : own_by is_rules k s.section ≡ true → sec_by k s.section ≡ s.section → s.section ≡ Rules → (t : Option OpenGroup) → s.group ≡ t
      → Group text (joined-group-of t).first (joined-group-of t).no e s.section (m.group ++ (l ∷ []))
  joined-group o z r (Some g) eg =
      subst (λ y. Group text g.first g.no e y (m.group ++ (l ∷ []))) z (group-on text s.at e h he (l ∷ []) (hs.group g eg) (rw o) (rw o))
  joined-group o z r None eg = rw (hs.none eg) (group-new text s.at e h he (s.line + 1) s.section r (omega arith) o z)

  pub joins-step : own_by is_rules k s.section ≡ true → sec_by k s.section ≡ s.section → s.section ≡ Rules
      → Stepped text s l m joins (record { state = joined_to s e; class = 8; closed = None; refused = None }) w f
  unfolding next
  joins-step o z r = record {
    stands = record {
      sec = hs.sec;
      none = λ g. absurd (none-some _ (sym g));
      group = λ g eg.
          subst (λ (x : OpenGroup). Group text x.first x.no e s.section (m.group ++ (l ∷ []))) (same_Some _ _ eg) (joined-group o z r s.group refl);
      recs = hs.recs;
      line = line-le;
      here = end-le text s.at e h he;
    };
    piece = 0;
    tells = tells-joins m l;
    named = record { closed = tt; refused = tt };
    at = long;
    line = refl;
  }

  -- a line that is judged: the counts c and the tables hold the network n
  module _ {w' : List ℕ} {f' : List Float} (o : own_by is_rules k s.section ≡ false) (z : sec_by k s.section ≡ s.section) where
    stored-stands : (n : Network) (c : Counts) → Holds text n c w' f' → Carries text (moved_to s s.section c e) w' f' (standing m.sec m.group n)
    stored-stands n c hd = record { sec = hs.sec; none = hs.none; group = on s.section o z; recs = hd; line = line-le; here = end-le text s.at e h he }

    pub taken_step : (n : Network) (c : Counts) → Holds text n c w' f'
        → Stepped text s l m (filed (L.good n)) (record { state = moved_to s s.section c e; class = 4; closed = None; refused = None }) w' f'
    unfolding next settle
    taken_step n c hd = record {
      stands = stored-stands n c hd;
      piece = s.line + 1;
      tells = tells-taken m l n;
      named = record { closed = tt; refused = tt };
      at = long;
      line = refl;
    }

    pub refused-step : (n : Reason) → w' ≡ w → f' ≡ f
        → Stepped text s l m (filed (L.bad (reason_no n))) (record { state = moved_to s s.section s.counts e; class = 5; closed = None; refused = Some (record { reason = n; piece = s.line + 1 }) }) w' f'
    unfolding next settle
    refused-step n ew ef = record {
      stands = stored-stands m.recs s.counts (rw (ew, ef) hs.recs);
      piece = s.line + 1;
      tells = tells-refused m l (reason_no n) (some-reason n);
      named = record { closed = tt; refused = refl };
      at = long;
      line = refl;
    }

  -- the group closes
  module _ {w' : List ℕ} {f' : List Float} (g : OpenGroup) (eg : s.group ≡ Some g) where
    shut-stands : (n : Network) (c : Counts) → Holds text n c w' f' → Carries text (shut_to s c e) w' f' (standing m.sec [] n)
    shut-stands n c hd = record { sec = hs.sec; none = λ _. refl; group = λ x ex. absurd (none-some x ex); recs = hd; line = line-le; here = end-le text s.at e h he }

    closed-stands : (d : Bool) (v : L.Verdict Network) (c : Counts) → Holds text (settle v m.recs) c w' f' → Carries text (shut_to s c e) w' f' (next m l (closes v (own_line d m.sec)))
    unfolding next
    closed-stands true v c hd = shut-stands (settle v m.recs) c hd
    closed-stands false v c hd = shut-stands (settle v m.recs) c hd

    pub closed-step : (d : Bool) (n : Network) (c : Counts) → Holds text n c w' f'
        → Stepped text s l m (closes (L.good n) (own_line d m.sec)) (record { state = shut_to s c e; class = cond d 6 1; closed = Some (record { first = g.no; class = 6 }); refused = None }) w' f'
    unfolding settle
    closed-step d n c hd = record {
      stands = closed-stands d (L.good n) c hd;
      piece = g.no;
      tells = retold (own-class d m.sec 6) (hs.group g eg).stretch.named (tells-group-taken m l n (own_line d m.sec));
      named = record { closed = (refl, λ z. omega arith); refused = tt };
      at = long;
      line = refl;
    }

    pub rejected-step : (d : Bool) (n : Reason) → w' ≡ w → f' ≡ f
        → Stepped text s l m (closes (L.bad (reason_no n)) (own_line d m.sec)) (record { state = shut_to s s.counts e; class = cond d 7 1; closed = Some (record { first = g.no; class = 7 }); refused = Some (record { reason = n; piece = g.no }) }) w' f'
    unfolding settle
    rejected-step d n ew ef = record {
      stands = closed-stands d (L.bad (reason_no n)) s.counts (rw (ew, ef) hs.recs);
      piece = g.no;
      tells = retold (own-class d m.sec 7) (hs.group g eg).stretch.named (tells-group-refused m l (reason_no n) (some-reason n) (own_line d m.sec));
      named = record { closed = (refl, λ z. omega arith); refused = refl };
      at = long;
      line = refl;
    }

-- some network is held
pub sound : {text w : List ℕ} {f : List Float} {s : State} {m : Model} → Carries text s w f m → Sound text s.counts w f
sound {m = m} st = record { m = m.recs; holds = st.recs }
