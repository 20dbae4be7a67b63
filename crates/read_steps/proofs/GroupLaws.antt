-- The open group, one line further. Assumes nothing.
use Prim.Native.Nat.{ℕ, ◌+◌, ◌-◌, ◌≤◌, ◌<◌}
use native.Mathlib.Omega.{arith}
use mathlib.Core.Path.{◌≡◌, refl, sym, ap, ap₂, ◌∙◌}
use mathlib.Core.Bool.{true, cond}
use mathlib.Core.List.{List, [], ◌∷◌, ◌++◌, map, map-append}
use lib.ListN.{length, take, drop, length-drop}
use lib.Seq.{append_snoc, drop-drop, length-take-le}
use Rattle.leaf_fields.specs.Fields.{Name, fields_of}
use Rattle.leaf_scans.specs.Lines.{chunks, joined, line_len}
use Rattle.leaf_scans.proofs.LineLaws.{joined-chunks, end-le, end_more, chunks-at}
use Rattle.leaf_fields.proofs.FieldLaws.{drop-take}
use Rattle.scope_lines.specs.Text.{Line, body_at, line_at}
use Rattle.scope_lines.specs.Stretch.{Stretch, bodies, own_by, sec_by}
use Rattle.scope_lines.proofs.Cut.{chunks-take}
use Rattle.scope_lines.proofs.Stretch.{stretch-on, stretch-new, stretch-lines}
use Rattle.scope.specs.declared.Section.{Section}
use Rattle.scope.specs.declared.Section.TheVariants.{Rules}
use Rattle.scope.specs.Sections.{is_rules}
use Rattle.scope.specs.Lines.{sort_of, rule_fields}
use Rattle.read_headers.specs.Own.{own_fields, group_fields}
use Rattle.read_steps.specs.Held.{Group}
use Rattle.read_headers.proofs.OwnLaws.{own-snoc}

module _ (text : List ℕ) (at e : ℕ) (h : at < length text) (he : e ≡ at + line_len (drop at text)) where
  abbrev body : List ℕ
  body = body_at text at

  -- a text whose lines are cs and then the line at `at` is cut after it
  cut-lines : (f : ℕ) (cs : List (List ℕ)) → f ≤ at → chunks (drop f text) ≡ cs ++ chunks (drop at text) → chunks (drop f (take e text)) ≡ cs ++ (body ∷ [])
  cut-lines f cs le w =
      let k : f + (e - f) ≡ e = omega (arith, end_more text at e h he) in
      ap chunks (drop-take f e text)
      ∙ chunks-take (drop f text) (e - f) (cs ++ (body ∷ [])) (omega (arith, length-drop f text, end-le text at e h he))
      (w ∙ ap (λ x. cs ++ x) (chunks-at text at e h he) ∙ sym (append_snoc cs body (chunks (drop e text)))
      ∙ ap (λ x. (cs ++ (body ∷ [])) ++ chunks x) (sym (drop-drop (e - f) f text ∙ ap (λ i. drop i text) k)))

  module _ {f n : ℕ} {s : Section} {g : List Line} (st : Stretch sort_of is_rules Rules text f n at s g) where
    short : at ≤ length text
    short = omega arith

    lines-so-far : chunks (drop f (take at text)) ≡ st.cs
    lines-so-far = ap chunks (drop-take f at text) ∙ stretch-lines sort_of is_rules Rules text st short

    place : f + length (joined st.cs) ≡ at
    place =
        let j : joined st.cs ≡ take (at - f) (drop f text) = sym (ap joined (stretch-lines sort_of is_rules Rules text st short)) ∙ joined-chunks (take (at - f) (drop f text)) in
        let n : length (take (at - f) (drop f text)) ≡ at - f = length-take-le (at - f) (drop f text) (omega (arith, length-drop f text)) in
        let k : length (joined st.cs) ≡ at - f = ap length j ∙ n in
        omega (arith, k, st.from)

    pub fields-on : group_fields text e f ≡ group_fields text at f ++ cond (own_by is_rules (sort_of body) s) (fields_of at body ∷ []) []
    fields-on =
        ap (own_fields Rules f) (cut-lines f st.cs st.from st.whole)
        ∙ own-snoc Rules f st.cs body
        ∙ ap₂ (λ (i : ℕ) (x : Section). own_fields Rules f st.cs ++ cond (own_by is_rules (sort_of body) x) (fields_of i body ∷ []) []) place (sym st.sec)
        ∙ ap (λ (x : List (List ℕ)). own_fields Rules f x ++ cond (own_by is_rules (sort_of body) s) (fields_of at body ∷ []) []) (sym lines-so-far)

  -- one line more: it joins (g' is that line), or not (g' is [])
  pub group-on : {f n : ℕ} {s : Section} {g : List Line} (g' : List Line) → Group text f n at s g
      → bodies g' ≡ cond (own_by is_rules (sort_of body) s) (body ∷ []) []
      → map rule_fields g' ≡ cond (own_by is_rules (sort_of body) s) (fields_of at body ∷ []) []
      → Group text f n e (sec_by (sort_of body) s) (g ++ g')
  group-on {g = g} g' gr b r = record {
    stretch = stretch-on sort_of is_rules Rules text at e h he g' gr.stretch b;
    fields = map-append rule_fields g g' ∙ ap₂ (λ (x y : List (List Name)). x ++ y) gr.fields r ∙ sym (fields-on gr.stretch);
  }

  -- the first line of a group
  fields-new : own_by is_rules (sort_of body) Rules ≡ true → group_fields text e at ≡ fields_of at body ∷ []
  unfolding own_fields
  fields-new o = ap (own_fields Rules at) (cut-lines at [] (omega arith) refl) ∙ rw o

  pub group-new : (n : ℕ) (s : Section) → s ≡ Rules → 0 < n → own_by is_rules (sort_of body) s ≡ true → sec_by (sort_of body) s ≡ s
      → Group text at n e s (line_at text at n ∷ [])
  group-new n s r p o z = record {
    stretch = stretch-new sort_of is_rules Rules text at e h he n s r p o z;
    fields = sym (fields-new (ap (own_by is_rules (sort_of body)) (sym r) ∙ o));
  }
