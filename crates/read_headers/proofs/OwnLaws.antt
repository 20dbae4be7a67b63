-- What a line is; the lines of a group, one after another; and how they grow with the text that is read. Assumes nothing.
use Rattle.std.specs.Prelude.{None, Option, Some}
use Prim.Native.Nat.{ℕ, ◌+◌, ◌-◌, ◌≤◌, ◌<◌}
use native.Mathlib.Omega.{arith}
use native.Mathlib.Nat.{add-zero}
use borrow.Author.Tests.{eqb-false, ne_eqb, ltb-true, ltb-false}
use mathlib.Core.Path.{◌≡◌, refl, sym, ap, ap₂, ◌∙◌, subst}
use mathlib.Core.Bool.{Bool, true, false, cond, not, ◌||◌, false≢true}
use mathlib.Core.List.{List, [], ◌∷◌, ◌++◌, map, append_assoc, append-nil, map-append}
use lib.ListN.{length, take, drop, get_or, length-append, length-take, length-drop, drop_of_length-le}
use lib.Seq.{drop-cons, take_all}
use lib.Dec.{eqb, ltb}
use Rattle.leaf_digits.specs.Bytes.{class_of}
use Rattle.leaf_fields.specs.Fields.{Name, fields_of, fields_at, start_at}
use Rattle.leaf_scans.specs.Lines.{chunks, joined, line_len, start_trimmed, trimmed, kind_by}
use Rattle.leaf_letters.specs.Words.{same, begins}
use Rattle.leaf_scans.specs.Scan.{span_len}
use Rattle.leaf_fields.specs.declared.Span.{Span}
use Rattle.leaf_scans.specs.Lines as kind
use Rattle.leaf_fields.proofs.FieldLaws.{drop-take, part-take}
use Rattle.leaf_scans.proofs.LineLaws.{end-le, end_more, body_is, body-long, chunks-at, trimmed-start, start-at, kind-some, kind-none}
use Rattle.leaf_scans.proofs.TrimLaws.{begins-trimmed}
use Rattle.scope_lines.specs.Reader as L
use Rattle.scope_lines.specs.Text.{Line}
use Rattle.scope_lines.specs.Stretch.{sec_by, own_by, sec_after}
use Rattle.scope.specs.declared.Section.{Section}
use Rattle.scope.specs.declared.Section.TheVariants.{Junctions, Reservoirs, Tanks, Pipes, Pumps, Valves, Curves, Patterns, Demands, Emitters, Coordinates, Times, Rules, Passed}
use Rattle.scope.specs.Spelling.{word_rule}
use Rattle.scope.specs.Sections.{section_of, is_rules}
use Rattle.scope.specs.Lines.{sort_by, sort_of, rule_fields}
use Rattle.read_headers.specs.Own.{is_data, plain_by, own_fields, group_fields, OwnHere, OwnFrom, NextOwn}

-- ---- what a line is, by the place i of its first byte that is no whitespace
module _ (l : List ℕ) (at i : ℕ) (es : i ≡ start_at l at) where
  pub sort-nothing : length l ≤ i → L.empty ≡ sort_of (drop at l)
  unfolding sort_of sort_by
  sort-nothing h = ap (λ (k : kind.LineKind). sort_by k (trimmed (drop at l))) (kind-none l at i es h)

  module _ (h : i < length l) where
    abbrev first : ℕ
    first = get_or l i 0

    -- the line from that byte on
    abbrev left : List ℕ
    left = take (length l - i) (drop i l)

    left_is : left ≡ start_trimmed (drop at l)
    left_is = take_all (length l - i) (drop i l) (omega (arith, length-drop i l)) ∙ sym (start-at l at i es)

    same-trimmed : trimmed left ≡ trimmed (drop at l)
    same-trimmed = ap trimmed left_is ∙ trimmed-start (drop at l)

    sort-is : (k : kind.LineKind) → k ≡ kind_by (first ∷ []) → sort_by k (trimmed left) ≡ sort_of (drop at l)
    unfolding sort_of
    sort-is k ek = rw (ek ∙ kind-some l at i es h, same-trimmed)

    -- it begins with RULE where the trimmed line does
    begins-rule : begins left word_rule ≡ begins (trimmed left) word_rule
    unfolding span_len class_of
    begins-rule = ap (λ (x : List ℕ). begins x word_rule) left_is ∙ begins-trimmed (drop at l) word_rule refl ∙ sym (ap (λ (x : List ℕ). begins x word_rule) same-trimmed)

    sort-plain : kind.other ≡ kind_by (first ∷ []) → sort_by kind.other left ≡ sort_of (drop at l)
    unfolding sort_by
    sort-plain ek = ap (λ (t : Bool). cond t L.start L.other) begins-rule ∙ sort-is kind.other ek

    -- by that byte
    pub sort-blank : first ≡ 59 → L.empty ≡ sort_of (drop at l)
    unfolding sort_by
    sort-blank e = sort-is kind.blank (rw e)

    pub sort-header : first ≡ 91 → (w : List ℕ) → w ≡ trimmed left → (s : Section) → s ≡ section_of w → L.heading s ≡ sort_of (drop at l)
    unfolding sort_by
    sort-header e w ew s q = ap L.heading (q ∙ ap section_of ew) ∙ sort-is kind.header (rw e)

    pub sort-rule : first ≡ 82 → (k : L.Sort Section) → k ≡ sort_by kind.other left → k ≡ sort_of (drop at l)
    sort-rule e k q = q ∙ sort-plain (rw e)

    no-rule : (first ≡ 82 → ⊥) → begins left word_rule ≡ false
    unfolding same
    no-rule r = rw (left_is ∙ start-at l at i es ∙ drop-cons l i 0 h, ne_eqb first 82 r)

    pub sort-other : (first ≡ 59 → ⊥) → (first ≡ 91 → ⊥) → (first ≡ 82 → ⊥) → L.other ≡ sort_of (drop at l)
    unfolding sort_by
    sort-other b a r = sym (ap (λ (t : Bool). cond t L.start L.other) (no-rule r)) ∙ sort-plain (rw (ne_eqb first 59 b, ne_eqb first 91 a))

    -- neither blank nor a header
    pub data-blank : first ≡ 59 → false ≡ is_data (sort_of (drop at l))
    data-blank e = ap is_data (sort-blank e)

    pub data-header : first ≡ 91 → false ≡ is_data (sort_of (drop at l))
    data-header e = ap is_data (sort-header e (trimmed left) refl (section_of (trimmed left)) refl)

    pub data-other : (first ≡ 59 → ⊥) → (first ≡ 91 → ⊥) → true ≡ is_data (sort_of (drop at l))
    unfolding sort_by
    data-other b a = is-data (begins left word_rule) ∙ ap is_data (sort-plain (rw (ne_eqb first 59 b, ne_eqb first 91 a)))
      where
        is-data : (t : Bool) → true ≡ is_data (cond t L.start L.other)
        is-data true = refl
        is-data false = refl

    -- told by that byte alone to start no group
    plain-is : plain_by (start_trimmed (drop at l)) ≡ not (eqb first 59 || (eqb first 91 || eqb first 82))
    plain-is = ap plain_by (start-at l at i es ∙ drop-cons l i 0 h)

    pub plain-blank : first ≡ 59 → false ≡ plain_by (start_trimmed (drop at l))
    plain-blank e = sym (plain-is ∙ rw e)

    pub plain-header : first ≡ 91 → false ≡ plain_by (start_trimmed (drop at l))
    plain-header e = sym (plain-is ∙ rw e)

    pub plain-rule : first ≡ 82 → false ≡ plain_by (start_trimmed (drop at l))
    plain-rule e = sym (plain-is ∙ rw e)

    pub plain_other : (first ≡ 59 → ⊥) → (first ≡ 91 → ⊥) → (first ≡ 82 → ⊥) → true ≡ plain_by (start_trimmed (drop at l))
    plain_other b a r = sym (plain-is ∙ rw (ne_eqb first 59 b, ne_eqb first 91 a, ne_eqb first 82 r))

    plain-so : plain_by (start_trimmed (drop at l)) ≡ true → L.other ≡ sort_of (drop at l)
    plain-so z = go (eqb first 59) (eqb first 91) (eqb first 82) refl refl refl (sym plain-is ∙ z)
      where
        go : (x y w : Bool) → eqb first 59 ≡ x → eqb first 91 ≡ y → eqb first 82 ≡ w → not (x || (y || w)) ≡ true → L.other ≡ sort_of (drop at l)
        go true y w ex ey ew q = absurd (false≢true q)
        go false true w ex ey ew q = absurd (false≢true q)
        go false false true ex ey ew q = absurd (false≢true q)
        go false false false ex ey ew q = sort-other (eqb-false first 59 ex) (eqb-false first 91 ey) (eqb-false first 82 ew)

  pub data-nothing : length l ≤ i → false ≡ is_data (sort_of (drop at l))
  data-nothing h = ap is_data (sort-nothing h)

  pub plain-nothing : length l ≤ i → false ≡ plain_by (start_trimmed (drop at l))
  plain-nothing h = sym (ap plain_by (start-at l at i es ∙ drop_of_length-le l h))

  -- such a line is no other
  pub plain-sort : plain_by (start_trimmed (drop at l)) ≡ true → L.other ≡ sort_of (drop at l)
  plain-sort z = go (ltb i (length l)) refl
    where
      go : (t : Bool) → ltb i (length l) ≡ t → L.other ≡ sort_of (drop at l)
      go true e = plain-so (ltb-true i (length l) e) z
      go false e = absurd (false≢true (plain-nothing (ltb-false i (length l) e) ∙ z))

-- a line of RULES that is the group's own leaves the section as it is
rules-only : (s : Section) → is_rules s ≡ true → s ≡ Rules
rules-only Junctions e = absurd (let z : ◌≡◌ {A = ℕ} 0 1 = cc in omega arith)
rules-only Reservoirs e = absurd (let z : ◌≡◌ {A = ℕ} 0 1 = cc in omega arith)
rules-only Tanks e = absurd (let z : ◌≡◌ {A = ℕ} 0 1 = cc in omega arith)
rules-only Pipes e = absurd (let z : ◌≡◌ {A = ℕ} 0 1 = cc in omega arith)
rules-only Pumps e = absurd (let z : ◌≡◌ {A = ℕ} 0 1 = cc in omega arith)
rules-only Valves e = absurd (let z : ◌≡◌ {A = ℕ} 0 1 = cc in omega arith)
rules-only Curves e = absurd (let z : ◌≡◌ {A = ℕ} 0 1 = cc in omega arith)
rules-only Patterns e = absurd (let z : ◌≡◌ {A = ℕ} 0 1 = cc in omega arith)
rules-only Demands e = absurd (let z : ◌≡◌ {A = ℕ} 0 1 = cc in omega arith)
rules-only Emitters e = absurd (let z : ◌≡◌ {A = ℕ} 0 1 = cc in omega arith)
rules-only Coordinates e = absurd (let z : ◌≡◌ {A = ℕ} 0 1 = cc in omega arith)
rules-only Times e = absurd (let z : ◌≡◌ {A = ℕ} 0 1 = cc in omega arith)
rules-only Rules e = refl
rules-only Passed e = absurd (let z : ◌≡◌ {A = ℕ} 0 1 = cc in omega arith)

pub own-rules : (k : L.Sort Section) (s : Section) → own_by is_rules k s ≡ true → sec_by k s ≡ Rules
own-rules L.empty s e = absurd (let z : ◌≡◌ {A = ℕ} 0 1 = cc in omega arith)
own-rules (L.heading x) s e = absurd (let z : ◌≡◌ {A = ℕ} 0 1 = cc in omega arith)
own-rules L.start s e = rules-only s e
own-rules L.other s e = rules-only s e

-- the next of the group's lines
pub found-own : {text : List ℕ} {from : ℕ} (s : Span) → OwnHere text from s → OwnFrom text from (Some s)
found-own {text} {from} s h = record { line = λ t e. let q : s ≡ t = cc in subst (OwnHere text from) q h; nothing = λ e. absurd (let z : ◌≡◌ {A = ℕ} 0 1 = cc in omega arith) }

pub no_own : {text : List ℕ} {from : ℕ} → own_fields Rules from (chunks (drop from text)) ≡ [] → OwnFrom text from None
no_own h = record { line = λ t e. absurd (let z : ◌≡◌ {A = ℕ} 0 1 = cc in omega arith); nothing = λ e. h }

-- ---- the line at a place of the text
module _ (text : List ℕ) (p e : ℕ) (h : p < length text) (he : e ≡ p + line_len (drop p text)) where
  body : drop p (take e text) ≡ take (line_len (drop p text)) (drop p text)
  body = drop-take p e text ∙ body_is text p e h he

  own_at : (s : Section) → own_fields s p (chunks (drop p text))
      ≡ cond (own_by is_rules (sort_of (drop p (take e text))) s) (fields_at (take e text) p ∷ []) [] ++ own_fields (sec_by (sort_of (drop p (take e text))) s) e (chunks (drop e text))
  unfolding own_fields
  own_at s = rw (chunks-at text p e h he, body-long text p e h he, ← body)

  -- it is the group's own, or not
  pub own_line-law : (from : ℕ) (s : Section) → own_fields s p (chunks (drop p text)) ≡ own_fields Rules from (chunks (drop from text)) → from ≤ p
      → own_by is_rules (sort_of (drop p (take e text))) s ≡ true → OwnHere text from (record { at = p; end = e })
  own_line-law from s k le t = record {
    whole = sym k ∙ own_at s ∙ rw (t, own-rules (sort_of (drop p (take e text))) s t);
    after = le;
    some = end_more text p e h he;
    inside = end-le text p e h he;
  }

  pub other-line : (s : Section) → own_by is_rules (sort_of (drop p (take e text))) s ≡ false
      → own_fields (sec_by (sort_of (drop p (take e text))) s) e (chunks (drop e text)) ≡ own_fields s p (chunks (drop p text))
  other-line s t = sym (own_at s ∙ rw t)

  -- from what the code was told of it: the sort k of the bytes that were cut out, and the answer r
  module _ {from : ℕ} (s : Section) (inv : (own_fields s p (chunks (drop p text)) ≡ own_fields Rules from (chunks (drop from text))) × (from ≤ p))
      (k : L.Sort Section) (l : List ℕ) (r : Bool) (el : l ≡ take e text) (ek : k ≡ sort_of (drop p l)) (er : r ≡ own_by is_rules k s) where
    pub told-own : r ≡ true → OwnFrom text from (Some (record { at = p; end = e }))
    told-own t = found-own (record { at = p; end = e }) (own_line-law from s inv.0 inv.1 (cc))

    pub told-other : (z : Section) → z ≡ sec_by k s → r ≡ false → (own_fields z e (chunks (drop e text)) ≡ own_fields Rules from (chunks (drop from text))) × (from ≤ e)
    told-other z ez t =
        let q : z ≡ sec_by (sort_of (drop p (take e text))) s = cc in
        (rw q (other-line s (cc) ∙ inv.0), omega (arith, end_more text p e h he, inv.1))

pub own-end : (text : List ℕ) (p : ℕ) (s : Section) → length text ≤ p → own_fields s p (chunks (drop p text)) ≡ []
unfolding own_fields chunks
own-end text p s h = rw (drop_of_length-le text h)

-- ---- in a text that is read up to `at`
same_line : (text : List ℕ) (at p e : ℕ) → e ≤ length (take at text) → fields_at (take e (take at text)) p ≡ fields_at (take e text) p
same_line text at p e h =
    let k : e ≤ at = omega (arith, length-take at text) in
    ap (fields_of p) (drop-take p e (take at text) ∙ part-take p e at text k ∙ sym (drop-take p e text))

pub next-own : (text : List ℕ) (at from : ℕ) (r : Option Span) → OwnFrom (take at text) from r → NextOwn text at from r
next-own text at from r h = record {
  line = λ s e. let o = h.line s e in
      record {
        whole = o.whole ∙ ap (λ (x : List Name). x ∷ group_fields text at s.end) (same_line text at s.at s.end o.inside);
        after = o.after;
        some = o.some;
        inside = omega (arith, o.inside, length-take at text);
      };
  nothing = h.nothing;
}

-- ---- for the reader of a text, which keeps a group as a list of lines: one line more
joined-long : (cs : List (List ℕ)) (b : List ℕ) (p : ℕ) → p + length b + length (joined cs) ≡ p + length (joined (b ∷ cs))
unfolding joined
joined-long cs b p = omega (arith, length-append b (joined cs))

pub own-snoc : (s : Section) (p : ℕ) (cs : List (List ℕ)) (b : List ℕ)
    → own_fields s p (cs ++ (b ∷ [])) ≡ own_fields s p cs ++ cond (own_by is_rules (sort_of b) (sec_after sort_of s cs)) (fields_of (p + length (joined cs)) b ∷ []) []
unfolding own_fields sec_after joined
own-snoc s p [] b = rw add-zero (append-nil (cond (own_by is_rules (sort_of b) s) (fields_of p b ∷ []) []))
own-snoc s p (c ∷ cs) b =
    ap (λ (x : List (List Name)). cond (own_by is_rules (sort_of c) s) (fields_of p c ∷ []) [] ++ x)
    (own-snoc (sec_by (sort_of c) s) (p + length c) cs b
    ∙ ap (λ (n : ℕ). own_fields (sec_by (sort_of c) s) (p + length c) cs ++ cond (own_by is_rules (sort_of b) (sec_after sort_of (sec_by (sort_of c) s) cs)) (fields_of n b ∷ []) []) (joined-long cs c p))
    ∙ sym (append_assoc (cond (own_by is_rules (sort_of c) s) (fields_of p c ∷ []) []) (own_fields (sec_by (sort_of c) s) (p + length c) cs)
    (cond (own_by is_rules (sort_of b) (sec_after sort_of (sec_by (sort_of c) s) cs)) (fields_of (p + length (joined (c ∷ cs))) b ∷ []) []))

-- the group g is the own lines of cs, which are placed from `first` on
abbrev pub Placed : ℕ → List (List ℕ) → List Line → Type 0
Placed first cs g = map rule_fields g ≡ own_fields Rules first cs

pub placed_on : (first : ℕ) (cs : List (List ℕ)) (g : List Line) (b : List ℕ) (g' : List Line) → Placed first cs g
    → map rule_fields g' ≡ cond (own_by is_rules (sort_of b) (sec_after sort_of Rules cs)) (fields_of (first + length (joined cs)) b ∷ []) []
    → Placed first (cs ++ (b ∷ [])) (g ++ g')
placed_on first cs g b g' h k = map-append rule_fields g g' ∙ ap₂ (λ x y. x ++ y) h k ∙ sym (own-snoc Rules first cs b)
