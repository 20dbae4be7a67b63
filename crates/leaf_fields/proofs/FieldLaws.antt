-- The next field is the head of the fields; where fields stand; the fields of a line that is cut or moved. Assumes nothing.
use Rattle.std.specs.Prelude.{None, Option, Some}
use Prim.{Unit, tt}
use Prim.Native.Nat.{ℕ, zero, suc, ◌+◌, ◌-◌, ◌≤◌, ◌<◌}
use native.Mathlib.Omega.{arith}
use native.Mathlib.Nat.{add-zero, suc-sub-suc, sub-zero, zero-sub}
use native.Mathlib.Numerals.{add-one}
use mathlib.Core.Path.{◌≡◌, refl, sym, ap, ◌∙◌, subst}
use mathlib.Core.Bool.{Bool, true, false, cond, not}
use mathlib.Core.List.{List, [], ◌∷◌, map}
use lib.ListN.{length, take, drop, get_or, length-drop, length-take, drop_of_length-le}
use lib.Seq.{drop-cons, drop-drop, take-take, get_or-drop}
use Rattle.leaf_digits.specs.Ends.{word_len}
use Rattle.leaf_scans.specs.Lines.{is_space, cut_of}
use Rattle.leaf_scans.specs.Scan.{span_len}
use Rattle.leaf_scans.specs.declared.Kind.TheVariants.{Space, Word}
use Rattle.leaf_fields.specs.Fields.{Name, part, name_in, on_first, before, fields_of, fields_at, start_at, rest, end_or, Fits, Next, Past, opt_in, MayFit}
use Rattle.leaf_fields.specs.declared.Span.{Span}
use Rattle.leaf_scans.proofs.ScanLaws.{span-le, span-stop}
use Rattle.leaf_scans.proofs.LineLaws.{cut-prefix}
pub use Rattle.leaf_words.proofs.ScanLaws.{length_part, drop-take}

-- whitespace before the fields is passed over
pub fields-skip : (at : ℕ) (l : List ℕ) → fields_of at l ≡ fields_of (at + span_len Space l) (drop (span_len Space l) l)
unfolding fields_of span_len
fields-skip at [] = refl
fields-skip at (b ∷ bs) = go (is_space b) refl (fields-skip (suc at) bs)
  where
    n : ℕ
    n = span_len Space bs

    go : (t : Bool) → is_space b ≡ t → fields_of (suc at) bs ≡ fields_of (suc at + n) (drop n bs)
        → fields_of at (b ∷ bs) ≡ fields_of (at + cond t (suc n) 0) (drop (cond t (suc n) 0) (b ∷ bs))
    go true e h = let k : suc at + n ≡ at + suc n = omega arith in rw e (h ∙ rw k)
    go false e h = rw add-zero

fields-space : (at b : ℕ) (bs : List ℕ) → is_space b ≡ true → fields_of at (b ∷ bs) ≡ fields_of (suc at) bs
unfolding fields_of
fields-space at b bs e = rw e

-- a text that starts with a byte that is no whitespace: its first field, and the fields after
fields-no : (at b : ℕ) (bs : List ℕ) → is_space b ≡ false → fields_of at (b ∷ bs) ≡ before at b bs (fields_of (suc at) bs)
unfolding fields_of
fields-no at b bs e = rw e

span-word : (b : ℕ) (bs : List ℕ) → is_space b ≡ false → span_len Word (b ∷ bs) ≡ suc (span_len Word bs)
unfolding span_len
span-word b bs e = rw e

span_none : (b : ℕ) (bs : List ℕ) → is_space b ≡ true → span_len Word (b ∷ bs) ≡ 0
unfolding span_len
span_none b bs e = rw e

abbrev First : ℕ → List ℕ → ℕ → Type 0
First at l n = fields_of at l ≡ record { at = at; letters = take n l } ∷ fields_of (at + n) (drop n l)

word_more : (at b x : ℕ) (xs : List ℕ) (t : Bool) → is_space b ≡ false → is_space x ≡ t
    → (is_space x ≡ false → First (suc at) (x ∷ xs) (span_len Word (x ∷ xs))) → First at (b ∷ x ∷ xs) (span_len Word (b ∷ x ∷ xs))
word_more at b x xs true e h f = rw (span-word b (x ∷ xs) e, span_none x xs h, add-one, fields-no at b (x ∷ xs) e, h)
word_more at b x xs false e h f =
    let n : ℕ = span_len Word (x ∷ xs) in
    let k : suc at + n ≡ at + suc n = omega arith in
    rw (span-word b (x ∷ xs) e, fields-no at b (x ∷ xs) e, h, f h, k)

one : (at b : ℕ) → before at b [] (fields_of (suc at) []) ≡ record { at = at; letters = b ∷ take (span_len Word []) [] } ∷ fields_of (at + suc (span_len Word [])) (drop (suc (span_len Word [])) (b ∷ []))
unfolding fields_of span_len
one at b = refl

pub fields-word : (at : ℕ) (b : ℕ) (bs : List ℕ) → is_space b ≡ false → First at (b ∷ bs) (span_len Word (b ∷ bs))
fields-word at b [] e = rw (span-word b [] e, fields-no at b [] e) (one at b)
fields-word at b (x ∷ xs) e = word_more at b x xs (is_space x) e refl (fields-word (suc at) x xs)

is-taken : {l : List ℕ} {at : ℕ} (s : Span) → fields_at l at ≡ name_in l s ∷ fields_at l s.end → Fits l s → Next l at (Some s)
is-taken {l} {at} s h k =
    record {
      taken = λ t e. let q : s ≡ t = cc in subst (λ (x : Span). (fields_at l at ≡ name_in l x ∷ fields_at l x.end) × Fits l x) q (h, k);
      nothing = λ e. let z : ◌≡◌ {A = ℕ} 0 1 = cc in absurd (omega arith);
    }

-- a field is as long as the number's reader counts
pub span-counted : (l : List ℕ) → span_len Word l ≡ word_len l
unfolding span_len word_len
span-counted [] = refl
span-counted (b ∷ bs) = go (is_space b) (span-counted bs)
  where
    go : (t : Bool) → span_len Word bs ≡ word_len bs → cond (not t) (suc (span_len Word bs)) 0 ≡ cond t 0 (suc (word_len bs))
    go true e = refl
    go false e = ap suc e

-- a word that ends inside the line ends at whitespace: from the byte behind that on the fields are the same
pub word_over : (l : List ℕ) (start n : ℕ) → n ≡ word_len (drop start l) → start + n < length l → fields_at l (start + n) ≡ fields_at l (start + n + 1)
word_over l start n e h =
    let w : List ℕ = drop start l in
    let k : n ≡ span_len Word w = e ∙ sym (span-counted w) in
    let end : ℕ = start + n in
    let s : not (is_space (get_or l end 0)) ≡ false = rw (← get_or-drop start l n 0, k) (span-stop Word w (omega (arith, length-drop start l))) in
    ap (fields_of end) (drop-cons l end 0 h) ∙ fields-space end (get_or l end 0) (drop (suc end) l) (space (is_space (get_or l end 0)) s) ∙ rw add-one
  where
    space : (t : Bool) → not t ≡ false → t ≡ true
    space true e = refl
    space false e = sym e

-- what the next field is, by where the whitespace and the word end
module _ (l : List ℕ) (at start end : ℕ) (es : start ≡ start_at l at) where
  pub skipped : fields_at l at ≡ fields_at l start
  skipped = fields-skip at (drop at l) ∙ rw (es, drop-drop)

  -- the word starts with a byte that is no whitespace, and goes on with what follows it
  starts : start < length l → is_space (get_or l start 0) ≡ false
  starts h = rw (es, ← get_or-drop at l (span_len Space (drop at l)) 0) (span-stop Space (drop at l) (omega (arith, length-drop at l)))

  goes_on-law : start < length l → span_len Word (drop start l) ≡ suc (span_len Word (drop (suc start) l))
  goes_on-law h = ap (span_len Word) (drop-cons l start 0 h) ∙ span-word (get_or l start 0) (drop (suc start) l) (starts h)

  pub next-taken : start < length l → end ≡ start + span_len Word (drop start l) → Next l at (Some (record { at = start; end = end }))
  next-taken h ee =
      let k : ℕ = span_len Word (drop start l) in
      let b : ℕ = get_or l start 0 in
      let n : length (drop start l) ≡ length l - start = length-drop start l in
      let d : drop start l ≡ b ∷ drop (suc start) l = drop-cons l start 0 h in
      let w : k ≡ suc (span_len Word (drop (suc start) l)) = goes_on-law h in
      let f : First start (drop start l) k = rw d (fields-word start b (drop (suc start) l) (starts h)) in
      let e1 : end - start ≡ k = omega arith in
      is-taken (record { at = start; end = end }) (skipped ∙ f ∙ rw (drop-drop, e1, ee)) (record { some = omega arith; inside = omega (arith, span-le Word (drop start l)) })

  -- where the word's end was looked for from its second byte on
  pub next-from : start < length l → end ≡ start + 1 + span_len Word (drop (start + 1) l) → Next l at (Some (record { at = start; end = end }))
  next-from h ee = let z : start + 1 ≡ suc start = omega arith in next-taken h (omega (arith, rw z at ee, goes_on-law h))

  -- where the bytes before the next whitespace were counted
  pub next_word : start < length l → (n : ℕ) → n ≡ word_len (drop start l) → end ≡ start + n → Next l at (Some (record { at = start; end = end }))
  next_word h n e ee = next-taken h (ee ∙ ap (start +◌) (e ∙ sym (span-counted (drop start l))))

  pub next-nothing : length l ≤ start → Next l at None
  unfolding fields_of
  next-nothing h = record { taken = λ s e. let z : ◌≡◌ {A = ℕ} 0 1 = cc in absurd (omega arith); nothing = λ e. skipped ∙ rw (drop_of_length-le l h) }

-- a span of a line is the same span of the text that the line begins
pub part-take : (a e n : ℕ) (l : List ℕ) → e ≤ n → part a e (take n l) ≡ part a e l
part-take zero e n l h = rw sub-zero (take-take e n l h)
part-take (suc a) zero n l h = rw zero-sub
part-take (suc a) (suc e) zero l h = absurd (omega arith)
part-take (suc a) (suc e) (suc n) [] h = refl
part-take (suc a) (suc e) (suc n) (x ∷ l) h = rw suc-sub-suc (part-take a e n l (omega arith))

pub part_none : (a e : ℕ) (l : List ℕ) → e ≤ a → part a e l ≡ []
part_none a e l h = let k : e - a ≡ 0 = omega arith in rw k

-- ---- past the next field
module _ (l : List ℕ) (at : ℕ) (f : Option Span) (n : Next l at f) where
  pub past-taken : (s : Span) → f ≡ Some s → Past l at s.end
  past-taken s e =
      let (h, k) = n.taken s e in
      record {
        place = omega (arith, ap (end_or at) h, length_part s.at s.end l k.inside, k.some);
        left = sym (ap rest h);
      }

  pub past-nothing : f ≡ None → Past l at at
  past-nothing e = let h = n.nothing e in record { place = sym (ap (end_or at) h); left = h ∙ sym (ap rest h) }

-- ---- no second span or field fits
-- a span that lies in l is told by the name that it is; so is a field that may be missing
pub span-once : (l : List ℕ) {s t : Span} → Fits l s → Fits l t → name_in l s ≡ name_in l t → s ≡ t
span-once l {s} {t} k j q =
    let e : s.end ≡ t.end =
    omega (arith, ap Name.at q, ap (λ (n : Name). length n.letters) q, length_part s.at s.end l k.inside, length_part t.at t.end l j.inside, k.some, j.some) in
    λ i. record { at = (q i).at; end = e i }

pub opt-once : (l : List ℕ) (f g : Option Span) → MayFit l f → MayFit l g → opt_in l f ≡ opt_in l g → f ≡ g
opt-once l (Some s) (Some t) k j q = ap Some (span-once l k j (cc))
opt-once l (Some s) None k j q = cc
opt-once l None (Some t) k j q = cc
opt-once l None None k j q = refl

-- the next field is told in full
pub next-unique : (l : List ℕ) (at : ℕ) (f g : Option Span) → Next l at f → Next l at g → f ≡ g
next-unique l at (Some s) (Some t) n m =
    let (h, k) = n.taken s refl in
    let (i, j) = m.taken t refl in
    ap Some (span-once l k j (cc))
next-unique l at (Some s) None n m = cc ((n.taken s refl).0, m.nothing refl)
next-unique l at None (Some t) n m = cc (n.nothing refl, (m.taken t refl).0)
next-unique l at None None n m = refl

-- ---- where fields stand
-- a name stands in the text, not before the place `from`, and is not empty
pub record StandsFrom (text : List ℕ) (from : ℕ) (n : Name) : Type 0 where
  pub after : from ≤ n.at
  pub some : 0 < length n.letters
  pub inside : n.at + length n.letters ≤ length text
  pub there : take (length n.letters) (drop n.at text) ≡ n.letters

-- names stand in the text one after another, with a byte at least between two
abbrev pub Ordered : List ℕ → ℕ → List Name → Type 0
Ordered text from [] = Unit {0}
Ordered text from (n ∷ ns) = StandsFrom text from n × Ordered text (suc (n.at + length n.letters)) ns

sooner : (text : List ℕ) (from : ℕ) (ns : List Name) → Ordered text (suc from) ns → Ordered text from ns
sooner text from [] o = tt
sooner text from (n ∷ ns) (s, o) = (record { after = omega (arith, s.after); some = s.some; inside = s.inside; there = s.there }, o)

module _ (text : List ℕ) where
  shorter : (at b : ℕ) (bs : List ℕ) → drop at text ≡ b ∷ bs → drop (suc at) text ≡ bs
  shorter at b bs e = rw (← add-one at, ← drop-drop 1 at text, e)

  -- a byte alone, and a byte before a field that stands next to it
  alone : (at b : ℕ) (bs : List ℕ) → drop at text ≡ b ∷ bs → StandsFrom text at (record { at = at; letters = b ∷ [] })
  alone at b bs e = record { after = omega arith; some = omega arith; inside = omega (arith, ap length e, length-drop at text); there = ap (take 1) e }

  joins : (at b : ℕ) (bs ls : List ℕ) → drop at text ≡ b ∷ bs → StandsFrom text (suc at) (record { at = suc at; letters = ls })
      → StandsFrom text at (record { at = at; letters = b ∷ ls })
  joins at b bs ls e s = record {
    after = omega arith;
    some = omega arith;
    inside = omega (arith, s.inside);
    there = ap (take (suc (length ls))) e ∙ ap (b ∷◌) (ap (take (length ls)) (sym (shorter at b bs e)) ∙ s.there);
  }

  two : (at b x : ℕ) (xs : List ℕ) (t u : Bool) → is_space b ≡ t → is_space x ≡ u → drop at text ≡ b ∷ x ∷ xs
      → Ordered text (suc at) (fields_of (suc at) (x ∷ xs)) → Ordered text (suc (suc at)) (fields_of (suc (suc at)) xs)
      → Ordered text at (fields_of at (b ∷ x ∷ xs))
  two at b x xs true u hb hx e o p = rw (fields-space at b (x ∷ xs) hb) (sooner text at (fields_of (suc at) (x ∷ xs)) o)
  two at b x xs false true hb hx e o p =
      rw (fields-no at b (x ∷ xs) hb, hx) (alone at b (x ∷ xs) e, rw (add-one, fields-space (suc at) x xs hx) p)
  two at b x xs false false hb hx e o p =
      let ls : List ℕ = take (span_len Word (x ∷ xs)) (x ∷ xs) in
      let w : First (suc at) (x ∷ xs) (span_len Word (x ∷ xs)) = fields-word (suc at) x xs hx in
      let k : suc at + length ls ≡ at + suc (length ls) = omega arith in
      let q = subst (Ordered text (suc at)) w o in
      rw (fields-no at b (x ∷ xs) hb, hx, w)
      (joins at b (x ∷ xs) ls e q.0, subst (λ i. Ordered text (suc i) (fields_of (suc at + span_len Word (x ∷ xs)) (drop (span_len Word (x ∷ xs)) (x ∷ xs)))) k q.1)

  one_byte : (at b : ℕ) (t : Bool) → is_space b ≡ t → drop at text ≡ b ∷ [] → Ordered text at (fields_of at (b ∷ []))
  unfolding fields_of
  one_byte at b true h e = rw h tt
  one_byte at b false h e = rw h (alone at b [] e, tt)

  -- the fields of a line that stands at the place `at` of the text
  pub ordered : (at : ℕ) (l : List ℕ) → drop at text ≡ l → Ordered text at (fields_of at l)
  unfolding fields_of
  ordered at [] e = tt
  ordered at (b ∷ []) e = one_byte at b (is_space b) refl e
  ordered at (b ∷ x ∷ xs) e =
      let e1 : drop (suc at) text ≡ x ∷ xs = shorter at b (x ∷ xs) e in
      two at b x xs (is_space b) (is_space x) refl refl e (ordered (suc at) (x ∷ xs) e1) (ordered (suc (suc at)) xs (shorter (suc at) x xs e1))

-- ---- a line that is cut
-- the fields of the bytes c, which stand in the text at the place `at`
pub fields-cut : (text c : List ℕ) (at : ℕ) → take (length c) (drop at text) ≡ c → fields_at (take (at + length c) text) at ≡ fields_of at c
fields-cut text c at e =
    let k : at + length c - at ≡ length c = omega arith in
    ap (fields_of at) (drop-take at (at + length c) text ∙ ap (λ n. take n (drop at text)) k ∙ e)

-- the fields of a line up to where it is cut
pub cut-fields : (l : List ℕ) (at end : ℕ) → end ≡ at + length (cut_of (drop at l)) → fields_at (take end l) at ≡ fields_of at (cut_of (drop at l))
cut-fields l at end e = rw e (fields-cut l (cut_of (drop at l)) at (cut-prefix (drop at l)))

-- the line of the text from `at` up to e: its fields, and those up to where it is cut
pub line-fields : (text : List ℕ) (at e : ℕ) → fields_at (take e text) at ≡ fields_of at (part at e text)
line-fields text at e = ap (fields_of at) (drop-take at e text)

pub line-cut-fields : (text : List ℕ) (at e end : ℕ) → end ≡ at + length (cut_of (drop at (take e text)))
    → fields_at (take end text) at ≡ fields_of at (cut_of (part at e text))
line-cut-fields text at e end h =
    let b : List ℕ = part at e text in
    let c : List ℕ = cut_of b in
    let k : end ≡ at + length c = rw (← drop-take at e text) h in
    let p : take (length c) b ≡ c = cut-prefix b in
    let n : length c ≤ e - at = omega (arith, ap length p, length-take (length c) b, length-take (e - at) (drop at text)) in
    rw k (fields-cut text c at (sym (take-take (length c) (e - at) (drop at text) n) ∙ p))

-- ---- a line that is moved: the letters of its fields stay
abbrev pub letters_in : List Name → List (List ℕ)
letters_in fs = map (λ (f : Name). f.letters) fs

before-moved : (p q b : ℕ) (bs : List ℕ) (fs gs : List Name) → letters_in fs ≡ letters_in gs → letters_in (before p b bs fs) ≡ letters_in (before q b bs gs)
before-moved p q b [] fs gs e = ap ((b ∷ []) ∷◌) e
before-moved p q b (x ∷ xs) fs gs e = go (is_space x) fs gs e
  where
    go : (t : Bool) (fs gs : List Name) → letters_in fs ≡ letters_in gs
        → letters_in (cond t (record { at = p; letters = b ∷ [] } ∷ fs) (on_first p b fs)) ≡ letters_in (cond t (record { at = q; letters = b ∷ [] } ∷ gs) (on_first q b gs))
    go true fs gs e = ap ((b ∷ []) ∷◌) e
    go false [] [] e = refl
    go false [] (g ∷ gs) e = let z : ◌≡◌ {A = ℕ} 0 1 = cc in absurd (omega arith)
    go false (f ∷ fs) [] e = let z : ◌≡◌ {A = ℕ} 0 1 = cc in absurd (omega arith)
    go false (f ∷ fs) (g ∷ gs) e = cc

pub letters-moved : (p q : ℕ) (l : List ℕ) → letters_in (fields_of p l) ≡ letters_in (fields_of q l)
unfolding fields_of
letters-moved p q [] = refl
letters-moved p q (b ∷ bs) = go (is_space b) (letters-moved (suc p) (suc q) bs)
  where
    go : (t : Bool) → letters_in (fields_of (suc p) bs) ≡ letters_in (fields_of (suc q) bs)
        → letters_in (cond t (fields_of (suc p) bs) (before p b bs (fields_of (suc p) bs))) ≡ letters_in (cond t (fields_of (suc q) bs) (before q b bs (fields_of (suc q) bs)))
    go true e = e
    go false e = before-moved p q b bs (fields_of (suc p) bs) (fields_of (suc q) bs) e
