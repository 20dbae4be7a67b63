-- What was taken, from what the code was told. Assumes nothing.
use Rattle.leaf_decimals.specs.declared.NumberError.{NumberError}
use Rattle.std.specs.Prelude.{Err, None, Ok, Option, Result, Some}
use Prim.Native.Nat.{ℕ, ◌+◌, ◌-◌, ◌<◌, ◌≤◌}
use native.Mathlib.Omega.{arith}
use mathlib.Core.Path.{◌≡◌, refl, sym, ap, ap₂, ◌∙◌, subst}
use mathlib.Core.List.{List, [], ◌∷◌}
use lib.Ieee.{Float}
use lib.ListN.{length, take, drop}
use lib.Seq.{take_all}
use Rattle.leaf_decimals.specs.declared.NumberError.TheVariants.{Malformed, Beyond}
use Rattle.leaf_decimals.specs.Numbers.{number_of}
use Rattle.leaf_decimals.specs.Begun.{Begins}
use Rattle.leaf_digits.specs.Ends.{word_len}
use Rattle.leaf_digits.proofs.Lists.{tail_of}
use Rattle.leaf_fields.specs.Fields.{start_at}
use Rattle.leaf_fields.specs.declared.Span.{Span}
use Rattle.leaf_fields.specs.Fields.{Name, part, name_in, fields_at, rest, letters_or, Next}
use Rattle.leaf_fields.proofs.FieldLaws.{length_part, skipped, word_over, next-nothing, next_word}
use Rattle.scope.specs.declared.Reason.{Reason}
use Rattle.scope.specs.declared.Reason.TheVariants as reason
use Rattle.scope.specs.Values.{took, refused, number_reason, as_number, as_swallowed, number_from, number_or, swallowed_from, optional_from}
use Rattle.parse_fields.specs.Taking.{Numbered, opt_in, MayFit}
use Rattle.std.specs.Prelude.{IsErr, IsErrAnd}
use Rattle.std.proofs.lemmas.Result.{err_from_is_err_and}

-- what `?` hands on where a number cannot be taken
pub handed-on : {A : Type 0} {r : Result A Reason} {why : Reason} → IsErr r × IsErrAnd r (λ x. x ≡ why) → r ≡ Err why
handed-on {A} {r} h = let (e, is, q) = err_from_is_err_and r h.1 in is ∙ ap Err q

-- neither a value nor malformed
pub beyond : (d : Float) (n : Result Float NumberError) (fs : List Name) → ((x : Float) → n ≡ Ok x → ⊥) → (n ≡ Err Malformed → ⊥) → refused reason.BeyondReach ≡ as_swallowed d n fs
beyond d (Ok x) fs h k = absurd (h x refl)
beyond d (Err Malformed) fs h k = absurd (k refl)
beyond d (Err Beyond) fs h k = refl

-- ---- the number of the next field
pub numbered-read : (l : List ℕ) (at : ℕ) (f : Option Span) → Next l at f → (s : Span) → f ≡ Some s → (w : List ℕ) → w ≡ part s.at s.end l → (n : Result Float NumberError) → n ≡ number_of w
    → Numbered l at (Some (n, s.end))
numbered-read l at f h s e w ew n en = (name_in l s, (h.taken s e).0, en ∙ ap number_of ew)

module _ (l : List ℕ) (at start : ℕ) (es : start ≡ start_at l at) where
  -- whitespace before it is passed over
  pub numbered-from : (r : Option (Result Float NumberError × ℕ)) → Numbered l start r → Numbered l at r
  numbered-from (Some (n, end)) (f, h, e) = (f, skipped l at start 0 es ∙ h, e)
  numbered-from None h = skipped l at start 0 es ∙ h

  pub numbered-none : length l ≤ start → Numbered l at None
  numbered-none h = (next-nothing l at start 0 es h).nothing refl

  begun : (n : Result Float NumberError) (len : ℕ) (p : Option (Result Float NumberError × ℕ)) → Begins (take (length l - start) (drop start l)) p → p ≡ Some (n, len) → Begins (drop start l) (Some (n, len))
  begun n len p b e = subst (λ (d : List ℕ). Begins d (Some (n, len))) (tail_of l start) (subst (Begins (take (length l - start) (drop start l))) e b)

  -- read while it was scanned
  pub numbered-plain : start < length l → (n : Result Float NumberError) (len : ℕ) (p : Option (Result Float NumberError × ℕ)) → Begins (take (length l - start) (drop start l)) p → p ≡ Some (n, len) → Numbered l at (Some (n, (start + len)))
  numbered-plain h n len p b e =
      let (k, q) = begun n len p b e in
      let z : start + len - start ≡ len = omega arith in
      numbered-read l at _ (next_word l at start (start + len) es h len k refl) (record { at = start; end = start + len }) refl (take len (drop start l)) (rw z) n q

  -- and where it ends inside the line, the whitespace behind it is passed over
  pub numbered-over : start < length l → (n : Result Float NumberError) (len : ℕ) (p : Option (Result Float NumberError × ℕ)) → Begins (take (length l - start) (drop start l)) p → p ≡ Some (n, len) → start + len < length l
      → Numbered l at (Some (n, (start + len + 1)))
  numbered-over h n len p b e i =
      let (f, k, q) = numbered-plain h n len p b e in
      (f, k ∙ ap (f ∷◌) (word_over l start len (begun n len p b e).0 i), q)

  pub plain_fits : start < length l → (n : Result Float NumberError) (len : ℕ) (p : Option (Result Float NumberError × ℕ)) → Begins (take (length l - start) (drop start l)) p → p ≡ Some (n, len) → start + len ≤ length l
  plain_fits h n len p b e = ((next_word l at start (start + len) es h len (begun n len p b e).0 refl).taken _ refl).1.inside

  -- ---- the number of a part that was handed out: the next field's, or the other text
  module _ (other text : List ℕ) (et : text ≡ letters_or other (fields_at l start)) (n : Result Float NumberError) (en : n ≡ number_of text) where
    handed : text ≡ letters_or other (fields_at l at)
    handed = et ∙ sym (ap (letters_or other) (skipped l at start 0 es))

    -- the others stand from the part's end on
    pub took-part : start < length l → as_number n (fields_at l (start + length text)) ≡ number_or other (fields_at l at)
    took-part h =
        let end : ℕ = start + word_len (drop start l) in
        let (k, fit) = (next_word l at start end es h (word_len (drop start l)) refl refl).taken (record { at = start; end = end }) refl in
        let p : text ≡ part start end l = handed ∙ ap (letters_or other) k in
        let z : start + length text ≡ end = omega (arith, ap length p, length_part start end l fit.inside) in
        rw (z, k) (ap (λ (x : Result Float NumberError). as_number x (fields_at l end)) (en ∙ ap number_of p))

    pub took-other : length l ≤ start → as_number n (fields_at l at) ≡ number_or other (fields_at l at)
    took-other h =
        let k : fields_at l at ≡ [] = (next-nothing l at start 0 es h).nothing refl in
        ap₂ as_number (en ∙ ap number_of handed) refl ∙ rw k

    -- refused whether the field was there or not
    pub took-refused : (e : NumberError) → n ≡ Err e → refused (number_reason e) ≡ number_or other (fields_at l at)
    took-refused e q = rw (← handed) (rw (sym en ∙ q))

-- a plain number that is all of a text
pub plain-whole : (s : List ℕ) (n : Result Float NumberError) (len : ℕ) (p : Option (Result Float NumberError × ℕ)) → Begins s p → p ≡ Some (n, len) → len ≡ length s → n ≡ number_of s
plain-whole s n len p b e h = let (k, q) = subst (Begins s) e b in q ∙ ap number_of (take_all len s (omega (arith, h)))

-- a field that may be there
module _ {l : List ℕ} {at : ℕ} where
  pub optional : (f : Option Span) → Next l at f → optional_from (fields_at l at) ≡ took (opt_in l f) (rest (fields_at l at))
  optional (Some s) n = rw (n.taken s refl).0
  optional None n = rw (n.nothing refl)

  pub may-fit : (f : Option Span) → Next l at f → MayFit l f
  may-fit (Some s) n = (n.taken s refl).1
  may-fit None n = tt
