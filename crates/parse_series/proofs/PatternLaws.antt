-- A loop over the multipliers of a line. Assumes nothing.
use Rattle.leaf_decimals.specs.declared.NumberError.{NumberError}
use Rattle.std.specs.Prelude.{Err, Ok}
use Prim.Native.Nat.{ℕ, suc, ◌+◌, ◌≤◌, ◌<◌}
use native.Mathlib.Omega.{arith}
use native.Mathlib.Numerals.{add-one}
use mathlib.Core.Path.{◌≡◌, refl, sym, ap, ◌∙◌}
use mathlib.Core.Bool.{Bool, true, false, cond}
use mathlib.Core.List.{List, [], ◌∷◌, ◌++◌, append_assoc, append-nil}
use lib.ListN.{length, take, drop, set, length-append, length-drop, length-set, drop_of_length-le}
use lib.Seq.{take-nil, drop-nil, take_all, take-append-le, drop-append-le, take-suc-set}
use lib.Ieee.{Float}
use Rattle.leaf_decimals.specs.Numbers.{number_of}
use Rattle.leaf_scans.specs.Lines.{is_space}
use Rattle.leaf_fields.specs.Fields.{Name, on_first, before, fields_of, fields_at}
use Rattle.scope.specs.Values.{Read, good, bad, on_read, number_reason}
use Rattle.scope.specs.Series.{multipliers_of}
use Rattle.parse_series.specs.Lines.{CountedAs}

-- there are no more fields than bytes
before-le : (at b : ℕ) (bs : List ℕ) (fs : List Name) → length (before at b bs fs) ≤ suc (length fs)
before-le at b [] fs = omega arith
before-le at b (x ∷ xs) [] = go (is_space x)
  where
    go : (t : Bool) → length (cond {A = List Name} t (record { at = at; letters = b ∷ [] } ∷ []) (on_first at b [])) ≤ 1
    go true = omega arith
    go false = omega arith
before-le at b (x ∷ xs) (f ∷ fs) = go (is_space x)
  where
    go : (t : Bool) → length (cond {A = List Name} t (record { at = at; letters = b ∷ [] } ∷ f ∷ fs) (on_first at b (f ∷ fs))) ≤ suc (suc (length fs))
    go true = omega arith
    go false = omega arith

fields_le : (at : ℕ) (l : List ℕ) → length (fields_of at l) ≤ length l
unfolding fields_of
fields_le at [] = omega arith
fields_le at (b ∷ bs) = go (is_space b) (fields_le (suc at) bs) (before-le at b bs (fields_of (suc at) bs))
  where
    go : (t : Bool) → length (fields_of (suc at) bs) ≤ length bs → length (before at b bs (fields_of (suc at) bs)) ≤ suc (length (fields_of (suc at) bs))
        → length (cond t (fields_of (suc at) bs) (before at b bs (fields_of (suc at) bs))) ≤ suc (length bs)
    go true h k = omega arith
    go false h k = omega arith

pub line-le : (l : List ℕ) (at : ℕ) → length (fields_at l at) ≤ length l
line-le l at = omega (arith, fields_le at (drop at l), length-drop at l)

-- a field that is a number, and one that is none
module _ (f : Name) (fs : List Name) where
  with_number : {x : Float} → number_of f.letters ≡ Ok x → multipliers_of (f ∷ fs) ≡ on_read (multipliers_of fs) (λ xs. good (x ∷ xs))
  unfolding multipliers_of
  with_number q = rw q

  no_number : {e : NumberError} → number_of f.letters ≡ Err e → multipliers_of (f ∷ fs) ≡ bad (number_reason e)
  unfolding multipliers_of
  no_number q = rw q

-- how far the loop has come: n multipliers of the fields fs are read, and the first r of them are kept; the fields gs are left, and past those that are kept, the fields hs
pub record Going (fs gs hs : List Name) (r : ℕ) (first : List Float) (n : ℕ) : Type 0 where
  pub done : List Float
  pub long : length done ≡ n
  pub whole : multipliers_of fs ≡ on_read (multipliers_of gs) (λ xs. good (done ++ xs))
  pub fewer : n + length gs ≡ length fs
  pub room : length first ≡ r
  pub kept : take n first ≡ take r done
  pub left : multipliers_of hs ≡ on_read (multipliers_of gs) (λ xs. good (drop r done ++ xs))

on-nothing : (o : Read (List Float)) → o ≡ on_read o (λ xs. good xs)
on-nothing (good a) = refl
on-nothing (bad n) = refl

on-more : (o : Read (List Float)) (done : List Float) (x : Float)
    → on_read (on_read o (λ xs. good (x ∷ xs))) (λ xs. good (done ++ xs)) ≡ on_read o (λ xs. good ((done ++ (x ∷ [])) ++ xs))
on-more (good a) done x = rw append_assoc
on-more (bad n) done x = refl

pub start-going : (fs : List Name) (first : List Float) → Going fs fs fs (length first) first 0
start-going fs first =
    record {
      done = [];
      long = refl;
      whole = on-nothing (multipliers_of fs);
      fewer = omega arith;
      room = refl;
      kept = sym (take-nil (length first));
      left = rw (drop-nil (length first)) (on-nothing (multipliers_of fs));
    }

module _ {fs gs hs : List Name} {r : ℕ} {first : List Float} {n : ℕ} (g : Going fs gs hs r first n) where
  -- one more number: the other fields stand from the place `next` on
  module _ (l : List ℕ) (f : Name) (next : ℕ) (x : Float) (q : gs ≡ f ∷ fields_at l next) (h : number_of f.letters ≡ Ok x) where
    abbrev more : List Float
    more = g.done ++ (x ∷ [])

    one : multipliers_of gs ≡ on_read (multipliers_of (fields_at l next)) (λ xs. good (x ∷ xs))
    one = rw q (with_number f (fields_at l next) h)

    -- fewer fields are left
    pub less-going : length gs ≡ length (fields_at l next) + 1
    less-going = omega (arith, ap length q)

    more-long : length more ≡ n + 1
    more-long = omega (arith, length-append g.done (x ∷ []), g.long)

    -- what was read before, and the number, before what is left
    then : (done : List Float) (o : Read (List Float)) → o ≡ on_read (multipliers_of gs) (λ xs. good (done ++ xs))
        → o ≡ on_read (multipliers_of (fields_at l next)) (λ xs. good ((done ++ (x ∷ [])) ++ xs))
    then done o e = e ∙ rw one (on-more (multipliers_of (fields_at l next)) done x)

    -- a number that is kept, and one past the first eight
    pub keep-going : n < r → Going fs (fields_at l next) (fields_at l next) r (set first n x) (n + 1)
    keep-going k =
        let none : drop r more ≡ [] = drop_of_length-le more {i = r} (omega (arith, more-long)) in
        let all : take r more ≡ more = take_all r more (omega (arith, more-long)) in
        let before : take n first ≡ g.done = g.kept ∙ take_all r g.done (omega (arith, g.long)) in
        record {
          done = more;
          long = more-long;
          whole = then g.done (multipliers_of fs) g.whole;
          fewer = omega (arith, less-going, g.fewer);
          room = length-set first n x ∙ g.room;
          kept = rw (all, add-one, take-suc-set first n x (omega (arith, g.room)), before);
          left = rw none (on-nothing (multipliers_of (fields_at l next)));
        }

    pub pass-going : r ≤ n → Going fs (fields_at l next) hs r first (n + 1)
    pass-going k =
        record {
          done = more;
          long = more-long;
          whole = then g.done (multipliers_of fs) g.whole;
          fewer = omega (arith, less-going, g.fewer);
          room = g.room;
          kept = take_all (n + 1) first (omega (arith, g.room)) ∙ sym (take_all n first (omega (arith, g.room))) ∙ g.kept ∙ sym (take-append-le r g.done (x ∷ []) (omega (arith, g.long)));
          left = rw (drop-append-le r g.done (x ∷ []) (omega (arith, g.long))) (then (drop r g.done) (multipliers_of hs) g.left);
        }

  pub bad-going : (l : List ℕ) (f : Name) (next : ℕ) (e : NumberError) → gs ≡ f ∷ fields_at l next → number_of f.letters ≡ Err e → multipliers_of fs ≡ bad (number_reason e)
  bad-going l f next e q h = g.whole ∙ rw (q, no_number f (fields_at l next) h)

pub done-going : {fs gs : List Name} {r : ℕ} {first : List Float} {n : ℕ} (l : List ℕ) (rest : ℕ) → Going fs gs (fields_at l rest) r first n → gs ≡ []
    → CountedAs l first (multipliers_of fs) (Ok (n, rest))
unfolding multipliers_of
done-going l rest g e = (g.done, g.whole ∙ rw (e, append-nil), record { long = g.long; kept = rw g.room g.kept; left = rw g.room (g.left ∙ rw (e, append-nil)) })
