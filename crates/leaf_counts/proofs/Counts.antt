-- A count, one digit at a time. Assumes nothing.
use Rattle.std.specs.Prelude.{None, Option, Some}
use mathlib.Core.Path.{◌≡◌, refl, sym, ap, ◌∙◌}
use mathlib.Core.Bool.{Bool, true, false, not, cond, ◌||◌, false≢true}
use mathlib.Core.List.{List, [], ◌∷◌}
use Prim.Native.Nat.{ℕ, ◌+◌, ◌-◌, ◌*◌, ◌^◌, ◌≤◌, ◌<◌}
use native.Mathlib.Nat.{le_trans}
use native.Mathlib.Numerals.{add-one}
use native.Mathlib.Omega.{arith}
use lib.ListN.{length, drop, get_or, drop_of_length-le}
use lib.Seq.{drop-cons}
use lib.Dec.{leb}
use borrow.Author.Tests.{eq-eqb, ne_eqb, le-leb, lt-leb}
use Rattle.leaf_digits.specs.declared.Class.TheVariants.{Digit, Sign}
use Rattle.leaf_digits.specs.Bytes.{class_of, is}
use Rattle.leaf_digits.specs.Digits.{digits, after, value, empty}
use Rattle.leaf_counts.specs.Counts.{whole, count_of}
use Rattle.leaf_digits.proofs.Classes.{class-is}
use Rattle.leaf_digits.proofs.Digits.{digits-yes, digits-no, value-cons}
use Rattle.leaf_digits.proofs.Lists.{head_of, nil-of}

-- what a count is whose last digits are those of s, with those of a before them
pub from : ℕ → List ℕ → Option ℕ
from a s = cond (not (empty (after s)) || leb (2 ^ 64) (value a (digits s))) None (Some (value a (digits s)))

after-yes : (b : ℕ) (t : List ℕ) → is Digit b ≡ true → after (b ∷ t) ≡ after t
unfolding after
after-yes b t e = ap (λ (l : List ℕ). drop (length l) (b ∷ t)) (digits-yes b t e)

after-no : (b : ℕ) (t : List ℕ) → is Digit b ≡ false → after (b ∷ t) ≡ b ∷ t
unfolding after
after-no b t e = ap (λ (l : List ℕ). drop (length l) (b ∷ t)) (digits-no b t e)

from-yes : (a b : ℕ) (t : List ℕ) → is Digit b ≡ true → from a (b ∷ t) ≡ from (a * 10 + (b - 48)) t
unfolding from
from-yes a b t e = rw (after-yes b t e, digits-yes b t e, value-cons)

from-no : (a b : ℕ) (t : List ℕ) → is Digit b ≡ false → from a (b ∷ t) ≡ None
unfolding from
from-no a b t e = simp (after-no b t e)

-- digits more do not make a number less
value-le : (a : ℕ) (ds : List ℕ) → a ≤ value a ds
unfolding value
value-le a [] = omega arith
value-le a (d ∷ t) = le_trans (omega arith) (value-le (a * 10 + (d - 48)) t)

past : (x : Bool) (y : Bool) (c : Option ℕ) → y ≡ true → cond (x || y) None c ≡ None
past true y c e = refl
past false y c e = ap (λ (z : Bool). cond z None c) e

from_past : (a : ℕ) (s : List ℕ) → 2 ^ 64 ≤ a → from a s ≡ None
unfolding from
from_past a s h = past (not (empty (after s))) _ _ (le-leb (2 ^ 64) (value a (digits s)) (le_trans h (value-le a (digits s))))

from-nil : (a : ℕ) → a < 2 ^ 64 → from a [] ≡ Some a
unfolding from after digits value
from-nil a h = simp (lt-leb (2 ^ 64) a h)

whole_from : (b : ℕ) (t : List ℕ) → whole (b ∷ t) ≡ from 0 (b ∷ t)
unfolding whole from
whole_from b t = go (is Digit b) refl
  where
    go : (x : Bool) → is Digit b ≡ x → whole (b ∷ t) ≡ from 0 (b ∷ t)
    go true e = rw (digits-yes b t e)
    go false e = simp (digits-no b t e)

-- ---- at the place i of s, where the count so far is v
module _ (s : List ℕ) (i v : ℕ) where
  opened : i < length s → from v (drop i s) ≡ from v (get_or s i 0 ∷ drop (i + 1) s)
  opened h = rw (drop-cons s i 0 h, add-one)

  pub from_more : i < length s → is Digit (get_or s i 0) ≡ true → from v (drop i s) ≡ from (v * 10 + (get_or s i 0 - 48)) (drop (i + 1) s)
  from_more h e = opened h ∙ from-yes v (get_or s i 0) (drop (i + 1) s) e

  from-other : i < length s → is Digit (get_or s i 0) ≡ false → from v (drop i s) ≡ None
  from-other h e = opened h ∙ from-no v (get_or s i 0) (drop (i + 1) s) e

  -- no digit follows, or the count is too great with it
  pub from-none : i < length s → ((is Digit (get_or s i 0) ≡ true) × (v * 10 + (get_or s i 0 - 48) < 2 ^ 64) → ⊥) → from v (drop i s) ≡ None
  from-none h n = go (is Digit (get_or s i 0)) refl
    where
      go : (x : Bool) → is Digit (get_or s i 0) ≡ x → from v (drop i s) ≡ None
      go true e =
          let m : v * 10 + (get_or s i 0 - 48) < 2 ^ 64 → ⊥ = λ k. n (e, k) in
          from_more h e ∙ from_past (v * 10 + (get_or s i 0 - 48)) (drop (i + 1) s) (omega arith)
      go false e = from-other h e

  pub from_end : length s ≤ i → v < 2 ^ 64 → from v (drop i s) ≡ Some v
  from_end h k = ap (from v) (drop_of_length-le s h) ∙ from-nil v k

pub whole-nil : (s : List ℕ) → length s ≡ 0 → whole s ≡ None
unfolding whole digits
whole-nil s e = ap whole (nil-of s e)

pub whole-start : (s : List ℕ) → 0 < length s → from 0 s ≡ whole s
whole-start s h = ap (from 0) (head_of s h) ∙ sym (whole_from (get_or s 0 0) (drop 1 s)) ∙ ap whole (sym (head_of s h))

pub count-nil : (s : List ℕ) → length s ≡ 0 → count_of s ≡ None
unfolding count_of
count-nil s e = ap count_of (nil-of s e) ∙ whole-nil [] refl

pub count-plus : (s : List ℕ) → 0 < length s → get_or s 0 0 ≡ 43 → count_of s ≡ whole (drop 1 s)
unfolding count_of
count-plus s h e = ap count_of (head_of s h) ∙ simp (eq-eqb (get_or s 0 0) 43 e)

count-plain : (s : List ℕ) → 0 < length s → (get_or s 0 0 ≡ 43 → ⊥) → count_of s ≡ whole s
unfolding count_of
count-plain s h n = ap count_of (head_of s h) ∙ (simp (ne_eqb (get_or s 0 0) 43 n)) ∙ ap whole (sym (head_of s h))

pub count-unsigned : (s : List ℕ) → 0 < length s → is Sign (get_or s 0 0) ≡ false → count_of s ≡ whole s
unfolding class_of
count-unsigned s h e = count-plain s h (λ q. let z : ◌≡◌ {A = Bool} true false = ap (is Sign) (sym q) ∙ e in absurd (false≢true (sym z)))

-- another sign
pub count-sign : (s : List ℕ) → 0 < length s → is Sign (get_or s 0 0) ≡ true → (get_or s 0 0 ≡ 43 → ⊥) → count_of s ≡ None
count-sign s h e n = count-plain s h n ∙ sym (whole-start s h) ∙ from-other s 0 0 h (class-is Sign _ e Digit)
