-- The digits that a text begins with, one at a time, and their number up to the cap. Assumes nothing.
use mathlib.Core.Path.{◌≡◌, refl, sym, ap, ◌∙◌}
use mathlib.Core.Bool.{Bool, true, false, cond}
use mathlib.Core.List.{List, [], ◌∷◌}
use Prim.Native.Nat.{ℕ, suc, ◌+◌, ◌-◌, ◌*◌, ◌≤◌, ◌<◌, min, zero-le, suc-le-suc}
use native.Mathlib.Numerals.{add-one}
use native.Mathlib.Omega.{arith}
use lib.ListN.{length, drop, get_or, drop_of_length-le}
use lib.Seq.{drop-cons}
use Rattle.leaf_digits.specs.declared.Class.TheVariants.{Digit}
use Rattle.leaf_digits.specs.Bytes.{is}
use Rattle.leaf_digits.specs.Digits.{digits, value}
use Rattle.leaf_digits.specs.Cap.{cap}

pub digits-yes : (b : ℕ) (t : List ℕ) → is Digit b ≡ true → digits (b ∷ t) ≡ b ∷ digits t
unfolding digits
digits-yes b t e = simp e

pub digits-no : (b : ℕ) (t : List ℕ) → is Digit b ≡ false → digits (b ∷ t) ≡ []
unfolding digits
digits-no b t e = simp e

pub digits-nil : digits [] ≡ []
unfolding digits
digits-nil = refl

pub digits_step : (s : List ℕ) (i : ℕ) → i < length s → is Digit (get_or s i 0) ≡ true → digits (drop i s) ≡ get_or s i 0 ∷ digits (drop (i + 1) s)
digits_step s i h e = ap digits (drop-cons s i 0 h) ∙ digits-yes (get_or s i 0) (drop (suc i) s) e ∙ ap (λ (j : ℕ). get_or s i 0 ∷ digits (drop j s)) (sym (add-one i))

pub digits-stop : (s : List ℕ) (i : ℕ) → i < length s → is Digit (get_or s i 0) ≡ false → digits (drop i s) ≡ []
digits-stop s i h e = ap digits (drop-cons s i 0 h) ∙ digits-no (get_or s i 0) (drop (suc i) s) e

pub digits-end : (s : List ℕ) (i : ℕ) → length s ≤ i → digits (drop i s) ≡ []
digits-end s i h = ap digits (drop_of_length-le s h) ∙ digits-nil

pub digits_le : (s : List ℕ) → length (digits s) ≤ length s
unfolding digits
digits_le [] = zero-le
digits_le (b ∷ t) = go (is Digit b) (digits_le t)
  where
    go : (x : Bool) → length (digits t) ≤ length t → length (cond x (b ∷ digits t) []) ≤ suc (length t)
    go true h = suc-le-suc h
    go false h = zero-le

pub value-nil : (a : ℕ) → value a [] ≡ a
unfolding value
value-nil a = refl

pub value-cons : (a d : ℕ) (t : List ℕ) → value a (d ∷ t) ≡ value (a * 10 + (d - 48)) t
unfolding value
value-cons a d t = refl

-- the cap may be taken at once, or at the end
once : (a e : ℕ) → min (min a cap * 10 + e) cap ≡ min (a * 10 + e) cap
once a e = omega arith

twice : (a : ℕ) → min (min a cap) cap ≡ min a cap
twice a = omega arith

pub capped : (a : ℕ) (ds : List ℕ) → min (value (min a cap) ds) cap ≡ min (value a ds) cap
unfolding value
capped a [] = twice a
capped a (d ∷ t) =
    sym (capped (min a cap * 10 + (d - 48)) t) ∙ ap (λ (x : ℕ). min (value x t) cap) (once a (d - 48)) ∙ capped (a * 10 + (d - 48)) t
