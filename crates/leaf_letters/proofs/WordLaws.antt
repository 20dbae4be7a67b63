-- Texts that are compared byte by byte. Assumes nothing.
use Prim.Native.Nat.{ℕ, suc}
use Rattle.std.proofs.Math.Bool.{and-false}
use Rattle.std.proofs.lemmas.Bool.{false≢true}
use Rattle.std.proofs.lemmas.Bool.Decides.{same_from_decides}
use Rattle.std.proofs.lemmas.Slice.Eq.{bytes_eq-Decides, compares_Decides}
use Rattle.std.specs.Cmp.Lexicographic.{pointwise}
use Rattle.std.specs.List.{list_all, zip}
use mathlib.Core.Path.{◌≡◌, refl, sym, ap, ◌∙◌}
use mathlib.Core.Logic.{◌↔◌}
use mathlib.Core.Bool.{true, false, ◌&&◌}
use mathlib.Core.List.{List, [], ◌∷◌, map}
use lib.ListN.{length}
use lib.Dec.{eqb}
use Rattle.leaf_letters.specs.Words.{same}

-- two texts are the same exactly where they are equal
pub same-iff : (a b : List ℕ) → (same a b ≡ true) ↔ (a ≡ b)
unfolding same
same-iff = compares_Decides same (record { empty = refl; shorter = λ _ _. refl; longer = λ _ _. refl; heads = λ _ _ _ _. refl })

pub same-equal : (a b : List ℕ) → same a b ≡ true → a ≡ b
same-equal a b = (same-iff a b).0

pub differ : (a b : List ℕ) → same a b ≡ false → a ≡ b → ⊥
differ a b h e = false≢true (sym h ∙ (same-iff a b).1 e)

-- what `==` of two slices answers, and `starts_with`, which compares the word with the text
pub same-pointwise : (a b : List ℕ) → pointwise eqb a b ≡ same a b
same-pointwise a b = same_from_decides _ _ (bytes_eq-Decides a b) (same-iff a b)

pub same-turned : (a b : List ℕ) → pointwise eqb b a ≡ same a b
same-turned a b = let d = bytes_eq-Decides b a in same_from_decides _ _ (λ e. sym (d.0 e), λ e. d.1 (sym e)) (same-iff a b)

-- what a test of each pair answers, where the two are as long; where they are not, they are not the same
pub same-all : (f : ℕ → ℕ) (a b : List ℕ) → length a ≡ length b → list_all (λ p. eqb (f p.0) p.1) (zip a b) ≡ same (map f a) b
unfolding same
same-all f [] [] h = refl
same-all f [] (y ∷ b) h = cc
same-all f (x ∷ a) [] h = cc
same-all f (x ∷ a) (y ∷ b) h = ap (λ t. eqb (f x) y && t) (same-all f a b (cc))

pub same-long : (f : ℕ → ℕ) (a b : List ℕ) → (length a ≡ length b → ⊥) → same (map f a) b ≡ false
unfolding same
same-long f [] [] h = absurd (h refl)
same-long f [] (y ∷ b) h = refl
same-long f (x ∷ a) [] h = refl
same-long f (x ∷ a) (y ∷ b) h = rw (same-long f a b (λ e. h (ap suc e))) (and-false (eqb (f x) y))
