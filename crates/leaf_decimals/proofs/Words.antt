-- `spells`, one letter at a time. Assumes nothing.
use mathlib.Core.Path.{◌≡◌, refl, ap}
use mathlib.Core.Bool.{Bool, true, false, ◌&&◌}
use mathlib.Core.List.{List, [], ◌∷◌}
use Prim.Native.Nat.{ℕ, suc, ◌<◌}
use native.Mathlib.Omega.{arith}
use lib.ListN.{length}
use lib.Dec.{eqb}
use borrow.Author.Tests.{ne_eqb, lt-leb}
use Rattle.std.proofs.Math.Bool.{and-false}
use Rattle.std.specs.List.{list_all, zip}
use Rattle.leaf_digits.specs.declared.Class.TheVariants.{Digit}
use Rattle.leaf_digits.specs.Bytes.{is, lower}
use Rattle.leaf_digits.specs.Digits.{digits}
use Rattle.leaf_decimals.specs.Numbers.{spells}
use Rattle.leaf_digits.proofs.Classes.{digit-range}
use Rattle.leaf_digits.proofs.Digits.{digits-no}

pub spells-length : (s w : List ℕ) → (length s ≡ length w → ⊥) → spells s w ≡ false
unfolding spells
spells-length [] [] n = absurd (n refl)
spells-length [] (b ∷ t) n = refl
spells-length (a ∷ s) [] n = refl
spells-length (a ∷ s) (b ∷ t) n = rw (spells-length s t (λ e. n (ap suc e))) (and-false (eqb (lower a) b))

-- what a test of each pair answers, where the two are as long
pub spells-all : (s w : List ℕ) → length s ≡ length w → list_all (λ p. eqb (lower p.0) p.1) (zip s w) ≡ spells s w
unfolding spells
spells-all [] [] h = refl
spells-all [] (b ∷ t) h = cc
spells-all (a ∷ s) [] h = cc
spells-all (a ∷ s) (b ∷ t) h = ap (λ x. eqb (lower a) b && x) (spells-all s t (cc))

-- a text that begins with a digit is no word that begins with a letter
digit-differs : (b a : ℕ) → 57 < a → is Digit b ≡ true → eqb (lower b) a ≡ false
digit-differs b a h e =
    let r = digit-range b e in
    simp (lt-leb 65 b (omega arith)) (ne_eqb b a (λ q. omega arith))

pub digits-no-word : (s : List ℕ) (a : ℕ) (w : List ℕ) → 57 < a → (length (digits s) ≡ 0 → ⊥) → spells s (a ∷ w) ≡ false
unfolding spells
digits-no-word [] a w h n = refl
digits-no-word (b ∷ t) a w h n = go (is Digit b) refl
  where
    go : (x : Bool) → is Digit b ≡ x → spells (b ∷ t) (a ∷ w) ≡ false
    go true e = simp (digit-differs b a h e)
    go false e = absurd (n (ap length (digits-no b t e)))
