-- From what a match on a class tells to the grammar's test `is`. Assumes nothing.
use mathlib.Core.Path.{◌≡◌, refl, sym, ap, ◌∙◌}
use mathlib.Core.Bool.{Bool, true, false, cond, ◌&&◌, ◌||◌}
use Prim.Native.Nat.{ℕ, ◌≤◌, ◌<◌}
use native.Mathlib.Omega.{arith}
use lib.Dec.{leb, eqb}
use borrow.Author.Tests.{eq-eqb, ne_eqb, eqb-true, leb-true, le-leb, lt-leb}
use Rattle.leaf_digits.specs.declared.Class.{Class}
use Rattle.leaf_digits.specs.declared.Class.TheVariants.{Space, Digit, Sign, Point, Exponent, Other}
use Rattle.leaf_digits.specs.Bytes.{class_of, rank, is}

-- the class that has a rank
ranked : ℕ → Class
ranked n = cond (eqb n 0) Space (cond (eqb n 1) Digit (cond (eqb n 2) Sign (cond (eqb n 3) Point (cond (eqb n 4) Exponent Other))))

ranked_rank : (k : Class) → ranked (rank k) ≡ k
unfolding ranked
ranked_rank Space = refl
ranked_rank Digit = refl
ranked_rank Sign = refl
ranked_rank Point = refl
ranked_rank Exponent = refl
ranked_rank Other = refl

-- the class k of the byte b is d
pub is-class : (d : Class) (b : ℕ) {k : Class} → k ≡ class_of b → k ≡ d → is d b ≡ true
is-class d b e q = eq-eqb (rank (class_of b)) (rank d) (ap rank (sym e ∙ q))

-- a byte of the class k is of no other
pub class-is : (k : Class) (b : ℕ) → is k b ≡ true → (d : Class) → is d b ≡ eqb (rank k) (rank d)
class-is k b e d = ap (λ (n : ℕ). eqb n (rank d)) (eqb-true (rank (class_of b)) (rank k) e)

-- it is not d
pub not-class : (d : Class) (b : ℕ) {k : Class} → k ≡ class_of b → (k ≡ d → ⊥) → is d b ≡ false
not-class d b e n = ne_eqb (rank (class_of b)) (rank d) (λ q. n (e ∙ sym (ranked_rank (class_of b)) ∙ ap ranked q ∙ ranked_rank d))

-- a digit's range
pick : (s d g p x : Bool) → cond s Space (cond d Digit (cond g Sign (cond p Point (cond x Exponent Other)))) ≡ Digit → d ≡ true
pick true d g p x e = cc
pick false true g p x e = refl
pick false false true p x e = cc
pick false false false true x e = cc
pick false false false false true e = cc
pick false false false false false e = cc

both : (p q : Bool) → p && q ≡ true → (p ≡ true) × (q ≡ true)
both true q e = (refl, e)
both false q e = (e, cc)

to-digit : (k : Class) → eqb (rank k) 1 ≡ true → k ≡ Digit
to-digit Space e = cc
to-digit Digit e = refl
to-digit Sign e = cc
to-digit Point e = cc
to-digit Exponent e = cc
to-digit Other e = cc

pub digit-range : (b : ℕ) → is Digit b ≡ true → (48 ≤ b) × (b ≤ 57)
unfolding class_of
digit-range b e =
    let r = both (leb 48 b) (leb b 57) (pick ((leb 9 b && leb b 13) || eqb b 32) (leb 48 b && leb b 57) (eqb b 43 || eqb b 45) (eqb b 46) (eqb b 69 || eqb b 101) (to-digit (class_of b) e)) in
    (leb-true 48 b r.0, leb-true b 57 r.1)

-- outside of it no byte is a digit
pub no_digit : (b : ℕ) → ((48 ≤ b) × (b ≤ 57) → ⊥) → is Digit b ≡ false
no_digit b n = go (is Digit b) refl
  where
    go : (x : Bool) → is Digit b ≡ x → is Digit b ≡ false
    go true e = absurd (n (digit-range b e))
    go false e = e

-- ---- whitespace: no byte above 32
above : (d g p x : Bool) → eqb (rank (cond d Digit (cond g Sign (cond p Point (cond x Exponent Other))))) 0 ≡ false
above true g p x = refl
above false true p x = refl
above false false true x = refl
above false false false true = refl
above false false false false = refl

pub above-space : (b : ℕ) → 32 < b → is Space b ≡ false
unfolding class_of
above-space b h =
    rw (le-leb 9 b (omega arith), lt-leb b 13 (omega arith), ne_eqb b 32 (λ e. omega arith))
    (above (leb 48 b && leb b 57) (eqb b 43 || eqb b 45) (eqb b 46) (eqb b 69 || eqb b 101))
