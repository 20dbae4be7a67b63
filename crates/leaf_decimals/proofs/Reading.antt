-- The parts of the grammar by cases, as the code goes; and that a count which stops at the cap changes nothing. Assumes nothing.
use Rattle.std.specs.Prelude.{Err, Ok}
use mathlib.Core.Path.{◌≡◌, refl, sym, ap, ◌∙◌}
use mathlib.Core.Bool.{Bool, true, false, not, cond, ◌||◌}
use mathlib.Core.List.{List, [], ◌∷◌}
use Prim.Native.Nat.{ℕ, ◌+◌, ◌-◌, ◌≤◌, ◌<◌, min}
use native.Mathlib.Omega.{arith}
use lib.ListN.{length, drop, take, get_or, length-drop}
use lib.Dec.{eqb}
use lib.Ieee.{inf, nan}
use borrow.Author.Tests.{eq-eqb, ne_eqb}
use Rattle.leaf_decimals.specs.declared.NumberError.TheVariants.{Malformed}
use Rattle.leaf_digits.specs.declared.Class.TheVariants.{Sign, Point, Exponent}
use Rattle.leaf_decimals.specs.Reach.{meaning}
use Rattle.leaf_digits.specs.Cap.{cap}
use Rattle.leaf_digits.specs.Bytes.{is}
use Rattle.leaf_digits.specs.Digits.{digits, after, value, empty}
use Rattle.leaf_decimals.specs.Numbers.{Reading, malformed, decimal, power, exponent, ending, point, outcome, unsigned, number_of, spells, word_inf, word_infinity, word_nan}
use Rattle.leaf_decimals.proofs.Meaning.{meaning-cap-w}
use Rattle.leaf_digits.proofs.Lists.{tail_of, head_of, nil-of}
use Rattle.leaf_digits.proofs.Digits.{capped}
use Rattle.leaf_decimals.proofs.Words.{digits-no-word}

empty-yes : (l : List ℕ) → length l ≡ 0 → empty l ≡ true
empty-yes l e = ap empty (nil-of l e)

empty-no : (l : List ℕ) → 0 < length l → empty l ≡ false
empty-no l h = ap empty (head_of l h)

-- ---- an exponent after its sign
abbrev wrong : List ℕ → Bool
wrong s = empty (digits s) || not (empty (after s))

wrong-none : (s : List ℕ) → length (digits s) ≡ 0 → wrong s ≡ true
wrong-none s e = simp (empty-yes (digits s) e)

after-length : (s : List ℕ) → length (after s) ≡ length s - length (digits s)
unfolding after
after-length s = length-drop (length (digits s)) s

wrong-more : (s : List ℕ) → length (digits s) < length s → wrong s ≡ true
wrong-more s h = simp (empty-no (after s) (omega (arith, after-length s))) (or-true (empty (digits s)))
  where
    or-true : (b : Bool) → b || true ≡ true
    or-true true = refl
    or-true false = refl

right : (s : List ℕ) → (length (digits s) ≡ 0 → ⊥) → length s ≤ length (digits s) → wrong s ≡ false
right s n h = simp (empty-no (digits s) (omega arith), empty-yes (after s) (omega (arith, after-length s)))

pub power-wrong : (minus : Bool) (w frac : ℕ) (back : Bool) (s : List ℕ) → wrong s ≡ true → outcome (power minus w frac back s) ≡ Err Malformed
unfolding power
power-wrong minus w frac true s e = simp e
power-wrong minus w frac false s e = simp e

pub power-none : (minus : Bool) (w frac : ℕ) (back : Bool) (s : List ℕ) → length (digits s) ≡ 0 → outcome (power minus w frac back s) ≡ Err Malformed
power-none minus w frac back s e = power-wrong minus w frac back s (wrong-none s e)

pub power-more : (minus : Bool) (w frac : ℕ) (back : Bool) (s : List ℕ) → length (digits s) < length s → outcome (power minus w frac back s) ≡ Err Malformed
power-more minus w frac back s h = power-wrong minus w frac back s (wrong-more s h)

module _ (minus : Bool) (w frac : ℕ) (s : List ℕ) (n : length (digits s) ≡ 0 → ⊥) (h : length s ≤ length (digits s)) where
  pub power-back : (back : Bool) → back ≡ true → outcome (power minus w frac back s) ≡ meaning minus w 0 (frac + value 0 (digits s))
  unfolding power
  power-back back e = ap (λ (b : Bool). outcome (power minus w frac b s)) e ∙ simp (right s n h)

  pub power-forth : (back : Bool) → back ≡ false → outcome (power minus w frac back s) ≡ meaning minus w (value 0 (digits s)) frac
  unfolding power
  power-forth back e = ap (λ (b : Bool). outcome (power minus w frac b s)) e ∙ simp (right s n h)

-- ---- the other parts, on a text that is empty or begins with b
pub exponent-nil : (minus : Bool) (w frac : ℕ) (s : List ℕ) → length s ≡ 0 → outcome (exponent minus w frac s) ≡ Err Malformed
unfolding exponent
exponent-nil minus w frac s e = ap (λ (l : List ℕ). outcome (exponent minus w frac l)) (nil-of s e)

module _ (minus : Bool) (w frac : ℕ) (s : List ℕ) (h : 0 < length s) where
  pub exponent-sign : is Sign (get_or s 0 0) ≡ true → exponent minus w frac s ≡ power minus w frac (eqb (get_or s 0 0) 45) (drop 1 s)
  unfolding exponent
  exponent-sign e = ap (λ (l : List ℕ). exponent minus w frac l) (head_of s h) ∙ simp e

  pub exponent-none : is Sign (get_or s 0 0) ≡ false → exponent minus w frac s ≡ power minus w frac false s
  unfolding exponent
  exponent-none e = ap (λ (l : List ℕ). exponent minus w frac l) (head_of s h) ∙ (simp e) ∙ ap (λ (l : List ℕ). power minus w frac false l) (sym (head_of s h))

pub ending-none : (minus : Bool) (w count frac : ℕ) (s : List ℕ) → count ≡ 0 → ending minus w count frac s ≡ malformed
unfolding ending
ending-none minus w count frac [] e = simp (eq-eqb count 0 e)
ending-none minus w count frac (b ∷ t) e = simp (eq-eqb count 0 e)

module _ (minus : Bool) (w count frac : ℕ) (n : count ≡ 0 → ⊥) (s : List ℕ) where
  pub ending-nil : length s ≡ 0 → ending minus w count frac s ≡ decimal minus w 0 frac
  unfolding ending
  ending-nil e = ap (λ (l : List ℕ). ending minus w count frac l) (nil-of s e) ∙ simp (ne_eqb count 0 n)

  pub ending-letter : 0 < length s → is Exponent (get_or s 0 0) ≡ true → ending minus w count frac s ≡ exponent minus w frac (drop 1 s)
  unfolding ending
  ending-letter h e = ap (λ (l : List ℕ). ending minus w count frac l) (head_of s h) ∙ simp (ne_eqb count 0 n, e)

  pub ending-other : 0 < length s → is Exponent (get_or s 0 0) ≡ false → ending minus w count frac s ≡ malformed
  unfolding ending
  ending-other h e = ap (λ (l : List ℕ). ending minus w count frac l) (head_of s h) ∙ simp (ne_eqb count 0 n, e)

pub point-nil : (minus : Bool) (w count : ℕ) (s : List ℕ) → length s ≡ 0 → point minus w count s ≡ ending minus w count 0 s
unfolding point
point-nil minus w count s e = ap (λ (l : List ℕ). point minus w count l) (nil-of s e) ∙ ap (λ (l : List ℕ). ending minus w count 0 l) (sym (nil-of s e))

module _ (minus : Bool) (w count : ℕ) (s : List ℕ) (h : 0 < length s) where
  pub point-yes : is Point (get_or s 0 0) ≡ true
      → point minus w count s ≡ ending minus (value w (digits (drop 1 s))) (count + length (digits (drop 1 s))) (length (digits (drop 1 s))) (after (drop 1 s))
  unfolding point
  point-yes e = ap (λ (l : List ℕ). point minus w count l) (head_of s h) ∙ simp e

  pub point-no : is Point (get_or s 0 0) ≡ false → point minus w count s ≡ ending minus w count 0 s
  unfolding point
  point-no e = ap (λ (l : List ℕ). point minus w count l) (head_of s h) ∙ (simp e) ∙ ap (λ (l : List ℕ). ending minus w count 0 l) (sym (head_of s h))

-- ---- the cap on w changes nothing
bad-or : (x : Bool) (minus : Bool) (w up down : ℕ) → outcome (cond x malformed (decimal minus (min w cap) up down)) ≡ outcome (cond x malformed (decimal minus w up down))
bad-or true minus w up down = refl
bad-or false minus w up down = meaning-cap-w minus w up down

power-cap : (minus : Bool) (w frac : ℕ) (back : Bool) (s : List ℕ) → outcome (power minus (min w cap) frac back s) ≡ outcome (power minus w frac back s)
unfolding power
power-cap minus w frac true s = bad-or (wrong s) minus w 0 (frac + value 0 (digits s))
power-cap minus w frac false s = bad-or (wrong s) minus w (value 0 (digits s)) frac

pick-cap : (x : Bool) (a b c d : Reading) → outcome a ≡ outcome c → outcome b ≡ outcome d → outcome (cond x a b) ≡ outcome (cond x c d)
pick-cap true a b c d p q = p
pick-cap false a b c d p q = q

exponent-cap : (minus : Bool) (w frac : ℕ) (s : List ℕ) → outcome (exponent minus (min w cap) frac s) ≡ outcome (exponent minus w frac s)
unfolding exponent
exponent-cap minus w frac [] = refl
exponent-cap minus w frac (b ∷ t) =
    pick-cap (is Sign b) (power minus (min w cap) frac (eqb b 45) t) (power minus (min w cap) frac false (b ∷ t)) (power minus w frac (eqb b 45) t) (power minus w frac false (b ∷ t))
    (power-cap minus w frac (eqb b 45) t) (power-cap minus w frac false (b ∷ t))

pub ending-cap : (minus : Bool) (w count frac : ℕ) (s : List ℕ) → outcome (ending minus (min w cap) count frac s) ≡ outcome (ending minus w count frac s)
unfolding ending
ending-cap minus w count frac [] = bad-or (eqb count 0) minus w 0 frac
ending-cap minus w count frac (b ∷ t) =
    pick-cap (eqb count 0 || not (is Exponent b)) malformed (exponent minus (min w cap) frac t) malformed (exponent minus w frac t) refl (exponent-cap minus w frac t)

-- ---- the whole text
pub number-nil : (s : List ℕ) → length s ≡ 0 → number_of s ≡ Err Malformed
unfolding number_of
number-nil s e = ap number_of (nil-of s e)

module _ (s : List ℕ) (h : 0 < length s) where
  pub number-sign : is Sign (get_or s 0 0) ≡ true → number_of s ≡ outcome (unsigned (eqb (get_or s 0 0) 45) (drop 1 s))
  unfolding number_of
  number-sign e = ap number_of (head_of s h) ∙ simp e

  pub number-none : is Sign (get_or s 0 0) ≡ false → number_of s ≡ outcome (unsigned false s)
  unfolding number_of
  number-none e = ap number_of (head_of s h) ∙ (simp e) ∙ ap (λ (l : List ℕ). outcome (unsigned false l)) (sym (head_of s h))

module _ (minus : Bool) (s : List ℕ) where
  pub unsigned-inf : spells s word_inf ≡ true → outcome (unsigned minus s) ≡ Ok (inf minus)
  unfolding unsigned
  unsigned-inf e = simp e

  pub unsigned-infinity : spells s word_infinity ≡ true → outcome (unsigned minus s) ≡ Ok (inf minus)
  unfolding unsigned
  unsigned-infinity e = simp (e, or-true)
    where
      or-true : (b : Bool) → b || true ≡ true
      or-true true = refl
      or-true false = refl

  module _ (a : spells s word_inf ≡ false) (b : spells s word_infinity ≡ false) where
    pub unsigned-nan : spells s word_nan ≡ true → outcome (unsigned minus s) ≡ Ok nan
    unfolding unsigned
    unsigned-nan e = simp (a, b, e)

    pub unsigned-digits : spells s word_nan ≡ false → unsigned minus s ≡ point minus (value 0 (digits s)) (length (digits s)) (after s)
    unfolding unsigned
    unsigned-digits e = simp (a, b, e)

  -- where it begins with a digit
  pub unsigned-begun : (length (digits s) ≡ 0 → ⊥) → unsigned minus s ≡ point minus (value 0 (digits s)) (length (digits s)) (after s)
  unsigned-begun n = unsigned-digits (digits-no-word s 105 _ (omega arith) n) (digits-no-word s 105 _ (omega arith) n) (digits-no-word s 110 _ (omega arith) n)

pub after_is : (s : List ℕ) (n : ℕ) → n ≡ length (digits s) → take (length s - n) (drop n s) ≡ after s
unfolding after
after_is s n e = tail_of s n ∙ ap (λ (k : ℕ). drop k s) e

-- ---- what the code hands on after the point, and after the digits before it
pub point-law : (minus : Bool) (w count : ℕ) (s t : List ℕ) (v n : ℕ) → t ≡ drop 1 s → n ≡ length (digits t) → v ≡ min (value w (digits t)) cap → 0 < length s → is Point (get_or s 0 0) ≡ true
    → outcome (ending minus v (count + n) n (take (length t - n) (drop n t))) ≡ outcome (point minus w count s)
point-law minus w count s t v n e en ev h p =
    ap (λ (l : List ℕ). outcome (ending minus v (count + n) n l)) (after_is t n en)
    ∙ ap (λ (k : ℕ). outcome (ending minus v (count + k) k (after t))) en
    ∙ ap (λ (x : ℕ). outcome (ending minus x (count + length (digits t)) (length (digits t)) (after t))) ev
    ∙ ending-cap minus (value w (digits t)) (count + length (digits t)) (length (digits t)) (after t)
    ∙ ap (λ (l : List ℕ). outcome (ending minus (value w (digits l)) (count + length (digits l)) (length (digits l)) (after l))) e
    ∙ ap outcome (sym (point-yes minus w count s h p))

-- where the digits after the point are all that is left
pub point-only : (minus : Bool) (w count : ℕ) (s t : List ℕ) (v n : ℕ) → t ≡ drop 1 s → n ≡ length (digits t) → v ≡ min (value w (digits t)) cap → 0 < length s
    → is Point (get_or s 0 0) ≡ true → 0 < n → n ≡ length t
    → meaning minus v 0 n ≡ outcome (point minus w count s)
point-only minus w count s t v n e en ev h p some all =
    let none : length (take (length t - n) (drop n t)) ≡ 0 = omega (arith, ap length (tail_of t n), length-drop n t) in
    ap outcome (sym (ending-nil minus v (count + n) n (λ q. omega arith) _ none)) ∙ point-law minus w count s t v n e en ev h p

-- the cap on the digits before the point
point-cap : (minus : Bool) (w count : ℕ) (s : List ℕ) → outcome (point minus (min w cap) count s) ≡ outcome (point minus w count s)
unfolding point
point-cap minus w count [] = ending-cap minus w count 0 []
point-cap minus w count (b ∷ t) =
    let k = length (digits t) in
    pick-cap (is Point b) (ending minus (value (min w cap) (digits t)) (count + k) k (after t)) (ending minus (min w cap) count 0 (b ∷ t))
    (ending minus (value w (digits t)) (count + k) k (after t)) (ending minus w count 0 (b ∷ t))
    (sym (ending-cap minus (value (min w cap) (digits t)) (count + k) k (after t))
    ∙ ap (λ (x : ℕ). outcome (ending minus x (count + k) k (after t))) (capped w (digits t))
    ∙ ending-cap minus (value w (digits t)) (count + k) k (after t))
    (ending-cap minus w count 0 (b ∷ t))

pub digits-law : (minus : Bool) (s : List ℕ) (v n : ℕ) → n ≡ length (digits s) → v ≡ min (value 0 (digits s)) cap
    → outcome (point minus v n (take (length s - n) (drop n s))) ≡ outcome (point minus (value 0 (digits s)) (length (digits s)) (after s))
digits-law minus s v n en ev =
    ap (λ (l : List ℕ). outcome (point minus v n l)) (after_is s n en)
    ∙ ap (λ (k : ℕ). outcome (point minus v k (after s))) en
    ∙ ap (λ (x : ℕ). outcome (point minus x (length (digits s)) (after s))) ev
    ∙ point-cap minus (value 0 (digits s)) (length (digits s)) (after s)
