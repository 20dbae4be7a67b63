-- What is a number, and which. Document 01, "Numbers and times": "A number: optional sign, then `inf`, `infinity` or `nan` in any case, or digits with
-- at most one point and at least one digit, then optionally e or E, optional sign, at least one digit." Assumes nothing.
use Rattle.leaf_decimals.specs.declared.NumberError.{NumberError}
use Rattle.std.specs.Prelude.{◌≡◌, Bool, true, false, cond, not, ◌&&◌, ◌||◌, List, [], ◌∷◌, ℕ, ◌+◌, ◌*◌, ◌^◌, length, pos, T, eqb, Float, Err, Ok, Result}
use Rattle.std.specs.Float.{nan, inf, fin}
use Rattle.leaf_decimals.specs.declared.NumberError.TheVariants.{Malformed, Beyond}
use Rattle.leaf_digits.specs.declared.Class.TheVariants.{Sign, Point, Exponent}
use Rattle.leaf_digits.specs.Bytes.{class_of, is, lower}
use Rattle.leaf_digits.specs.Digits.{digits, after, value, empty}
use Rattle.leaf_decimals.specs.Reach.{reachable, meaning}
use Rattle.leaf_decimals.specs.Nearest.{IsNearest}

-- s is the word w, in any case of its letters
unfoldable pub spells : List ℕ → List ℕ → Bool
spells [] [] = true
spells [] (b ∷ t) = false
spells (a ∷ s) [] = false
spells (a ∷ s) (b ∷ t) = eqb (lower a) b && spells s t

-- the words inf, infinity and nan
abbrev pub word_inf : List ℕ
word_inf = 105 ∷ 110 ∷ 102 ∷ []

abbrev pub word_infinity : List ℕ
word_infinity = 105 ∷ 110 ∷ 102 ∷ 105 ∷ 110 ∷ 105 ∷ 116 ∷ 121 ∷ []

abbrev pub word_nan : List ℕ
word_nan = 110 ∷ 97 ∷ 110 ∷ []

-- ---- what a text says: no number; inf, infinity or nan; ±w * 10 ^ up / 10 ^ down
pub data Reading : Type 0 where
  malformed : Reading
  word : Float → Reading
  decimal : Bool → ℕ → ℕ → ℕ → Reading

-- s is an exponent after its sign: digits, at least one, and nothing else. It is negative where `back` is true; `frac` digits stood after the point.
unfoldable pub power : Bool → ℕ → ℕ → Bool → List ℕ → Reading
unfolding digits after value
power minus w frac true s = cond (empty (digits s) || not (empty (after s))) malformed (decimal minus w 0 (frac + value 0 (digits s)))
power minus w frac false s = cond (empty (digits s) || not (empty (after s))) malformed (decimal minus w (value 0 (digits s)) frac)

-- s is what follows the letter e
unfoldable pub exponent : Bool → ℕ → ℕ → List ℕ → Reading
unfolding class_of power
exponent minus w frac [] = malformed
exponent minus w frac (b ∷ t) = cond (is Sign b) (power minus w frac (eqb b 45) t) (power minus w frac false (b ∷ t))

-- s is what follows the digits, of which there were `count`, `frac` of them after the point
unfoldable pub ending : Bool → ℕ → ℕ → ℕ → List ℕ → Reading
unfolding class_of exponent
ending minus w count frac [] = cond (eqb count 0) malformed (decimal minus w 0 frac)
ending minus w count frac (b ∷ t) = cond (eqb count 0 || not (is Exponent b)) malformed (exponent minus w frac t)

-- s is what follows the digits before the point, if there is one: w is what they are, and `count` how many
unfoldable pub point : Bool → ℕ → ℕ → List ℕ → Reading
unfolding class_of digits after value ending
point minus w count [] = ending minus w count 0 []
point minus w count (b ∷ t) =
    cond (is Point b) (ending minus (value w (digits t)) (count + length (digits t)) (length (digits t)) (after t)) (ending minus w count 0 (b ∷ t))

-- s is a number after its sign
unfoldable pub unsigned : Bool → List ℕ → Reading
unfolding digits after value spells point
unsigned minus s =
    cond (spells s word_inf || spells s word_infinity) (word (inf minus))
    (cond (spells s word_nan) (word nan) (point minus (value 0 (digits s)) (length (digits s)) (after s)))

unfoldable pub reading_of : List ℕ → Reading
unfolding class_of unsigned
reading_of [] = malformed
reading_of (b ∷ t) = cond (is Sign b) (unsigned (eqb b 45) t) (unsigned false (b ∷ t))

-- ---- what it is
abbrev pub outcome : Reading → Result Float NumberError
outcome malformed = Err Malformed
outcome (word x) = Ok x
outcome (decimal minus w up down) = meaning minus w up down

unfoldable pub number_of : List ℕ → Result Float NumberError
unfolding reading_of
number_of s = outcome (reading_of s)

-- ---- an answer in document 01's terms: its number, and the double that it carries
abbrev pub number_answer : Result Float NumberError → ℕ
number_answer (Ok x) = 0
number_answer (Err Malformed) = 2
number_answer (Err Beyond) = 22

abbrev pub number_value : Result Float NumberError → Float
number_value (Ok x) = x
number_value (Err Malformed) = fin false 0 (pos 0)
number_value (Err Beyond) = fin false 0 (pos 0)

-- ---- the same, with the double told by Nearest alone: no rounding function is named
-- r is the double nearest to ±w * 10 ^ up / 10 ^ down, with its sign; or that is beyond reach, and r says so
pub record Right (minus : Bool) (w up down : ℕ) (r : Result Float NumberError) : Type 0 where
  pub within : T (reachable w up down) → (number_answer r ≡ 0) × IsNearest minus (w * 10 ^ up) (10 ^ down) (number_value r)
  pub past : T (not (reachable w up down)) → number_answer r ≡ 22

-- r is what the reading says
abbrev pub AsRead : Reading → Result Float NumberError → Type 0
AsRead malformed r = number_answer r ≡ 2
AsRead (word x) r = (number_answer r ≡ 0) × (number_value r ≡ x)
AsRead (decimal minus w up down) r = Right minus w up down r
