-- The class of a byte, for the readers of fields and of numbers. A byte is a natural number. Assumes nothing.
use Rattle.std.specs.Prelude.{Bool, cond, ◌&&◌, ◌||◌, ℕ, ◌+◌, leb, eqb}
use Rattle.leaf_digits.specs.declared.Class.{Class}
use Rattle.leaf_digits.specs.declared.Class.TheVariants.{Space, Digit, Sign, Point, Exponent, Other}

-- Document 01, "Lines and groups": "Whitespace is the six bytes 9 to 13 and 32". Then 0 to 9; + and -; the point; E and e.
unfoldable pub class_of : ℕ → Class
class_of b =
    cond ((leb 9 b && leb b 13) || eqb b 32) Space
    (cond (leb 48 b && leb b 57) Digit
    (cond (eqb b 43 || eqb b 45) Sign
    (cond (eqb b 46) Point
    (cond (eqb b 69 || eqb b 101) Exponent Other))))

-- whether the byte b is of the class k
abbrev pub rank : Class → ℕ
rank Space = 0
rank Digit = 1
rank Sign = 2
rank Point = 3
rank Exponent = 4
rank Other = 5

abbrev pub is : Class → ℕ → Bool
is k b = eqb (rank (class_of b)) (rank k)

-- a letter in lower case
abbrev pub lower : ℕ → ℕ
lower b = cond (leb 65 b && leb b 90) (b + 32) b
