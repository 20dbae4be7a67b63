-- A count. Document 01, "Numbers and times": "A count: optional `+`, at least one digit, below 2^64, else 2." Assumes nothing.
use Rattle.std.specs.Prelude.{cond, not, ◌||◌, List, [], ◌∷◌, ℕ, ◌^◌, leb, eqb, None, Option, Some}
use Rattle.leaf_digits.specs.Digits.{digits, after, value, empty}

-- s is a count after its sign: digits, at least one, and nothing else, which are below 2 ^ 64
unfoldable pub whole : List ℕ → Option ℕ
unfolding digits after value
whole s = cond (empty (digits s) || not (empty (after s)) || leb (2 ^ 64) (value 0 (digits s))) None (Some (value 0 (digits s)))

-- the sign, if there is one, is a plus
abbrev pub unsigned : List ℕ → List ℕ
unsigned [] = []
unsigned (b ∷ t) = cond (eqb b 43) t (b ∷ t)

unfoldable pub count_of : List ℕ → Option ℕ
unfolding whole
count_of s = whole (unsigned s)

-- an answer in document 01's terms: its number, and the count that it carries
abbrev pub count_answer : Option ℕ → ℕ
count_answer (Some n) = 0
count_answer None = 2

abbrev pub count_value : Option ℕ → ℕ
count_value (Some n) = n
count_value None = 0
