-- The digits that a text begins with. A text is a list of bytes. Assumes nothing.
use Rattle.std.specs.Prelude.{Bool, true, false, cond, List, [], ◌∷◌, ℕ, ◌+◌, ◌-◌, ◌*◌, length, drop}
use Rattle.leaf_digits.specs.declared.Class.TheVariants.{Digit}
use Rattle.leaf_digits.specs.Bytes.{class_of, is}

-- the digits that s begins with, and what follows them
unfoldable pub digits : List ℕ → List ℕ
unfolding class_of
digits [] = []
digits (b ∷ t) = cond (is Digit b) (b ∷ digits t) []

unfoldable pub after : List ℕ → List ℕ
unfolding digits
after s = drop (length (digits s)) s

-- the whole number that the digits of s are, with those of a before them
unfoldable pub value : ℕ → List ℕ → ℕ
value a [] = a
value a (d ∷ t) = value (a * 10 + (d - 48)) t

abbrev pub empty : List ℕ → Bool
empty [] = true
empty (b ∷ t) = false
