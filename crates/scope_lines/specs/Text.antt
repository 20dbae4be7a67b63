-- The numbered lines of a text, the text without struck lines, and the numbers that lines then have. Assumes nothing.
use Rattle.std.specs.Prelude.{◌≡◌, cond, List, [], ◌∷◌, ℕ, zero, suc, ◌+◌, length, take, drop}
use Rattle.leaf_scans.specs.Lines.{chunks, joined, line_len}
use Rattle.scope_lines.specs.Reader.{Mark, Piece, a_line, a_group, struck, strike_by}

-- a line: its number from 1, the place where it starts, its bytes
pub record Line : Type 0 where
  pub no : ℕ
  pub start : ℕ
  pub body : List ℕ

-- numbered from n on, placed from p on
unfoldable pub number : ℕ → ℕ → List (List ℕ) → List Line
number n p [] = []
number n p (c ∷ cs) = record { no = n; start = p; body = c } ∷ number (suc n) (p + length c) cs

unfoldable pub lines_of : List ℕ → List Line
unfolding number chunks
lines_of t = number 1 0 (chunks t)

-- the text without the lines whose marks say so
unfoldable pub strike_text : List Mark → List ℕ → List ℕ
unfolding joined strike_by chunks
strike_text ms t = joined (strike_by ms (chunks t))

-- the number that line n has when lines are struck: how many of the first n are kept
unfoldable pub renumber : List Mark → ℕ → ℕ
renumber ms zero = 0
renumber [] (suc n) = suc n
renumber (m ∷ ms) (suc n) = cond (struck m.class) 0 1 + renumber ms n

-- the lines of a text from a place on
abbrev pub lines_from : List ℕ → ℕ → ℕ → List Line
lines_from text p n = number n p (chunks (drop p text))

abbrev pub body_at : List ℕ → ℕ → List ℕ
body_at text p = take (line_len (drop p text)) (drop p text)

abbrev pub line_at : List ℕ → ℕ → ℕ → Line
line_at text p n = record { no = n; start = p; body = body_at text p }

-- the same bytes; and so numbered
abbrev pub SameBody : Line → Line → Type 0
SameBody l k = l.body ≡ k.body

abbrev pub Moved : (ℕ → ℕ) → Line → Line → Type 0
Moved ρ l k = (l.body ≡ k.body) × (k.no ≡ ρ l.no)

-- "a refused group carries the number of its first line"
unfoldable pub piece_no : Piece Line → ℕ
piece_no (a_line l) = l.no
piece_no (a_group []) = 0
piece_no (a_group (l ∷ g)) = l.no

-- a text up to line k
unfoldable pub up_to : ℕ → List ℕ → List ℕ
unfolding joined chunks
up_to k t = joined (take k (chunks t))

-- something holds of each member of a list
pub data Each {X : Type 0} (P : X → Type 0) : List X → Type 0 where
  nothing : Each P []
  each : {x : X} {xs : List X} → P x → Each P xs → Each P (x ∷ xs)
