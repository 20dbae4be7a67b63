-- Lines, as document 01 has them under "Lines and groups". A byte is a natural number, and a text is a list of bytes. Assumes nothing.
use Rattle.std.specs.Prelude.{ℕ, suc, Bool, cond, List, [], ◌∷◌, ◌++◌, eqb}
use Rattle.leaf_digits.specs.Bytes.{is}
use Rattle.leaf_digits.specs.declared.Class.TheVariants.{Space}

-- "Whitespace is the six bytes 9 to 13 and 32."
abbrev pub is_space : ℕ → Bool
is_space b = is Space b

-- ---- "Lines end at byte 10; a last line may lack it."
-- the byte b before the lines of what follows it: it joins the first of them
unfoldable pub push : ℕ → List (List ℕ) → List (List ℕ)
push b [] = (b ∷ []) ∷ []
push b (c ∷ cs) = (b ∷ c) ∷ cs

-- the lines of a text, each with its line feed
unfoldable pub chunks : List ℕ → List (List ℕ)
unfolding push
chunks [] = []
chunks (b ∷ bs) = cond (eqb b 10) ((b ∷ []) ∷ chunks bs) (push b (chunks bs))

-- the text that the lines make
unfoldable pub joined : List (List ℕ) → List ℕ
joined [] = []
joined (c ∷ cs) = c ++ joined cs

-- how long the first line of a text is, with its line feed
unfoldable pub line_len : List ℕ → ℕ
line_len [] = 0
line_len (b ∷ bs) = suc (cond (eqb b 10) 0 (line_len bs))

-- ---- "A line is trimmed."
unfoldable pub start_trimmed : List ℕ → List ℕ
start_trimmed [] = []
start_trimmed (b ∷ bs) = cond (is_space b) (start_trimmed bs) (b ∷ bs)

-- the byte b before what is left of the bytes that follow it
abbrev pub keep_byte : ℕ → List ℕ → List ℕ
keep_byte b [] = cond (is_space b) [] (b ∷ [])
keep_byte b (x ∷ xs) = b ∷ x ∷ xs

unfoldable pub end_trimmed : List ℕ → List ℕ
end_trimmed [] = []
end_trimmed (b ∷ bs) = keep_byte b (end_trimmed bs)

unfoldable pub trimmed : List ℕ → List ℕ
trimmed l = end_trimmed (start_trimmed l)

-- ---- "Empty, or starting with `;`: blank. Starting with `[`: a header."
pub data LineKind : Type 0 where
  blank header other : LineKind

abbrev pub kind_by : List ℕ → LineKind
kind_by [] = blank
kind_by (b ∷ bs) = cond (eqb b 59) blank (cond (eqb b 91) header other)

-- what a line is, as it stands in the text
unfoldable pub line_kind : List ℕ → LineKind
line_kind l = kind_by (trimmed l)

-- ---- "Outside RULES a line is cut at its first `;`."
unfoldable pub cut_of : List ℕ → List ℕ
cut_of [] = []
cut_of (b ∷ bs) = cond (eqb b 59) [] (b ∷ cut_of bs)
