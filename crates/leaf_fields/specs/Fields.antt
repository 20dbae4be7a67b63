-- Fields, as document 01 has them under "Lines and groups": "Fields are separated by whitespace; extra ones are ignored. A field is handed out as the part of the caller's text it is." Assumes nothing.
use Rattle.std.specs.Prelude.{ℕ, suc, ◌+◌, ◌<◌, ◌≤◌, ◌≡◌, cond, List, [], ◌∷◌, length, drop, None, Option, Some}
use Rattle.leaf_scans.specs.Lines.{is_space}
use Rattle.leaf_scans.specs.Scan.{span_len}
use Rattle.leaf_scans.specs.declared.Kind.TheVariants.{Space}
pub use Rattle.leaf_words.specs.Scan.{part}
use Rattle.leaf_fields.specs.declared.Span.{Span}

-- ---- names
-- a name: where it stands in the text, and its bytes
pub record Name : Type 0 where
  pub at : ℕ
  pub letters : List ℕ

-- the name that a span of l is
abbrev pub name_in : List ℕ → Span → Name
name_in l s = record { at = s.at; letters = part s.at s.end l }

-- ---- fields
-- the byte b, at the place `at`, before the fields of what follows it: it joins the first of them where no whitespace stands between
abbrev pub on_first : ℕ → ℕ → List Name → List Name
on_first at b [] = record { at = at; letters = b ∷ [] } ∷ []
on_first at b (f ∷ fs) = record { at = at; letters = b ∷ f.letters } ∷ fs

abbrev pub before : ℕ → ℕ → List ℕ → List Name → List Name
before at b [] fs = record { at = at; letters = b ∷ [] } ∷ fs
before at b (x ∷ xs) fs = cond (is_space x) (record { at = at; letters = b ∷ [] } ∷ fs) (on_first at b fs)

-- the fields of a text whose first byte has the place `at`
unfoldable pub fields_of : ℕ → List ℕ → List Name
fields_of at [] = []
fields_of at (b ∷ bs) = cond (is_space b) (fields_of (suc at) bs) (before at b bs (fields_of (suc at) bs))

-- the fields of l from the place `at` on
abbrev pub fields_at : List ℕ → ℕ → List Name
fields_at l at = fields_of at (drop at l)

-- where the whitespace of l from the place `at` on ends: the next field starts there, if there is one
abbrev pub start_at : List ℕ → ℕ → ℕ
start_at l at = at + span_len Space (drop at l)

-- the fields after the first
abbrev pub rest : List Name → List Name
rest [] = []
rest (f ∷ fs) = fs

-- the bytes of the first field; or, where there is none, the other text
abbrev pub letters_or : List ℕ → List Name → List ℕ
letters_or other [] = other
letters_or other (f ∷ fs) = f.letters

-- where the first field ends; or, where there is none, the place `at`
abbrev pub end_or : ℕ → List Name → ℕ
end_or at [] = at
end_or at (f ∷ fs) = f.at + length f.letters

-- a span lies in l, and is not empty
pub record Fits (l : List ℕ) (s : Span) : Type 0 where
  pub some : s.at < s.end
  pub inside : s.end ≤ length l

-- f is the next field of l from the place `at` on: the first of its fields there, with the others after it; or there is none
pub record Next (l : List ℕ) (at : ℕ) (f : Option Span) : Type 0 where
  pub taken : (s : Span) → f ≡ Some s → (fields_at l at ≡ name_in l s ∷ fields_at l s.end) × Fits l s
  pub nothing : f ≡ None → fields_at l at ≡ []

-- r is the place past the next field of l from the place `at` on: the fields from there on are the others
pub record Past (l : List ℕ) (at r : ℕ) : Type 0 where
  pub place : r ≡ end_or at (fields_at l at)
  pub left : fields_at l r ≡ rest (fields_at l at)

-- ---- a field that may be missing: the name that it is; it lies in l
abbrev pub opt_in : List ℕ → Option Span → Option Name
opt_in l (Some s) = Some (name_in l s)
opt_in l None = None

abbrev pub MayFit : List ℕ → Option Span → Type 0
MayFit l (Some s) = Fits l s
MayFit l None = Unit
