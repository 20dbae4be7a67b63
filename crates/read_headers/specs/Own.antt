-- The lines of a group, with their fields, where the group's stretch of text is read again. Document 01, "Lines and groups": "A group ends at the line that closes it;
-- lines of other sections may stand between." Assumes nothing.
use Rattle.std.specs.Prelude.{ℕ, ◌+◌, ◌≤◌, ◌<◌, ◌≡◌, Bool, true, false, cond, not, ◌||◌, List, [], ◌∷◌, ◌++◌, length, take, drop, eqb, None, Option, Some}
use Rattle.leaf_fields.specs.Fields.{Name, fields_of, fields_at}
use Rattle.leaf_scans.specs.Lines.{chunks}
use Rattle.leaf_fields.specs.declared.Span.{Span}
use Rattle.scope_lines.specs.Reader as L
use Rattle.scope_lines.specs.Stretch.{sec_by, own_by}
use Rattle.scope.specs.declared.Section.{Section}
use Rattle.scope.specs.declared.Section.TheVariants.{Rules}
use Rattle.scope.specs.Sections.{is_rules}
use Rattle.scope.specs.Lines.{sort_of}
use Rattle.read_headers.specs.declared.Sort.{Sort}
use Rattle.read_headers.specs.declared.Sort.TheVariants.{Empty, Heading, Start, Other}

abbrev pub sort_in : Sort → L.Sort Section
sort_in Empty = L.empty
sort_in (Heading s) = L.heading s
sort_in Start = L.start
sort_in Other = L.other

-- a line that is neither blank nor a header: one of its section's
abbrev pub is_data : L.Sort Section → Bool
is_data L.empty = false
is_data (L.heading s) = false
is_data L.start = true
is_data L.other = true

-- a line, its start trimmed, whose first byte tells that it is neither blank nor a header and starts no group: no `;`, no `[`, no R
abbrev pub plain_by : List ℕ → Bool
plain_by [] = false
plain_by (b ∷ bs) = not (eqb b 59 || (eqb b 91 || eqb b 82))

-- the fields of a group's lines, among lines that are placed from p on and start in section s
unfoldable pub own_fields : Section → ℕ → List (List ℕ) → List (List Name)
own_fields s p [] = []
own_fields s p (b ∷ bs) = cond (own_by is_rules (sort_of b) s) (fields_of p b ∷ []) [] ++ own_fields (sec_by (sort_of b) s) (p + length b) bs

-- those from the place p on, in a text read up to `at`; a group starts in RULES, and so does what follows one of its lines
abbrev pub group_fields : List ℕ → ℕ → ℕ → List (List Name)
group_fields text at p = own_fields Rules p (chunks (drop p (take at text)))

-- ---- the next line of a group
pub record OwnHere (text : List ℕ) (from : ℕ) (s : Span) : Type 0 where
  pub whole : own_fields Rules from (chunks (drop from text)) ≡ fields_at (take s.end text) s.at ∷ own_fields Rules s.end (chunks (drop s.end text))
  pub after : from ≤ s.at
  pub some : s.at < s.end
  pub inside : s.end ≤ length text

pub record OwnFrom (text : List ℕ) (from : ℕ) (r : Option Span) : Type 0 where
  pub line : (s : Span) → r ≡ Some s → OwnHere text from s
  pub nothing : r ≡ None → own_fields Rules from (chunks (drop from text)) ≡ []

pub record NextHere (text : List ℕ) (at from : ℕ) (s : Span) : Type 0 where
  pub whole : group_fields text at from ≡ fields_at (take s.end text) s.at ∷ group_fields text at s.end
  pub after : from ≤ s.at
  pub some : s.at < s.end
  pub inside : s.end ≤ length text

pub record NextOwn (text : List ℕ) (at from : ℕ) (r : Option Span) : Type 0 where
  pub line : (s : Span) → r ≡ Some s → NextHere text at from s
  pub nothing : r ≡ None → group_fields text at from ≡ []
