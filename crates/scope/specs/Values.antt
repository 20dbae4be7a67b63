-- Document 01, "Numbers and times", as the fields of a line give them: a reader takes one field after another. Assumes nothing.
use Rattle.leaf_clock.specs.declared.TimeError.{TimeError}
use Rattle.leaf_decimals.specs.declared.NumberError.{NumberError}
use Rattle.std.specs.Prelude.{ℕ, Bool, true, false, cond, List, [], ◌∷◌, Float, Err, None, Ok, Option, Result, Some}
use Rattle.leaf_decimals.specs.Numbers.{number_of}
use Rattle.leaf_counts.specs.Counts.{count_of}
use Rattle.leaf_decimals.specs.declared.NumberError.TheVariants as number
use Rattle.leaf_clock.specs.Times.{time_of}
use Rattle.leaf_clock.specs.declared.TimeError.TheVariants as time
use Rattle.leaf_fields.specs.Fields.{Name, letters_or, rest}
use Rattle.leaf_letters.specs.Words.{same}
use Rattle.scope.specs.declared.Reason.{Reason}
use Rattle.scope.specs.declared.Reason.TheVariants.{Missing, Malformed, UnknownWord, BeyondReach}
use Rattle.scope.specs.Spelling.{word_true, word_false}

-- a result, or the reason of a refusal
pub data Read (A : Type 0) : Type 0 where
  good : A → Read A
  bad : Reason → Read A

abbrev pub on_read : {A B : Type 0} → Read A → (A → Read B) → Read B
on_read (good a) k = k a
on_read (bad r) k = bad r

-- what is taken from the fields, with the fields that are left; or the reason of a refusal
pub data Took (A : Type 0) : Type 0 where
  took : A → List Name → Took A
  refused : Reason → Took A

abbrev pub on_took : {A B : Type 0} → Took A → (A → List Name → Read B) → Read B
on_took (took a fs) k = k a fs
on_took (refused r) k = bad r

abbrev pub on_found : {B : Type 0} → Option ℕ → (ℕ → B) → B → B
on_found (Some i) k b = k i
on_found None k b = b

-- ---- names
-- a name that must be there, and one that may be
abbrev pub name_from : List Name → Took Name
name_from [] = refused Missing
name_from (f ∷ fs) = took f fs

abbrev pub optional_from : List Name → Took (Option Name)
optional_from [] = took None []
optional_from (f ∷ fs) = took (Some f) fs

-- ---- numbers
abbrev pub number_reason : NumberError → Reason
number_reason number.Malformed = Malformed
number_reason number.Beyond = BeyondReach

abbrev pub as_number : Result Float NumberError → List Name → Took Float
as_number (Ok x) fs = took x fs
as_number (Err e) fs = refused (number_reason e)

-- a number that must be there
abbrev pub number_from : List Name → Took Float
number_from [] = refused Missing
number_from (f ∷ fs) = as_number (number_of f.letters) fs

-- a number that is read from another text where it is missing
abbrev pub number_or : List ℕ → List Name → Took Float
number_or other fs = as_number (number_of (letters_or other fs)) (rest fs)

-- a number that is `d` where it is missing or malformed: "a well-formed number beyond reach is refused even there"
abbrev pub as_swallowed : Float → Result Float NumberError → List Name → Took Float
as_swallowed d (Ok x) fs = took x fs
as_swallowed d (Err number.Malformed) fs = took d fs
as_swallowed d (Err number.Beyond) fs = refused BeyondReach

abbrev pub swallowed_from : Float → List Name → Took Float
swallowed_from d [] = took d []
swallowed_from d (f ∷ fs) = as_swallowed d (number_of f.letters) fs

-- whether a text is a number, within reach or beyond
abbrev pub is_number : Result Float NumberError → Bool
is_number (Ok x) = true
is_number (Err number.Malformed) = false
is_number (Err number.Beyond) = true

-- ---- an id and two numbers, x and y: a line of CURVES and a line of COORDINATES
pub record PairFields : Type 0 where
  pub id : Name
  pub x : Float
  pub y : Float

unfoldable pub pair_of : List Name → Read PairFields
pair_of fs =
    on_took (name_from fs) (λ id fs.
    on_took (number_from fs) (λ x fs.
    on_took (number_from fs) (λ y fs.
    good (record { id = id; x = x; y = y }))))

-- ---- counts and times
abbrev pub as_count : Option ℕ → Read ℕ
as_count (Some n) = good n
as_count None = bad Malformed

abbrev pub count_from : List Name → Read ℕ
count_from [] = bad Missing
count_from (f ∷ fs) = as_count (count_of f.letters)

abbrev pub time_reason : TimeError → Reason
time_reason time.Malformed = Malformed
time_reason time.Beyond = BeyondReach
time_reason time.UnknownUnit = UnknownWord

abbrev pub as_time : Result ℕ TimeError → Read ℕ
as_time (Ok n) = good n
as_time (Err e) = bad (time_reason e)

-- a time, with its unit where one follows
abbrev pub time_at : Name → List Name → Read ℕ
time_at t fs = as_time (time_of t.letters (letters_or [] fs))

-- ---- flags: exactly true or false, false where it is missing
abbrev pub flag_from : List Name → Took Bool
flag_from [] = took false []
flag_from (f ∷ fs) = cond (same f.letters word_true) (took true fs) (cond (same f.letters word_false) (took false fs) (refused Malformed))
