-- What a time is. Document 01, "Numbers and times", second paragraph. A text is a list of bytes. Assumes nothing.
use Rattle.leaf_clock.specs.declared.TimeError.{TimeError}
use Rattle.leaf_decimals.specs.declared.NumberError.{NumberError}
use Rattle.std.specs.Prelude.{ℕ, suc, ◌+◌, ◌-◌, ◌*◌, ◌%◌, Bool, cond, List, [], ◌∷◌, length, take, drop, pos, ◌==◌, nat_le, nat_lt, Float, Err, None, Ok, Option, Result, Some}
use Rattle.std.specs.Float.{binary64}
use Rattle.std.specs.Float.Ieee.{of_int, mul}
use Rattle.leaf_decimals.specs.declared.NumberError.TheVariants as number
use Rattle.leaf_decimals.specs.Numbers.{number_of}
use Rattle.leaf_counts.specs.Counts.{count_of}
use Rattle.leaf_letters.specs.Words.{spelled}
use Rattle.leaf_clock.specs.declared.TimeError.TheVariants.{Malformed, Beyond, UnknownUnit}
use Rattle.leaf_clock.specs.declared.Unit.{Unit}
use Rattle.leaf_clock.specs.declared.Unit.TheVariants.{Hour, Minute, Second, Day, Am, Pm}
use Rattle.leaf_clock.specs.Cut.{cut}

-- the number of the answer
abbrev pub time_answer : Result ℕ TimeError → ℕ
time_answer (Ok n) = 0
time_answer (Err Malformed) = 2
time_answer (Err Beyond) = 22
time_answer (Err UnknownUnit) = 7

-- the seconds that it hands out, none where the time is refused
abbrev pub seconds_in : Result ℕ TimeError → ℕ
seconds_in (Ok n) = n
seconds_in (Err Malformed) = 0
seconds_in (Err Beyond) = 0
seconds_in (Err UnknownUnit) = 0

-- ---- the words of suffixes and units
abbrev pub word_am : List ℕ
word_am = 65 ∷ 77 ∷ []

abbrev pub word_pm : List ℕ
word_pm = 80 ∷ 77 ∷ []

abbrev pub word_hour : List ℕ
word_hour = 72 ∷ 79 ∷ 85 ∷ 82 ∷ []

abbrev pub word_hours : List ℕ
word_hours = 72 ∷ 79 ∷ 85 ∷ 82 ∷ 83 ∷ []

abbrev pub word_minute : List ℕ
word_minute = 77 ∷ 73 ∷ 78 ∷ 85 ∷ 84 ∷ 69 ∷ []

abbrev pub word_min : List ℕ
word_min = 77 ∷ 73 ∷ 78 ∷ []

abbrev pub word_second : List ℕ
word_second = 83 ∷ 69 ∷ 67 ∷ 79 ∷ 78 ∷ 68 ∷ []

abbrev pub word_sec : List ℕ
word_sec = 83 ∷ 69 ∷ 67 ∷ []

abbrev pub word_day : List ℕ
word_day = 68 ∷ 65 ∷ 89 ∷ []

abbrev pub word_s : List ℕ
word_s = 83 ∷ []

-- ---- "Time with a colon: hours and minutes are counts, each at most 1,000,000,000 else 22, hours judged fully before minutes;
-- later parts are ignored; minutes may pass 59."
-- how many bytes stand before the first colon, which is all of them where there is none
unfoldable pub colon_at : List ℕ → ℕ
colon_at [] = 0
colon_at (b ∷ t) = cond (b == 58) 0 (suc (colon_at t))

abbrev pub has_colon : List ℕ → Bool
has_colon s = nat_lt (colon_at s) (length s)

abbrev pub before_colon : List ℕ → List ℕ
before_colon s = take (colon_at s) s

abbrev pub after_colon : List ℕ → List ℕ
after_colon s = drop (colon_at s + 1) s

-- "Suffix raised, AM: hours mod 12; PM: that plus 12; any other suffix is ignored."
abbrev pub morning : ℕ → ℕ
morning h = h % 12

abbrev pub afternoon : ℕ → ℕ
afternoon h = h % 12 + 12

unfoldable pub hour_of : ℕ → List ℕ → ℕ
hour_of h suffix = cond (spelled suffix word_am) (morning h) (cond (spelled suffix word_pm) (afternoon h) h)

-- hours or minutes, once they are judged
abbrev pub on_count : Option ℕ → (ℕ → Result ℕ TimeError) → Result ℕ TimeError
on_count None go = Err Malformed
on_count (Some n) go = cond (nat_le n 1000000000) (go n) (Err Beyond)

-- "Seconds = hours x 3600 + minutes x 60."
unfoldable pub colon_form : List ℕ → List ℕ → List ℕ → Result ℕ TimeError
unfolding hour_of
colon_form hours minutes suffix = on_count (count_of hours) (λ h. on_count (count_of minutes) (λ m. Ok (hour_of h suffix * 3600 + m * 60)))

-- ---- "Without a colon: a number, unit raised, HOURS if absent; a final S is dropped unless the unit is HOURS."
unfoldable pub without_s : List ℕ → List ℕ
without_s unit =
    let last = length unit - 1 in
    cond (spelled unit word_hours) unit (cond (spelled (drop last unit) word_s) (take last unit) unit)

abbrev pub unit_words : List (List ℕ × Unit)
unit_words =
    (word_hour, Hour)
    ∷ (word_hours, Hour)
    ∷ (word_minute, Minute)
    ∷ (word_min, Minute)
    ∷ (word_second, Second)
    ∷ (word_sec, Second)
    ∷ (word_day, Day)
    ∷ (word_am, Am)
    ∷ (word_pm, Pm)
    ∷ []

unfoldable pub named : List (List ℕ × Unit) → List ℕ → Option Unit
named [] unit = None
named (w ∷ ws) unit = cond (spelled unit w.0) (Some w.1) (named ws unit)

unfoldable pub unit_of : List ℕ → Option Unit
unfolding without_s named
unit_of [] = Some Hour
unit_of (b ∷ t) = named unit_words (without_s (b ∷ t))

-- "HOUR, HOURS x 3600; MINUTE, MIN x 60; SECOND, SEC; DAY x 86,400: one rounded multiplication, then cut to a whole number ..
-- AM and PM cut first, then as above."
-- the factor of a unit, 0 where nothing is multiplied
abbrev pub factor_of : Option Unit → ℕ
factor_of (Some Hour) = 3600
factor_of (Some Minute) = 60
factor_of (Some Second) = 0
factor_of (Some Day) = 86400
factor_of (Some Am) = 0
factor_of (Some Pm) = 0
factor_of None = 0

abbrev pub times : Float → ℕ → Float
times x k = mul binary64 x (of_int binary64 (pos k))

unfoldable pub in_unit : Unit → Float → ℕ
in_unit Hour x = cut (times x 3600)
in_unit Minute x = cut (times x 60)
in_unit Second x = cut x
in_unit Day x = cut (times x 86400)
in_unit Am x = morning (cut x) * 3600
in_unit Pm x = afternoon (cut x) * 3600

-- the number is judged before the unit
abbrev pub time_error : NumberError → TimeError
time_error number.Malformed = Malformed
time_error number.Beyond = Beyond

abbrev pub number_form : Result Float NumberError → Option Unit → Result ℕ TimeError
number_form (Err e) unit = Err (time_error e)
number_form (Ok x) None = Err UnknownUnit
number_form (Ok x) (Some unit) = Ok (in_unit unit x)

-- ---- a time and its unit or suffix, which is empty where none stands
unfoldable pub time_of : List ℕ → List ℕ → Result ℕ TimeError
unfolding colon_form unit_of in_unit
time_of time unit = cond (has_colon time) (colon_form (before_colon time) (before_colon (after_colon time)) unit) (number_form (number_of time) (unit_of unit))
