-- Document 01, "Records by section": times. Assumes nothing.
use Rattle.std.specs.Prelude.{ℕ, Bool, cond, not, ◌&&◌, List, [], ◌∷◌, set, Some}
use Rattle.leaf_decimals.specs.Numbers.{number_of}
use Rattle.leaf_clock.specs.Times.{has_colon}
use Rattle.leaf_fields.specs.Fields.{Name}
use Rattle.leaf_letters.specs.Words.{spelled}
use Rattle.scope.specs.declared.Reason.TheVariants.{Missing}
use Rattle.scope.specs.declared.TimeOption.{TimeOption}
use Rattle.scope.specs.declared.TimeOption.TheVariants.{Duration, HydraulicTimestep, PatternTimestep, ReportTimestep, PatternStart, StartClocktime, Dropped}
use Rattle.scope.specs.Spelling.{word_statistic, word_duration, word_hydraulic, word_timestep, word_pattern, word_report, word_start, word_clocktime}
use Rattle.scope.specs.Records.{Network, with_times}
use Rattle.scope.specs.Values.{Read, good, bad, on_read, is_number, time_at}

-- "Six options are kept .., others are read and dropped": an option of one word, and one of two words, raised
unfoldable pub option_of : List ℕ → TimeOption
option_of a = cond (spelled a word_duration) Duration Dropped

unfoldable pub option_of_two : List ℕ → List ℕ → TimeOption
option_of_two a b =
    cond (spelled a word_hydraulic && spelled b word_timestep) HydraulicTimestep
    (cond (spelled a word_pattern && spelled b word_timestep) PatternTimestep
    (cond (spelled a word_report && spelled b word_timestep) ReportTimestep
    (cond (spelled a word_pattern && spelled b word_start) PatternStart
    (cond (spelled a word_start && spelled b word_clocktime) StartClocktime Dropped))))

-- "each set or not set"
abbrev pub with_time : ℕ → ℕ → Network → Network
with_time k n m = with_times (set m.times k (Some n)) m

abbrev pub set_time : TimeOption → ℕ → Network → Network
set_time Duration n m = with_time 0 n m
set_time HydraulicTimestep n m = with_time 1 n m
set_time PatternTimestep n m = with_time 2 n m
set_time ReportTimestep n m = with_time 3 n m
set_time PatternStart n m = with_time 4 n m
set_time StartClocktime n m = with_time 5 n m
set_time Dropped n m = m

-- what a line of TIMES says: which option, and how many seconds
pub record TimeFields : Type 0 where
  pub option : TimeOption
  pub seconds : ℕ

-- the value, and its unit where one follows
abbrev pub seconds_from : TimeOption → List Name → Read TimeFields
seconds_from o [] = bad Missing
seconds_from o (t ∷ fs) = on_read (time_at t fs) (λ n. good (record { option = o; seconds = n }))

-- "If the second field is no number and has no colon it joins the option."
abbrev pub joins : Name → Bool
joins f = not (is_number (number_of f.letters)) && not (has_colon f.letters)

abbrev pub after_option : Name → List Name → Read TimeFields
after_option a [] = bad Missing
after_option a (f ∷ fs) = cond (joins f) (seconds_from (option_of_two a.letters f.letters) fs) (seconds_from (option_of a.letters) (f ∷ fs))

-- "STATISTIC is taken and stores nothing": its line sets no option and needs no value
abbrev pub no_time : TimeFields
no_time = record { option = Dropped; seconds = 0 }

unfoldable pub times_of : List Name → Read TimeFields
times_of [] = bad Missing
times_of (a ∷ fs) = cond (spelled a.letters word_statistic) (good no_time) (after_option a fs)

unfoldable pub times_step : List Name → Network → Read Network
times_step fs m = on_read (times_of fs) (λ t. good (set_time t.option t.seconds m))
