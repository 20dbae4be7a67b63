-- What a line of TIMES says, as the code has it; and where each time that is kept stands. Assumes nothing.
use Rattle.store_times.specs.declared.TimeLine.{TimeLine}
use Rattle.scope.specs.declared.Reason.{Reason}
use Rattle.std.specs.Prelude.{ℕ, ◌+◌, ◌*◌, ◌≡◌, List, Err, None, Ok, Option, Result, Some}
use Rattle.scope.specs.Values.{Read, good, bad, on_found}
use Rattle.scope.specs.Times.{TimeFields}
use Rattle.scope.specs.Tables.{count_words}
use Rattle.scope.specs.declared.TimeOption.{TimeOption}
use Rattle.scope.specs.declared.TimeOption.TheVariants.{Duration, HydraulicTimestep, PatternTimestep, ReportTimestep, PatternStart, StartClocktime, Dropped}
use Rattle.table_rows.specs.Table.{splice}
use Rattle.scope.specs.Layout.{times_at, times_width}

-- the code's answer as that of scope's times_of
abbrev pub times_in : Result TimeLine Reason → Read TimeFields
times_in (Ok t) = good (record { option = t.option; seconds = t.seconds })
times_in (Err why) = bad why

abbrev pub TimesAs : Read TimeFields → Result TimeLine Reason → Type 0
TimesAs o r = o ≡ times_in r

-- "Six options are kept ..": the place of each, in the order of scope's set_time
abbrev pub place_of : TimeOption → Option ℕ
place_of Duration = Some 0
place_of HydraulicTimestep = Some 1
place_of PatternTimestep = Some 2
place_of ReportTimestep = Some 3
place_of PatternStart = Some 4
place_of StartClocktime = Some 5
place_of Dropped = None

-- the words with the option set; "others are read and dropped"
abbrev pub time_put : TimeOption → ℕ → List ℕ → List ℕ
time_put o n w = on_found (place_of o) (λ k. splice w (times_at + k * times_width) (count_words (Some n))) w
