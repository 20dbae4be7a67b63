-- Times are read alike where places are forgotten. Assumes nothing.
use Prim.Native.Nat.{ℕ}
use mathlib.Core.Path.{◌≡◌, refl}
use mathlib.Core.List.{List, [], ◌∷◌, map}
use Rattle.leaf_fields.specs.Fields.{Name}
use Rattle.leaf_letters.specs.Words.{spelled}
use Rattle.scope.specs.declared.TimeOption.{TimeOption}
use Rattle.scope.specs.declared.TimeOption.TheVariants.{Duration, HydraulicTimestep, PatternTimestep, ReportTimestep, PatternStart, StartClocktime, Dropped}
use Rattle.scope.specs.Spelling.{word_statistic}
use Rattle.scope.specs.Records.{Network}
use Rattle.scope.specs.Values.{time_at}
use Rattle.scope.specs.Times.{set_time, option_of, option_of_two, seconds_from, joins, after_option, times_of, times_step}
use Rattle.scope.specs.Bare.{forget, bare}
use Rattle.scope.proofs.Carry.{ReadLike, goods, bads, itself, same_read, on_read-law, on-if}

pub time-at : (t : Name) (fs : List Name) → ReadLike itself (time_at t fs) (time_at (forget t) (map forget fs))
time-at t [] = same_read _
time-at t (u ∷ fs) = same_read _

seconds-from : (o : TimeOption) (fs : List Name) → ReadLike itself (seconds_from o fs) (seconds_from o (map forget fs))
seconds-from o [] = bads
seconds-from o (t ∷ fs) = on_read-law _ (time-at t fs) (λ n. goods refl)

after-option : (a : Name) (fs : List Name) → ReadLike itself (after_option a fs) (after_option (forget a) (map forget fs))
after-option a [] = bads
after-option a (f ∷ fs) = on-if (joins f) (seconds-from (option_of_two a.letters f.letters) fs) (seconds-from (option_of a.letters) (f ∷ fs))

times-of : (fs : List Name) → ReadLike itself (times_of fs) (times_of (map forget fs))
unfolding times_of
times-of [] = bads
times-of (a ∷ fs) = on-if (spelled a.letters word_statistic) (goods refl) (after-option a fs)

time-set : (o : TimeOption) (n : ℕ) (m : Network) → bare (set_time o n m) ≡ set_time o n (bare m)
time-set Duration n m = refl
time-set HydraulicTimestep n m = refl
time-set PatternTimestep n m = refl
time-set ReportTimestep n m = refl
time-set PatternStart n m = refl
time-set StartClocktime n m = refl
time-set Dropped n m = refl

pub times-step : (fs : List Name) (m : Network) → ReadLike bare (times_step fs m) (times_step (map forget fs) (bare m))
unfolding times_step
times-step fs m = on_read-law _ (times-of fs) (λ t. goods (time-set t.option t.seconds m))
