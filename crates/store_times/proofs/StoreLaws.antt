-- What storing a time makes of the network. Assumes nothing.
use Rattle.std.specs.Prelude.{Err, Ok, Result, Some, IsErr, IsErrAnd}
use Rattle.std.proofs.lemmas.Result.{err_from_is_err_and}
use Prim.Native.Nat.{ℕ}
use native.Mathlib.Omega.{arith}
use mathlib.Core.Path.{◌≡◌, refl, ap, ◌∙◌}
use mathlib.Core.List.{List}
use lib.Ieee.{Float}
use Rattle.leaf_fields.specs.Fields.{Name}
use Rattle.scope.specs.Records.{Network}
use Rattle.scope.specs.Values.{good}
use Rattle.scope.specs.Times.{set_time, times_of, times_step}
use Rattle.scope.specs.declared.Counts.{Counts}
use Rattle.scope.specs.declared.Reason.{Reason}
use Rattle.scope.specs.declared.TimeOption.{TimeOption}
use Rattle.scope.specs.declared.TimeOption.TheVariants.{Duration, HydraulicTimestep, PatternTimestep, ReportTimestep, PatternStart, StartClocktime, Dropped}
use Rattle.table_rows.specs.Holding.{Holds, After}
use Rattle.table_rows.proofs.HoldLaws.{set-time}
use Rattle.store_times.specs.Lines.{TimesAs, time_put}
use Rattle.store_times.specs.declared.TimeLine.{TimeLine}

module _ {text : List ℕ} {m : Network} {s : Counts} {w : List ℕ} {f : List Float} (h : Holds text m s w f) where
  after-put : (o : TimeOption) (n : ℕ) {w1 : List ℕ} → w1 ≡ time_put o n w → After text (good (set_time o n m)) (Ok s) w f w1 f
  after-put Duration n e = (ap Ok h.counts, set-time h 0 (Some n) (omega arith) e)
  after-put HydraulicTimestep n e = (ap Ok h.counts, set-time h 1 (Some n) (omega arith) e)
  after-put PatternTimestep n e = (ap Ok h.counts, set-time h 2 (Some n) (omega arith) e)
  after-put ReportTimestep n e = (ap Ok h.counts, set-time h 3 (Some n) (omega arith) e)
  after-put PatternStart n e = (ap Ok h.counts, set-time h 4 (Some n) (omega arith) e)
  after-put StartClocktime n e = (ap Ok h.counts, set-time h 5 (Some n) (omega arith) e)
  after-put Dropped n e = (ap Ok h.counts, rw (e, ← h.counts) h)

  pub time-set : (fs : List Name) (t : TimeLine) {w1 : List ℕ} → TimesAs (times_of fs) (Ok t) → w1 ≡ time_put t.option t.seconds w → After text (times_step fs m) (Ok s) w f w1 f
  unfolding times_step
  time-set fs t a e = rw a (after-put t.option t.seconds e)

  pub time-bad : (fs : List Name) {why : Reason} (r : Result Counts Reason) → TimesAs (times_of fs) (Err why) → IsErr r × IsErrAnd r (λ x. x ≡ why) → After text (times_step fs m) r w f w f
  unfolding times_step
  time-bad fs {why} r a k = let (e, is, q) = err_from_is_err_and r k.1 in rw a (is ∙ ap Err q, refl, refl)
