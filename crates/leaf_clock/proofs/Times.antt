-- A time of either form. Assumes nothing.
use Rattle.leaf_clock.specs.declared.TimeError.{TimeError}
use Rattle.leaf_decimals.specs.declared.NumberError.{NumberError}
use Rattle.std.specs.Prelude.{Result, Float, Option, Some, None, Ok, Err, ok_or}
use Rattle.leaf_clock.specs.declared.TimeError.TheVariants.{UnknownUnit}
use Rattle.leaf_clock.specs.declared.Unit.{Unit}
use Rattle.std.proofs.Common.{◌≡◌, ℕ, ◌+◌, ◌-◌, ◌<◌, ◌≤◌, List, length, take, drop, ap, ◌∙◌, le-ltb, lt-ltb}
use Rattle.leaf_decimals.specs.Numbers.{number_of}
use Rattle.leaf_digits.proofs.Lists.{tail_of}
use Rattle.leaf_clock.specs.Times.{colon_at, before_colon, colon_form, number_form, unit_of, in_unit, time_of}
use Rattle.leaf_clock.proofs.Choice.{chosen, passed}

module _ (time unit : List ℕ) (at : ℕ) (e : at ≡ colon_at time) (r : Result ℕ TimeError) where
  pub with-colon : at < length time → (minutes : List ℕ) → minutes ≡ before_colon (take (length time - (at + 1)) (drop (at + 1) time))
      → r ≡ colon_form (take at time) minutes unit → r ≡ time_of time unit
  unfolding time_of
  with-colon h minutes f g =
      chosen _ _ _ _ (lt-ltb (colon_at time) (length time) (rw e at h))
      (g
      ∙ ap (λ (n : ℕ). colon_form (take n time) minutes unit) e
      ∙ ap (λ (m : List ℕ). colon_form (before_colon time) m unit) (f ∙ ap before_colon (tail_of time (at + 1)) ∙ ap (λ (n : ℕ). before_colon (drop (n + 1) time)) e))

  pub with_number : length time ≤ at → (n : Result Float NumberError) → n ≡ number_of time → r ≡ number_form n (unit_of unit) → r ≡ time_of time unit
  unfolding time_of
  with_number h n f g = passed _ _ _ _ (le-ltb (colon_at time) (length time) (rw e at h)) (g ∙ ap (λ (m : Result Float NumberError). number_form m (unit_of unit)) f)

-- a number's unit, once it is known which it is, or that it is none
pub unit-none : (x : Float) (u : Option Unit) (e : TimeError) → ok_or u UnknownUnit ≡ Err e → Err e ≡ number_form (Ok x) u
unit-none x None e h = cc
unit-none x (Some u) e h = cc

pub unit-some : (x : Float) (u : Option Unit) (v : Unit) → ok_or u UnknownUnit ≡ Ok v → Ok (in_unit v x) ≡ number_form (Ok x) u
unit-some x None v h = cc
unit-some x (Some u) v h = cc
