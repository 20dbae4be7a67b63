-- The first colon, one byte further; and what hours and minutes come to. Assumes nothing.
use Rattle.std.specs.Prelude.{Err, None, Ok, Option, Result, Some, leb}
use Rattle.std.proofs.Common.{◌≡◌, ℕ, suc, ◌+◌, ◌*◌, ◌%◌, ◌<◌, ◌≤◌, Bool, true, false, cond, eqb, List, [], ◌∷◌, length, get_or, drop, refl, sym, ◌∙◌, add-one, arith, drop_of_length-le, drop-cons, eq-eqb, ne_eqb, le-leb}
use Rattle.leaf_letters.specs.Words.{spelled}
use Rattle.leaf_clock.specs.declared.TimeError.{TimeError}
use Rattle.leaf_clock.specs.declared.TimeError.TheVariants.{Beyond}
use Rattle.leaf_clock.specs.Times.{colon_at, word_am, word_pm, hour_of, on_count, colon_form}
use Rattle.leaf_counts.specs.Counts.{count_of}

pub colon-none : colon_at [] ≡ 0
unfolding colon_at
colon-none = refl

pub colon-here : (b : ℕ) (t : List ℕ) → b ≡ 58 → colon_at (b ∷ t) ≡ 0
unfolding colon_at
colon-here b t e = rw (eq-eqb b 58 e)

pub colon-later : (b : ℕ) (t : List ℕ) → (b ≡ 58 → ⊥) → colon_at (b ∷ t) ≡ colon_at t + 1
unfolding colon_at
colon-later b t e = rw (ne_eqb b 58 e, add-one)

module _ (s : List ℕ) (i : ℕ) where
  pub colon-on : i < length s → get_or s i 0 ≡ 58 → colon_at (drop i s) ≡ 0
  unfolding colon_at
  colon-on h e = rw (drop-cons s i 0 h, eq-eqb (get_or s i 0) 58 e)

  pub colon-off : i < length s → (get_or s i 0 ≡ 58 → ⊥) → colon_at (drop i s) ≡ suc (colon_at (drop (suc i) s))
  unfolding colon_at
  colon-off h e = rw (drop-cons s i 0 h, ne_eqb (get_or s i 0) 58 e)

  pub colon-end : length s ≤ i → colon_at (drop i s) ≡ 0
  unfolding colon_at
  colon-end h = rw (drop_of_length-le s h)

pub colon-le : (s : List ℕ) → colon_at s ≤ length s
unfolding colon_at
colon-le [] = omega arith
colon-le (b ∷ t) = go (eqb b 58) (colon-le t)
  where
    go : (q : Bool) → colon_at t ≤ length t → cond q 0 (suc (colon_at t)) ≤ suc (length t)
    go true h = omega arith
    go false h = omega arith

-- ---- hours and minutes
pub hour-le : (h : ℕ) (suffix : List ℕ) → hour_of h suffix ≤ h + 12
unfolding hour_of
hour-le h suffix = go (spelled suffix word_am) (spelled suffix word_pm)
  where
    go : (a p : Bool) → cond a (h % 12) (cond p (h % 12 + 12) h) ≤ h + 12
    go true p = omega arith
    go false true = omega arith
    go false false = omega arith

-- hours, or minutes, once it is known what they are or why they are none
taken : (c : Option ℕ) (go : ℕ → Result ℕ TimeError) (n : ℕ) → on_count c Ok ≡ Ok n → on_count c go ≡ go n
taken None go n e = cc
taken (Some x) go n e = by (leb x 1000000000) e
  where
    by : (q : Bool) → cond q (Ok x) (Err Beyond) ≡ Ok n → cond q (go x) (Err Beyond) ≡ go n
    by true h = cc
    by false h = cc

refused : (c : Option ℕ) (go : ℕ → Result ℕ TimeError) (e : TimeError) → on_count c Ok ≡ Err e → on_count c go ≡ Err e
refused None go e h = cc
refused (Some x) go e h = by (leb x 1000000000) h
  where
    by : (q : Bool) → cond q (Ok x) (Err Beyond) ≡ Err e → cond q (go x) (Err Beyond) ≡ Err e
    by true h = cc
    by false h = cc

module _ (hours minutes suffix : List ℕ) where
  pub no-hours : (e : TimeError) → on_count (count_of hours) Ok ≡ Err e → Err e ≡ colon_form hours minutes suffix
  unfolding colon_form
  no-hours e h = sym (refused (count_of hours) (λ h. on_count (count_of minutes) (λ m. Ok (hour_of h suffix * 3600 + m * 60))) e h)

  module _ (h : ℕ) (is : on_count (count_of hours) Ok ≡ Ok h) where
    hours-taken : colon_form hours minutes suffix ≡ on_count (count_of minutes) (λ m. Ok (hour_of h suffix * 3600 + m * 60))
    unfolding colon_form
    hours-taken = taken (count_of hours) (λ h. on_count (count_of minutes) (λ m. Ok (hour_of h suffix * 3600 + m * 60))) h is

    pub no-minutes : (e : TimeError) → on_count (count_of minutes) Ok ≡ Err e → Err e ≡ colon_form hours minutes suffix
    no-minutes e f = sym (hours-taken ∙ refused (count_of minutes) (λ m. Ok (hour_of h suffix * 3600 + m * 60)) e f)

    pub both : (m : ℕ) → on_count (count_of minutes) Ok ≡ Ok m → (r : ℕ) → r ≡ hour_of h suffix → Ok (r * 3600 + m * 60) ≡ colon_form hours minutes suffix
    both m f r g = rw g (sym (hours-taken ∙ taken (count_of minutes) (λ m. Ok (hour_of h suffix * 3600 + m * 60)) m f))
