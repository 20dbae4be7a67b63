-- The ways through `inp_read_survey`: too few counts, a table too small, a survey. Assumes nothing.
use Prim.Native.Nat.{ℕ, ◌≤◌, ◌<◌}
use borrow.Author.Tests.{lt-ltb, le-ltb, ne_eqb}
use mathlib.Core.Path.{◌≡◌, refl, sym, ap, ◌∙◌}
use mathlib.Core.List.{List}
use lib.ListN.{length}
use lib.Ieee.{Float}
use Rattle.scope.specs.declared.Survey.{Survey}
use Rattle.scope.specs.Reading.{survey_answer, survey_words, survey_numbers, survey_classes, survey_reasons}
use Rattle.table_rows.specs.Table.{splice}
use Rattle.inp.specs.Calls.{count_words, number_of, counts_after, words_after, numbers_after, classes_after, reasons_after}

-- of what a survey promises, the part that a caller in C is told
pub seen : {A B C D E F : Type 0} → A × B × C × D × E × F → A × B × C × D × E
seen p = (p.0, p.1, p.2, p.3, p.4)

module _ (text w : List ℕ) (f : List Float) (c r k : List ℕ) where
  abbrev Seen : Survey → List ℕ → List Float → List ℕ → List ℕ → Type 0
  Seen a w' f' c' r' =
      (a ≡ survey_answer text w f c r) × (w' ≡ survey_words text w f c r) × (f' ≡ survey_numbers text w f c r) × (c' ≡ survey_classes text w f c r) × (r' ≡ survey_reasons text w f c r)

  abbrev Called : ℕ → List ℕ → List Float → List ℕ → List ℕ → List ℕ → Type 0
  Called n w' f' c' r' k' =
      (n ≡ number_of text w f c r k) × (w' ≡ words_after text w f c r k) × (f' ≡ numbers_after text w f c r k) × (c' ≡ classes_after text w f c r k)
      × (r' ≡ reasons_after text w f c r k) × (k' ≡ counts_after text w f c r k)

  pub few : length k < 9 → Called 28 w f c r k
  unfolding number_of words_after numbers_after classes_after reasons_after counts_after
  few h = rw (lt-ltb (length k) 9 h) (refl, refl, refl, refl, refl, refl)

  pub small : {a : Survey} {w' c' r' : List ℕ} {f' : List Float} → 9 ≤ length k → Seen a w' f' c' r' → a.number ≡ 28 → Called 28 w' f' c' r' k
  unfolding number_of words_after numbers_after classes_after reasons_after counts_after
  small {a = a} h s e =
      let n : (survey_answer text w f c r).number ≡ 28 = sym (ap (λ (x : Survey). x.number) s.0) ∙ e in
      rw (le-ltb (length k) 9 h, n) (refl, s.1, s.2, s.3, s.4, refl)

  pub surveyed : {a : Survey} {w' c' r' k' : List ℕ} {f' : List Float} → 9 ≤ length k → Seen a w' f' c' r' → (a.number ≡ 28 → ⊥)
      → k' ≡ splice k 0 (count_words a) → Called a.number w' f' c' r' k'
  unfolding number_of words_after numbers_after classes_after reasons_after counts_after
  surveyed {a = a} h s d ek =
      rw (le-ltb (length k) 9 h, ← s.0, ne_eqb a.number 28 d) (refl, s.1, s.2, s.3, s.4, ek)
