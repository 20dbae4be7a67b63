-- The unit, and its final S. Assumes nothing.
use Rattle.std.proofs.Common.{◌≡◌, ℕ, List, [], ◌∷◌, length, refl, arith}
use Rattle.std.specs.Prelude.{Some}
use Rattle.leaf_letters.specs.Words.{same}
use Rattle.leaf_clock.specs.declared.Unit.TheVariants.{Hour}
use Rattle.leaf_clock.specs.Times.{without_s, unit_words, named, unit_of}

pub no-letters : (u : List ℕ) → length u ≡ 0 → u ≡ without_s u
unfolding without_s same
no-letters [] h = refl
no-letters (b ∷ t) h = absurd (omega arith)

pub unit-absent : (u : List ℕ) → length u ≡ 0 → Some Hour ≡ unit_of u
unfolding unit_of
unit-absent [] h = refl
unit-absent (b ∷ t) h = absurd (omega arith)

pub unit-named : (u : List ℕ) → (length u ≡ 0 → ⊥) → named unit_words (without_s u) ≡ unit_of u
unfolding unit_of
unit-named [] h = absurd (h refl)
unit-named (b ∷ t) h = refl
