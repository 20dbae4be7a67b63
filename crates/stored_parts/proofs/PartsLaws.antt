-- A count over a range of places is the definition's count of the records there. Assumes nothing.
use Prim.Native.Nat.{ℕ, zero, suc, ◌+◌, ◌-◌, ◌≤◌}
use native.Mathlib.Omega.{arith}
use native.Mathlib.Numerals.{add-one}
use mathlib.Core.Path.{◌≡◌, refl, ap, ◌∙◌}
use mathlib.Core.Bool.{Bool}
use mathlib.Core.List.{List, [], ◌∷◌}
use lib.ListN.{length, get_or, take, drop, length-drop}
use lib.Seq.{take_all, length-take-le, drop-cons}
use Rattle.std.specs.List.{range_with_len, count_by, filter}
use Rattle.std.proofs.lemmas.List.Sums.{sum_by-cons, length-filter}
use Rattle.scope.specs.Records.{Clause, condition, action}
use Rattle.scope.specs.Rules.{is_condition, is_action}
use Rattle.stored_parts.specs.Parts.{one_if, how_many, between}

module _ {A : Type 0} (asked : A → Bool) (xs : List A) (d : A) where
  steps : (first n : ℕ) → n ≤ length xs - first → count_by (λ k. asked (get_or xs k d)) (range_with_len first n) ≡ how_many asked (take n (drop first xs))
  unfolding how_many
  steps first zero h = refl
  steps first (suc n) h =
      rw (drop-cons xs first d (omega arith), add-one first, sum_by-cons (λ k. one_if (asked (get_or xs k d))) first (range_with_len (suc first) n))
      (ap (λ (k : ℕ). one_if (asked (get_or xs first d)) + k) (steps (suc first) n (omega arith)))

  pub counted : (first n : ℕ) → n ≤ length xs - first → length (filter (λ k. asked (get_or xs k d)) (range_with_len first n)) ≡ how_many asked (take n (drop first xs))
  counted first n h = length-filter (λ k. asked (get_or xs k d)) (range_with_len first n) ∙ steps first n h

  pub all-counted : {n : ℕ} → n ≡ length xs → length (filter (λ k. asked (get_or xs k d)) (range_with_len 0 n)) ≡ how_many asked xs
  all-counted {n} e = counted 0 n (omega arith) ∙ ap (how_many asked) (take_all n xs (omega arith))

-- ---- a clause is a condition or an action
one_of_two : (c : Clause) → one_if (is_condition c) + one_if (is_action c) ≡ 1
one_of_two (condition c) = refl
one_of_two (action a) = refl

both : (cs : List Clause) → how_many is_condition cs + how_many is_action cs ≡ length cs
unfolding how_many
both [] = refl
both (c ∷ cs) = omega (arith, one_of_two c, both cs)

pub the_others : (first end : ℕ) (cs : List Clause) (n : ℕ) → end ≤ length cs → n ≡ how_many is_condition (between first end cs) → (end - first) - n ≡ how_many is_action (between first end cs)
the_others first end cs n le e =
    omega (arith, e, both (between first end cs), length-take-le (end - first) (drop first cs) (omega (arith, le, length-drop first cs)))
