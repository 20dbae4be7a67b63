-- The scan, by the place of the lowest mark in a block. Assumes nothing.
use Rattle.std.proofs.Common.{◌≡◌, ℕ, zero, suc, ◌+◌, ◌-◌, ◌*◌, ◌/◌, ◌%◌, ◌^◌, ◌<◌, ◌≤◌, List, length, take, drop, sym, refl, pow-suc, arith, drop-drop}
use lib.Count.{under, count_trailing_zeros, trailing_of_zero}
use Rattle.leaf_words.specs.Scan.{part, clear_len}
use Rattle.leaf_words.proofs.ScanLaws.{length_part, clear-found, clear-past}

-- a number of k digits that is not zero has fewer zeros
zeros-lt : (k r : ℕ) → r < 2 ^ k → (r ≡ 0 → ⊥) → count_trailing_zeros k r < k
unfolding count_trailing_zeros
zeros-lt zero r h z = absurd (z (omega arith))
zeros-lt (suc k) r h z = go (r % 2) refl (zeros-lt k (r / 2))
  where
    go : (j : ℕ) → r % 2 ≡ j → (r / 2 < 2 ^ k → (r / 2 ≡ 0 → ⊥) → count_trailing_zeros k (r / 2) < k) → under j (count_trailing_zeros k (r / 2)) < suc k
    go zero e f =
        let p : r < 2 ^ k * 2 = rw pow-suc at h in
        omega (arith, f (omega arith) (λ q. z (omega arith)))
    go (suc j) e f = omega arith

-- r has its lowest mark in the first a or b of the block of l from i on
module _ (a b : ℕ) (l : List ℕ) (from i r : ℕ) (inv : i + clear_len a b (drop i l) ≡ from + clear_len a b (drop from l)) (k : i + 8 ≤ length l)
    (m : count_trailing_zeros 64 r / 8 ≡ clear_len a b (part i (i + 8) l)) where
  pub mark-found : r < 2 ^ 64 → (r ≡ 0 → ⊥) → i + count_trailing_zeros 64 r / 8 ≡ from + clear_len a b (drop from l)
  mark-found h z =
      omega (arith, m, clear-found a b (i + 8 - i) (drop i l) (omega (arith, m, zeros-lt 64 r h z, length_part i (i + 8) l k)))

  pub mark-past : r ≡ 0 → i + 8 + clear_len a b (drop (i + 8) l) ≡ from + clear_len a b (drop from l)
  mark-past e =
      let z : i + 8 - i ≡ 8 = omega arith in
      let s : clear_len a b (take 8 (drop i l)) ≡ 8 = rw (e, trailing_of_zero 64, z) at (sym m) in
      rw (← drop-drop 8 i l) (omega (arith, clear-past a b 8 (drop i l) s))
