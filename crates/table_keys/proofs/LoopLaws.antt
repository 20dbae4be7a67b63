-- The key of a name, one letter at a time. Assumes nothing.
use Prim.Native.Nat.{ℕ, suc, ◌+◌, ◌*◌, ◌^◌, ◌≤◌, ◌<◌}
use native.Mathlib.Omega.{arith}
use native.Mathlib.Numerals.{add-one}
use native.Mathlib.Nat.{pow-suc, pow-le-pow_right}
use mathlib.Core.Path.{◌≡◌, refl, sym, ap, ◌∙◌}
use mathlib.Core.List.{List}
use lib.ListN.{length, take, drop, get_or, length-take, drop_of_length-le}
use lib.Seq.{drop-cons}
use Rattle.scope.specs.Tables.{packed, key_of}

-- ---- the key: the first i letters of l make k
pub record Packing (l : List ℕ) (k i : ℕ) : Type 0 where
  pub upto : i ≤ length l
  pub short : length l ≤ 8
  pub small : k < 256 ^ i
  pub left : packed k (drop i l) ≡ packed 0 l

pub pack-start : (l name : List ℕ) → l ≡ take 8 (drop 0 name) → Packing l 0 0
pack-start l name e = record { upto = omega arith; short = omega (arith, ap length e, length-take 8 name); small = omega arith; left = refl }

module _ {l : List ℕ} {k i : ℕ} (g : Packing l k i) where
  -- a letter more is a number below 2 ^ 64
  grows : (b : ℕ) → i < length l → b < 256 → (k * 256 + b < 256 ^ suc i) × (256 ^ suc i ≤ 18446744073709551616)
  grows b h hb =
      let up : suc i ≤ 8 = omega (arith, g.short) in
      let p : 256 ^ suc i ≤ 256 ^ 8 = pow-le-pow_right (omega arith) up in
      (omega (arith, g.small, pow-suc 256 i), p)

  pub pack-fits : (b : ℕ) → i < length l → b < 256 → k * 256 + b < 18446744073709551616
  pack-fits b h hb = omega (arith, (grows b h hb).0, (grows b h hb).1)

  pub pack-next : i < length l → get_or l i 0 < 256 → Packing l (k * 256 + get_or l i 0) (i + 1)
  unfolding packed
  pack-next h hb =
      let on : packed k (drop i l) ≡ packed (k * 256 + get_or l i 0) (drop (suc i) l) = rw (drop-cons l i 0 h) in
      record { upto = omega arith; short = g.short; small = rw add-one (grows (get_or l i 0) h hb).0; left = rw add-one (sym on ∙ g.left) }

  pub pack-end : (name : List ℕ) → length l ≤ i → l ≡ take 8 (drop 0 name) → k ≡ key_of name
  unfolding packed
  pack-end name h e =
      let stop : packed k (drop i l) ≡ k = rw (drop_of_length-le l {i = i} h) in
      sym stop ∙ g.left ∙ ap (λ (x : List ℕ). packed 0 x) e
