-- A text at its first byte, and from a place on. Assumes nothing.
use mathlib.Core.Path.{◌≡◌, refl}
use mathlib.Core.List.{List, [], ◌∷◌}
use Prim.Native.Nat.{ℕ, suc, ◌-◌, ◌<◌}
use native.Mathlib.Nat.{le_of_eq}
use native.Mathlib.Omega.{arith}
use lib.ListN.{length, drop, take, get_or, length-drop}
use lib.Seq.{drop-cons, take_all}

pub tail_of : (s : List ℕ) (n : ℕ) → take (length s - n) (drop n s) ≡ drop n s
tail_of s n = take_all (length s - n) (drop n s) (le_of_eq (length-drop n s))

pub head_of : (s : List ℕ) → 0 < length s → s ≡ get_or s 0 0 ∷ drop 1 s
head_of s h = drop-cons s 0 0 h

pub nil-of : (s : List ℕ) → length s ≡ 0 → s ≡ []
nil-of [] e = refl
nil-of (b ∷ t) e = absurd (no (length t) e)
  where
    no : (n : ℕ) → suc n ≡ 0 → ⊥
    no n e = omega arith
