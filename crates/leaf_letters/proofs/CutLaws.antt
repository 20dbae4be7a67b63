-- A part of a text, at most so long. Assumes nothing.
use Prim.Native.Nat.{ℕ, ◌+◌, ◌-◌, ◌<◌}
use native.Mathlib.Omega.{arith}
use native.Mathlib.Nat.{le_of_lt}
use mathlib.Core.Path.{◌≡◌, sym, ◌∙◌}
use mathlib.Core.List.{List}
use lib.ListN.{length, take, drop, length-drop, drop_of_length-le}
use lib.Seq.{drop-length, take_all, take-nil}

pub cut_out : (l : List ℕ) (at n : ℕ) → length l < at → take (length l - length l) (drop (length l) l) ≡ take n (drop at l)
cut_out l at n h = rw (drop-length l, drop_of_length-le l (le_of_lt h), take-nil n, take-nil)

pub cut-rest : (l : List ℕ) (at n : ℕ) → length l - at < n → take (length l - at) (drop at l) ≡ take n (drop at l)
cut-rest l at n h =
    let e : length (drop at l) ≡ length l - at = length-drop at l in
    take_all (length l - at) (drop at l) (omega arith) ∙ sym (take_all n (drop at l) (omega arith))

pub cut-part : (l : List ℕ) (at n : ℕ) → take (at + n - at) (drop at l) ≡ take n (drop at l)
cut-part l at n = let e : at + n - at ≡ n = omega arith in rw e
