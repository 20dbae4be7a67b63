-- Parts of a text, as the code takes them. Assumes nothing.
use Rattle.std.proofs.Common.{◌≡◌, ℕ, ◌≤◌, List, length, take, arith, length-take}

pub start-length : (s : List ℕ) (n : ℕ) → n ≤ length s → n ≡ length (take n s)
start-length s n h = omega (arith, length-take n s)
