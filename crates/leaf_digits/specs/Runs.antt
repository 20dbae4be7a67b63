-- Digits read where they stand in a text, so few that no sum overflows: no rule of document 01 names it. Assumes nothing.
use Rattle.std.specs.Prelude.{◌≡◌, List, ℕ, suc, ◌+◌, ◌-◌, ◌*◌, ◌^◌, ◌≤◌, length, drop}
use Rattle.leaf_digits.specs.Digits.{digits, value}

-- v may take as many digits more as there are places from i up to `to`, and stays below 10 ^ 19
abbrev pub Room : ℕ → ℕ → ℕ → Type 0
Room v i to = suc v * 10 ^ (to - i) ≤ 10 ^ 19

-- the digits of s from the place `from` on, with those of w before them, were read up to the place `end`: v is what they are so far
pub record Scanned (s : List ℕ) (from w end v : ℕ) : Type 0 where
  pub after : from ≤ end
  pub inside : end ≤ length s
  pub place : end + length (digits (drop end s)) ≡ from + length (digits (drop from s))
  pub count : value v (digits (drop end s)) ≡ value w (digits (drop from s))
