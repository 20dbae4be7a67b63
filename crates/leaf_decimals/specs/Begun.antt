-- A number read where it stands in a text, as most are written: no rule of document 01 names it. Assumes nothing.
use Rattle.leaf_decimals.specs.declared.NumberError.{NumberError}
use Rattle.std.specs.Prelude.{◌≡◌, List, ℕ, take, None, Option, Result, Some, Float}
use Prim.{Unit}
use Rattle.leaf_digits.specs.Ends.{word_len}
use Rattle.leaf_decimals.specs.Numbers.{number_of}

-- where a number is handed out, it is that of all the bytes before the first whitespace
abbrev pub Begins : List ℕ → Option (Result Float NumberError × ℕ) → Type 0
Begins s (Some (n, len)) = (len ≡ word_len s) × (n ≡ number_of (take len s))
Begins s None = Unit
