-- Rows that are computed. Assumes nothing.
use Rattle.leaf_decimals.specs.declared.NumberError.{NumberError}
use Rattle.std.specs.Prelude.{◌≡◌, refl, true, false, List, [], ◌∷◌, map, ℕ, pos, negsuc, Err, Ok, Result, Float}
use Rattle.std.proofs.Common.{not-le_of_lt, lit<}
use Rattle.std.specs.Float.Ieee.{fits, of_bits, of_int, mul, div, neg}
use Rattle.std.specs.Float.{fin, inf, binary64}
use Rattle.leaf_decimals.specs.declared.NumberError.TheVariants.{Malformed, Beyond}
use Rattle.leaf_decimals.specs.Numbers.{number_of, number_answer}
use Rattle.leaf_decimals.specs.Reach.{meaning}
use Rattle.leaf_decimals.specs.Nearest.{Nearest}

-- Document 01, "Checked rows", Numbers (P): a text, and what it is. The first five are its rows, and their answers stand below.
number_rows : List (List ℕ × Result Float NumberError)
number_rows =
    -- .5
    (46 ∷ 53 ∷ [], Ok (of_bits binary64 0x3fe0_0000_0000_0000))
    -- 5.
    ∷ (53 ∷ 46 ∷ [], Ok (of_bits binary64 0x4014_0000_0000_0000))
    -- .
    ∷ (46 ∷ [], Err Malformed)
    -- 10e22
    ∷ (49 ∷ 48 ∷ 101 ∷ 50 ∷ 50 ∷ [], Ok (of_bits binary64 0x44b5_2d02_c7e1_4af6))
    -- 1e23
    ∷ (49 ∷ 101 ∷ 50 ∷ 51 ∷ [], Err Beyond)
    -- -0.1e-1
    ∷ (45 ∷ 48 ∷ 46 ∷ 49 ∷ 101 ∷ 45 ∷ 49 ∷ [], Ok (of_bits binary64 0xbf84_7ae1_47ae_147b))
    -- -0e99999
    ∷ (45 ∷ 48 ∷ 101 ∷ 57 ∷ 57 ∷ 57 ∷ 57 ∷ 57 ∷ [], Ok (fin true 0 (pos 0)))
    -- -InF
    ∷ (45 ∷ 73 ∷ 110 ∷ 70 ∷ [], Ok (inf true))
    ∷ []

numbers-right : map (λ (row : List ℕ × Result Float NumberError). number_of row.0) number_rows ≡ map (λ (row : List ℕ × Result Float NumberError). row.1) number_rows
unfolding number_rows number_of meaning mul div of_int of_bits neg
numbers-right = refl

numbers-answered : map (λ (row : List ℕ × Result Float NumberError). number_answer row.1) number_rows ≡ 0 ∷ 0 ∷ 2 ∷ 0 ∷ 22 ∷ 0 ∷ 0 ∷ 0 ∷ []
unfolding number_rows
numbers-answered = refl

-- ---- what Nearest rules out
-- 0.1: the double just below the nearest one
just-below : Nearest false 1 10 false 0x19_9999_9999_9999 (negsuc 55) → ⊥
unfolding fits
just-below h = not-le_of_lt (lit< tt) (h.least false 0xc_cccc_cccc_cccd (negsuc 54) tt)

-- 90071992547409880 lies half way between two doubles, 16 apart: the odd one
odd-of-two : Nearest false 90071992547409880 1 false 5629499534213117 (pos 4) → ⊥
unfolding fits
odd-of-two h = not-le_of_lt (lit< tt) (h.tie false 2814749767106559 (pos 5) tt (lit< tt) refl).0
