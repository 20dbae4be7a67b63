-- Rows that are computed. Assumes nothing.
use Rattle.leaf_clock.specs.declared.TimeError.{TimeError}
use Rattle.std.specs.Prelude.{◌≡◌, ℕ, List, [], ◌∷◌, map, refl, Err, Ok, Result}
use Rattle.std.specs.Float.Ieee.{mul, of_int, div, neg}
use Rattle.leaf_decimals.specs.Numbers.{number_of}
use Rattle.leaf_decimals.specs.Reach.{meaning}
use Rattle.leaf_counts.specs.Counts.{count_of}
use Rattle.leaf_letters.specs.Words.{same}
use Rattle.leaf_clock.specs.declared.TimeError.TheVariants.{Malformed, Beyond, UnknownUnit}
use Rattle.leaf_clock.specs.Times.{colon_at, time_of, time_answer}

-- Document 01, "Checked rows", Times (P): a time, its unit or suffix, and what it is. The first ten are its rows; the others are traps of the same rules.
time_rows : List (List ℕ × List ℕ × Result ℕ TimeError)
time_rows =
    -- 12:00 AM
    (49 ∷ 50 ∷ 58 ∷ 48 ∷ 48 ∷ [], 65 ∷ 77 ∷ [], Ok 0)
    -- 12:00 PM
    ∷ (49 ∷ 50 ∷ 58 ∷ 48 ∷ 48 ∷ [], 80 ∷ 77 ∷ [], Ok 43200)
    -- 1:75
    ∷ (49 ∷ 58 ∷ 55 ∷ 53 ∷ [], [], Ok 8100)
    -- 1.5
    ∷ (49 ∷ 46 ∷ 53 ∷ [], [], Ok 5400)
    -- 1.9 SEC
    ∷ (49 ∷ 46 ∷ 57 ∷ [], 83 ∷ 69 ∷ 67 ∷ [], Ok 1)
    -- -3
    ∷ (45 ∷ 51 ∷ [], [], Ok 0)
    -- inf AM
    ∷ (105 ∷ 110 ∷ 102 ∷ [], 65 ∷ 77 ∷ [], Ok 10800)
    -- 2 HOURSS
    ∷ (50 ∷ [], 72 ∷ 79 ∷ 85 ∷ 82 ∷ 83 ∷ 83 ∷ [], Ok 7200)
    -- 5 S
    ∷ (53 ∷ [], 83 ∷ [], Err UnknownUnit)
    -- :30
    ∷ (58 ∷ 51 ∷ 48 ∷ [], [], Err Malformed)
    -- 1e23 XX
    ∷ (49 ∷ 101 ∷ 50 ∷ 51 ∷ [], 88 ∷ 88 ∷ [], Err Beyond)
    -- 1 PMS
    ∷ (49 ∷ [], 80 ∷ 77 ∷ 83 ∷ [], Ok 46800)
    -- 6 ;
    ∷ (54 ∷ [], 59 ∷ [], Err UnknownUnit)
    -- 6:00 ;
    ∷ (54 ∷ 58 ∷ 48 ∷ 48 ∷ [], 59 ∷ [], Ok 21600)
    -- 6:00 PMS
    ∷ (54 ∷ 58 ∷ 48 ∷ 48 ∷ [], 80 ∷ 77 ∷ 83 ∷ [], Ok 21600)
    -- 2 hours
    ∷ (50 ∷ [], 104 ∷ 111 ∷ 117 ∷ 114 ∷ 115 ∷ [], Ok 7200)
    -- 1:2:x
    ∷ (49 ∷ 58 ∷ 50 ∷ 58 ∷ 120 ∷ [], [], Ok 3720)
    -- 1000000000:0
    ∷ (49 ∷ 48 ∷ 48 ∷ 48 ∷ 48 ∷ 48 ∷ 48 ∷ 48 ∷ 48 ∷ 48 ∷ 58 ∷ 48 ∷ [], [], Ok 3600000000000)
    -- 1000000001:x
    ∷ (49 ∷ 48 ∷ 48 ∷ 48 ∷ 48 ∷ 48 ∷ 48 ∷ 48 ∷ 48 ∷ 49 ∷ 58 ∷ 120 ∷ [], [], Err Beyond)
    -- x:1000000001
    ∷ (120 ∷ 58 ∷ 49 ∷ 48 ∷ 48 ∷ 48 ∷ 48 ∷ 48 ∷ 48 ∷ 48 ∷ 48 ∷ 49 ∷ [], [], Err Malformed)
    -- 5124095576030432:00
    ∷ (53 ∷ 49 ∷ 50 ∷ 52 ∷ 48 ∷ 57 ∷ 53 ∷ 53 ∷ 55 ∷ 54 ∷ 48 ∷ 51 ∷ 48 ∷ 52 ∷ 51 ∷ 50 ∷ 58 ∷ 48 ∷ 48 ∷ [], [], Err Beyond)
    ∷ []

times-right : map (λ (row : List ℕ × List ℕ × Result ℕ TimeError). time_of row.0 row.1) time_rows ≡ map (λ (row : List ℕ × List ℕ × Result ℕ TimeError). row.2) time_rows
unfolding time_rows time_of colon_at number_of meaning count_of same mul of_int div neg
times-right = refl

times-answered : map (λ (row : List ℕ × List ℕ × Result ℕ TimeError). time_answer row.2) time_rows ≡ 0 ∷ 0 ∷ 0 ∷ 0 ∷ 0 ∷ 0 ∷ 0 ∷ 0 ∷ 7 ∷ 2 ∷ 22 ∷ 0 ∷ 7 ∷ 0 ∷ 0 ∷ 0 ∷ 0 ∷ 0 ∷ 22 ∷ 2 ∷ 22 ∷ []
unfolding time_rows
times-answered = refl
