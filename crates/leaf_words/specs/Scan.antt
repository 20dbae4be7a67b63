-- What a scan for two bytes promises: no rule of document 01 names it. Assumes nothing.
use Rattle.std.specs.Prelude.{ℕ, suc, ◌+◌, ◌-◌, ◌*◌, Bool, cond, ◌||◌, List, [], ◌∷◌, take, drop, ◌==◌}

-- the bytes of l from place a up to place e
abbrev pub part : ℕ → ℕ → List ℕ → List ℕ
part a e l = take (e - a) (drop a l)

-- the byte x is a or b
abbrev pub either : ℕ → ℕ → ℕ → Bool
either a b x = x == a || x == b

-- how many bytes stand before the first a or b
unfoldable pub clear_len : ℕ → ℕ → List ℕ → ℕ
clear_len a b [] = 0
clear_len a b (x ∷ xs) = cond (either a b x) 0 (suc (clear_len a b xs))

-- the bytes as one number, the first the lowest
unfoldable pub word : List ℕ → ℕ
word [] = 0
word (x ∷ xs) = word xs * 256 + x
