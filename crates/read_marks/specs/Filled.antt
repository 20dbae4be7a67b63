-- Lines one after another that are of one class. Assumes nothing.
use Rattle.std.specs.Prelude.{ℕ, zero, suc, ◌+◌, List, set}

-- class k for n lines, from number `from` on
unfoldable pub filled : List ℕ → ℕ → ℕ → ℕ → List ℕ
filled c from zero k = c
filled c from (suc n) k = set (filled c from n k) (from + n) k
