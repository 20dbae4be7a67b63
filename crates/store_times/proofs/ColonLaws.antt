-- Whether a text has a colon: whether one of its bytes is one. Assumes nothing.
use Prim.Native.Nat.{ℕ, suc}
use Prim.Native.Nat.compare
use native.Mathlib.Omega.{arith}
use borrow.Author.Tests.{lt-ltb}
use mathlib.Core.Path.{◌≡◌, refl, sym}
use mathlib.Core.Bool.{Bool, true, false, cond, ◌||◌}
use mathlib.Core.List.{List, [], ◌∷◌}
use lib.ListN.{length}
use lib.Dec.{eqb, ltb}
use Rattle.std.specs.List.{list_any}
use Rattle.leaf_clock.specs.Times.{colon_at, has_colon}

pub any_colon : (s : List ℕ) → list_any (λ b. eqb b 58) s ≡ has_colon s
unfolding colon_at
any_colon [] = refl
any_colon (b ∷ t) = go (eqb b 58) (any_colon t)
  where
    go : (q : Bool) → list_any (λ b. eqb b 58) t ≡ has_colon t → (q || list_any (λ b. eqb b 58) t) ≡ ltb (cond q 0 (suc (colon_at t))) (suc (length t))
    go true h = sym (lt-ltb 0 (suc (length t)) (omega arith))
    go false h = rw (compare.suc-suc (suc (colon_at t)) (length t)) h
