-- Bytes above 127. Assumes nothing.
use Prim.Native.Nat.{ℕ, suc, ◌≤◌, ◌<◌}
use mathlib.Core.Path.{◌≡◌, refl}
use mathlib.Core.Bool.{Bool, true, false, cond}
use mathlib.Core.List.{List}
use lib.ListN.{length, drop, get_or, drop_of_length-le}
use lib.Seq.{drop-cons}
use lib.Dec.{ltb}
use Rattle.scope.specs.Reading.{all_low}

pub low_step : (t : List ℕ) (i : ℕ) (low : Bool) → i < length t
    → cond (cond (ltb 127 (get_or t i 0)) false low) (all_low (drop (suc i) t)) false ≡ cond low (all_low (drop i t)) false
unfolding all_low
low_step t i low h = rw (drop-cons t i 0 h) (go (ltb 127 (get_or t i 0)) low (all_low (drop (suc i) t)))
  where
    go : (high low rest : Bool) → cond (cond high false low) rest false ≡ cond low (cond high false rest) false
    go true true rest = refl
    go true false rest = refl
    go false true rest = refl
    go false false rest = refl

pub low_end : (t : List ℕ) (i : ℕ) (low : Bool) → length t ≤ i → cond low (all_low (drop i t)) false ≡ low
unfolding all_low
low_end t i true h = rw (drop_of_length-le t h)
low_end t i false h = refl
