-- The words of a place and of an amount, read back, are the place and the amount. Assumes nothing.
use Rattle.std.specs.Prelude.{None, Option, Some}
use Prim.Native.Nat.{ℕ, suc, ◌-◌}
use native.Mathlib.Omega.{arith}
use mathlib.Core.Path.{◌≡◌, refl}
use mathlib.Core.Bool.{false}
use lib.ListN.{get_or}
use lib.Dec.{eqb}
use borrow.Author.Tests.{ne_eqb}
use Rattle.scope.specs.Tables.{index_no, count_words}
use Rattle.stored_words.specs.Words.{found_from, amount_from, place_found, amount_of}

pub found_back : (o : Option ℕ) → found_from (index_no o) ≡ place_found o
found_back None = refl
found_back (Some i) =
    let more : eqb (suc i) 0 ≡ false = ne_eqb (suc i) 0 (λ e. omega arith) in
    let less : suc i - 1 ≡ i = omega arith in
    rw (more, less)

pub amount-back : (o : Option ℕ) → amount_from (get_or (count_words o) 0 0) (get_or (count_words o) 1 0) ≡ amount_of o
amount-back None = refl
amount-back (Some n) = refl
