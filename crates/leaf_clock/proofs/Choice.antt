-- A choice, by what its test was. Assumes nothing.
use Rattle.std.proofs.Common.{◌≡◌, Bool, true, false, cond}

module _ {A : Type 0} (b : Bool) (x y z : A) where
  pub chosen : b ≡ true → z ≡ x → z ≡ cond b x y
  chosen e p = rw e p

  pub passed : b ≡ false → z ≡ y → z ≡ cond b x y
  passed e p = rw e p
