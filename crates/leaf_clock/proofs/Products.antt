-- The product of a time is the rounded one. Assumes nothing.
use Rattle.leaf_clock.specs.declared.TimeError.{TimeError}
use Rattle.leaf_decimals.specs.declared.NumberError.{NumberError}
use Rattle.std.specs.Prelude.{Ok, Result, Option, None, Some}
use Rattle.std.proofs.Common.{◌≡◌, ℕ, suc, ◌^◌, ◌<◌, ◌≤◌, Bool, true, false, not, T, List, ℤ, pos, sym, refl, ap, ◌∙◌, subst, lt_irrefl, arith, lit≤, ne_eqb}
use lib.Ieee.{Float, nan, inf, fin, binary64, of_int, mul}
use Rattle.leaf_decimals.specs.Numbers.{number_of}
use Rattle.leaf_decimals.proofs.Products.{times-nearest}
use Rattle.leaf_clock.specs.declared.Unit.{Unit}
use Rattle.leaf_clock.specs.declared.Unit.TheVariants.{Hour, Minute, Second, Day, Am, Pm}
use Rattle.leaf_clock.specs.Times.{has_colon, number_form, unit_of, factor_of, times, in_unit, time_of}
use Rattle.leaf_clock.specs.Products.{Product, CutProduct, ByNearest}
use Rattle.leaf_clock.proofs.Choice.{passed}

inf-times : (s : Bool) (n : ℕ) (d : ℤ) → mul binary64 (inf s) (fin false (suc n) d) ≡ inf s
unfolding mul
inf-times true n d = rw (ne_eqb (suc n) 0 (λ z. omega arith))
inf-times false n d = rw (ne_eqb (suc n) 0 (λ z. omega arith))

-- k is a double that is not 0, (n + 1) * 2 ^ d
module _ (k n : ℕ) (d : ℤ) (small : k ≤ 2 ^ 53) (exact : of_int binary64 (pos k) ≡ fin false (suc n) d) where
  product-of : (x : Float) → Product x k (times x k)
  unfolding mul
  product-of nan = refl
  product-of (inf s) = ap (mul binary64 (inf s)) exact ∙ inf-times s n d
  product-of (fin s m e) = times-nearest s m e k small

unit-product : (u : Option Unit) (x : Float) → 0 < factor_of u → CutProduct x (factor_of u) (number_form (Ok x) u)
unfolding in_unit of_int
unit-product (Some Hour) x h = (times x 3600, product-of 3600 224 (pos 4) (lit≤ tt) refl x, refl)
unit-product (Some Minute) x h = (times x 60, product-of 60 14 (pos 2) (lit≤ tt) refl x, refl)
unit-product (Some Day) x h = (times x 86400, product-of 86400 674 (pos 7) (lit≤ tt) refl x, refl)
unit-product (Some Second) x h = absurd (lt_irrefl 0 h)
unit-product (Some Am) x h = absurd (lt_irrefl 0 h)
unit-product (Some Pm) x h = absurd (lt_irrefl 0 h)
unit-product None x h = absurd (lt_irrefl 0 h)

not-true : (b : Bool) → T (not b) → b ≡ false
not-true true t = absurd t
not-true false t = refl

no-colon : (time unit : List ℕ) (x : Float) → T (not (has_colon time)) → number_of time ≡ Ok x → number_form (Ok x) (unit_of unit) ≡ time_of time unit
unfolding time_of
no-colon time unit x t e = passed _ _ _ _ (not-true (has_colon time) t) (ap (λ (n : Result Float NumberError). number_form n (unit_of unit)) (sym e))

pub by-nearest : (time unit : List ℕ) (r : Result ℕ TimeError) → r ≡ time_of time unit → (r ≡ time_of time unit) × ByNearest time unit r
by-nearest time unit r f = (
  f,
  record {
    product = λ t x e h. subst (λ (z : Result ℕ TimeError). CutProduct x (factor_of (unit_of unit)) z) (no-colon time unit x t e ∙ sym f) (unit-product (unit_of unit) x h);
  },
)
