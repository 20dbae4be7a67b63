-- `leaf_decimals::read_unsigned` meets its contract. Assumes nothing.
use Rattle.std.specs.Prelude.{Ok}
use mathlib.Core.Path.{◌≡◌, refl, sym, ap, ◌∙◌}
use mathlib.Core.Bool.{Bool, true, false}
use mathlib.Core.List.{List}
use Prim.Native.Nat.{ℕ, ◌≤◌}
use native.Mathlib.Omega.{arith}
use lib.ListN.{length}
use lib.Ieee.{inf, nan, binary64, of_bits, div, neg}
use Rattle.leaf_decimals.specs.Reach.{signed}
use Rattle.leaf_digits.specs.Digits.{digits, after, value}
use Rattle.leaf_decimals.specs.Numbers.{outcome, unsigned, point}
use Rattle.leaf_digits.proofs.Digits.{digits_le}
use Rattle.leaf_decimals.proofs.Reading.{digits-law, unsigned-inf, unsigned-infinity, unsigned-nan, unsigned-digits, unsigned-begun}
use Rattle.leaf_decimals.proofs.read_unsigned.Goals.{then-n-eq0+else-is_word+else-is_word-2+else-is_word-3, else-n-eq0}
use Rattle.leaf_decimals.proofs.read_unsigned.Goals as goal

fits-part : (t : List ℕ) (n : ℕ) → n ≡ length (digits t) → n ≤ length t
fits-part t n e = omega (arith, digits_le t)

inf-is : (minus : Bool) → signed minus (div binary64 (of_bits binary64 4607182418800017408) (of_bits binary64 0)) ≡ inf minus
unfolding div of_bits neg
inf-is true = refl
inf-is false = refl

nan_is : div binary64 (of_bits binary64 0) (of_bits binary64 0) ≡ nan
unfolding div of_bits
nan_is = refl

pub returns-then-is_word : goal.returns-then-is_word
returns-then-is_word c = ap Ok (c.with_sign.ensures ∙ inf-is _) ∙ sym (unsigned-inf _ _ (sym c.is_word.ensures ∙ c.if-is_word.true))

pub returns-then-is_word-2 : goal.returns-then-is_word-2
returns-then-is_word-2 c = ap Ok (c.with_sign-then-is_word-2.ensures ∙ inf-is _) ∙ sym (unsigned-infinity _ _ (sym c.is_word-then-n-eq0.ensures ∙ c.if-is_word-2.true))

pub returns-then-is_word-3 : goal.returns-then-is_word-3
returns-then-is_word-3 c =
    ap Ok nan_is ∙ sym (unsigned-nan _ _ (sym c.is_word.ensures ∙ c.if-is_word.false) (sym c.is_word-then-n-eq0.ensures ∙ c.if-is_word-2.false) (sym c.is_word-then-n-eq0-2.ensures ∙ c.if-is_word-3.true))

pub slice_bounds-read_point-count : goal.slice_bounds-read_point-count
slice_bounds-read_point-count c = fits-part _ _ c.leading-d.ensures.0

pub slice_bounds-read_point-start : goal.slice_bounds-read_point-start
slice_bounds-read_point-start c = fits-part _ _ c.leading-d.ensures.0

pub read_point-requires : goal.read_point-requires
read_point-requires c =
    (omega (arith, c.leading-d.ensures.1), omega (arith, fits-part c.args.s.now _ c.leading-d.ensures.0))

pub returns : goal.returns
returns c =
    let a = c.args in
    let l = c.leading-d.ensures in
    let u : unsigned a.minus a.s.now ≡ point a.minus (value 0 (digits a.s.now)) (length (digits a.s.now)) (after a.s.now) =
    elim c.if-n-eq0.branch [
      | then-n-eq0+else-is_word+else-is_word-2+else-is_word-3 w ↦
          unsigned-digits a.minus a.s.now (sym w.is_word.ensures ∙ w.if-is_word.false) (sym w.is_word-then-n-eq0.ensures ∙ w.if-is_word-2.false)
          (sym w.is_word-then-n-eq0-2.ensures ∙ w.if-is_word-3.false)
      | else-n-eq0 w ↦ unsigned-begun a.minus a.s.now (λ q. w.if-n-eq0.false (l.0 ∙ q))
    ] in
    c.read_point.ensures ∙ digits-law _ _ _ _ l.0 l.1 ∙ ap outcome (sym u)
