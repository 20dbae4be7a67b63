-- `leaf_decimals::read_point` meets its contract. Assumes nothing.
use mathlib.Core.Path.{◌≡◌, sym, ap, ◌∙◌}
use mathlib.Core.List.{List}
use Prim.Native.Nat.{ℕ, ◌-◌, ◌^◌, ◌<◌, ◌≤◌}
use native.Mathlib.Omega.{arith}
use lib.ListN.{length, take, drop, length-drop}
use Rattle.leaf_digits.specs.declared.Class.TheVariants.{Point}
use Rattle.leaf_digits.specs.Digits.{digits}
use Rattle.leaf_decimals.specs.Numbers.{outcome, ending}
use Rattle.leaf_digits.proofs.Classes.{is-class, not-class}
use Rattle.leaf_digits.proofs.Lists.{tail_of}
use Rattle.leaf_digits.proofs.Digits.{digits_le}
use Rattle.leaf_decimals.proofs.Reading.{point-nil, point-no, point-law}
use Rattle.leaf_decimals.proofs.read_point.Goals.{in-empty, in-len1-up+in-Point, in-len1-up+in_default}
use Rattle.leaf_decimals.proofs.read_point.Goals as goal

fits-part : (t : List ℕ) (n : ℕ) → n ≡ length (digits t) → n ≤ length t
fits-part t n e = omega (arith, digits_le t)

part-le : (s : List ℕ) (n : ℕ) → n ≡ length (digits (take (length s - 1) (drop 1 s))) → n ≤ length s
part-le s n e = omega (arith, digits_le (take (length s - 1) (drop 1 s)), ap length (tail_of s 1), length-drop 1 s)

pub overflow_add-w : goal.overflow_add-w
overflow_add-w c =
    let few : c.leading-d.result.len < 2 ^ 63 = omega (arith, part-le c.args.s.now c.leading-d.result.len c.leading-d.ensures.0) in
    omega (arith, c.requires.1, few)

pub slice_bounds-w-count : goal.slice_bounds-w-count
slice_bounds-w-count c = fits-part _ _ c.leading-d.ensures.0

pub slice_bounds-w-start : goal.slice_bounds-w-start
slice_bounds-w-start c = fits-part _ _ c.leading-d.ensures.0

pub read_ending-requires : goal.read_ending-requires
read_ending-requires c = elim c.if-s-lt1.branch [
  | in-empty w ↦ omega (arith, ap (λ p. p.2) w.w-is)
  | in-len1-up+in-Point w ↦
      let few : w.leading-d.result.len < 2 ^ 63 = omega (arith, part-le c.args.s.now w.leading-d.result.len w.leading-d.ensures.0) in
      omega (arith, few, ap (λ p. p.2) w.w-is)
  | in-len1-up+in_default w ↦ omega (arith, ap (λ p. p.2) w.w-is)
]

pub returns : goal.returns
returns c =
    let a = c.args in
    let s : List ℕ = a.s.now in
    c.read_ending.ensures ∙ elim c.if-s-lt1.branch [
      | in-empty w ↦
          ap (λ p. outcome (ending a.minus p.0 p.1 p.2 p.3.now)) w.w-is ∙ ap outcome (sym (point-nil _ _ _ _ (omega (arith, w.in-empty))))
      | in-len1-up+in-Point w ↦
          let h : 0 < length s = omega (arith, w.in-len1-up.len_at_least) in
          ap (λ p. outcome (ending a.minus p.0 p.1 p.2 p.3.now)) w.w-is
          ∙ point-law a.minus a.w a.count s (take (length s - 1) (drop 1 s)) _ _ (tail_of s 1) w.leading-d.ensures.0 w.leading-d.ensures.1
          h (is-class Point _ w.class_of.ensures w.in-Point.is)
      | in-len1-up+in_default w ↦
          let h : 0 < length s = omega (arith, w.in-len1-up.len_at_least) in
          ap (λ p. outcome (ending a.minus p.0 p.1 p.2 p.3.now)) w.w-is
          ∙ ap outcome (sym (point-no a.minus a.w a.count s h (not-class Point _ w.class_of.ensures w.in_default.not-Point)))
    ]
