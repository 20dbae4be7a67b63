-- `leaf_digits::leading` meets its contract. Assumes nothing.
use mathlib.Core.Path.{◌≡◌, sym, ap, ◌∙◌}
use mathlib.Core.Bool.{true}
use mathlib.Core.List.{List, []}
use Prim.Native.Nat.{ℕ, ◌<◌, ◌+◌, ◌-◌, ◌*◌, min}
use native.Mathlib.Omega.{arith}
use lib.ListN.{length, drop, get_or}
use Rattle.leaf_digits.specs.Bytes.{is}
use Rattle.leaf_digits.specs.Digits.{digits, value}
use Rattle.leaf_digits.specs.declared.Class.TheVariants.{Digit}
use Rattle.leaf_digits.proofs.Classes.{digit-range}
use Rattle.leaf_digits.proofs.Digits.{digits_step, digits-stop, digits-end, value-nil, value-cons, capped}
use Rattle.leaf_digits.specs.Cap.{cap}
use Rattle.leaf_digits.proofs.leading.Invariants.{Known}
use Rattle.leaf_digits.proofs.leading.Goals as goal

stopped : (s : List ℕ) (start i v : ℕ) → Known s start i v → digits (drop i s) ≡ [] → (i ≡ length (digits s)) × (v ≡ min (value start (digits s)) cap)
stopped s start i v k e =
    let m : min v cap ≡ min (value start (digits s)) cap = ap (λ (x : ℕ). min x cap) (sym (value-nil v)) ∙ ap (λ (l : List ℕ). min (value v l) cap) (sym e) ∙ k.2 in
    (omega (arith, ap length e, k.1), omega (arith, m, k.0))

again : (s : List ℕ) (start i v x : ℕ) → Known s start i v → i < length s → is Digit (get_or s i 0) ≡ true → x ≡ min (v * 10 + (get_or s i 0 - 48)) cap → Known s start (i + 1) x
again s start i v x k h e q =
    let d = digits_step s i h e in
    let ds = digits (drop (i + 1) s) in
    let b = get_or s i 0 in (
      omega arith,
      omega (arith, ap length d, k.1),
      ap (λ (y : ℕ). min (value y ds) cap) q ∙ capped (v * 10 + (b - 48)) ds ∙ ap (λ (y : ℕ). min y cap) (sym (value-cons v b ds)) ∙ ap (λ (l : List ℕ). min (value v l) cap) (sym d) ∙ k.2,
    )

pub returns-then-not-is_digit : goal.returns-then-not-is_digit
returns-then-not-is_digit c =
    stopped _ _ _ _ c.loop-i.invariant (digits-stop _ c.loop-i.i c.loop-i-test.true (sym c.is_digit.ensures ∙ c.if-not-is_digit.true))

pub extended-v-requires : goal.extended-v-requires
extended-v-requires c = digit-range _ (sym c.is_digit.ensures ∙ c.if-not-is_digit.false)

pub loop-i-preserved : goal.loop-i-preserved
loop-i-preserved c =
    again _ _ _ _ _ c.loop-i.invariant c.loop-i-test.true (sym c.is_digit.ensures ∙ c.if-not-is_digit.false) c.extended-v.ensures

pub returns : goal.returns
returns c = let h = stopped _ _ _ _ c.loop-i.invariant (digits-end _ c.loop-i.i c.loop-i-test.false) in (omega (arith, h.0), h.1)
