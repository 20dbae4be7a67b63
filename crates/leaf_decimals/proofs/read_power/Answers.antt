-- `leaf_decimals::read_power` meets its contract. Assumes nothing.
use mathlib.Core.Path.{◌≡◌, sym, ap, ◌∙◌, subst}
use mathlib.Core.Bool.{Bool}
use mathlib.Core.List.{List}
use Prim.Native.Nat.{ℕ, ◌+◌, ◌<◌, ◌≤◌, min}
use native.Mathlib.Omega.{arith}
use mathlib.Core.Logic.{⊎_elim}
use Rattle.leaf_decimals.proofs.Whole.{le-or-lt}
use lib.ListN.{length}
use Rattle.leaf_decimals.specs.Reach.{meaning}
use Rattle.leaf_digits.specs.Cap.{cap}
use Rattle.leaf_digits.specs.Digits.{digits, value}
use Rattle.leaf_decimals.proofs.Meaning.{meaning-cap-up, meaning-cap-down}
use Rattle.leaf_decimals.proofs.Reading.{power-none, power-more, power-back, power-forth}
use Rattle.leaf_decimals.proofs.read_power.Goals.{then-back, else-back}
use Rattle.leaf_decimals.proofs.read_power.Goals as goal

-- past 22 the power is beyond reach, and 23 says so
back-law : (minus : Bool) (w x frac v : ℕ) → v ≡ min x cap → meaning minus w 0 (frac + min v 23) ≡ meaning minus w 0 (frac + x)
back-law minus w x frac v e = ⊎_elim
    (λ h. let k : min v 23 ≡ x = omega arith in ap (λ (n : ℕ). meaning minus w 0 (frac + n)) k)
    (λ h. let k : min v 23 ≡ 23 = omega arith in ap (λ (n : ℕ). meaning minus w 0 (frac + n)) k ∙ meaning-cap-down minus w x frac (omega arith))
    (le-or-lt v 22)

pub returns-then-n-eq0 : goal.returns-then-n-eq0
returns-then-n-eq0 c =
    let s : List ℕ = c.args.s.now in
    let l = c.leading-d.ensures.0 in
    ⊎_elim (λ e. sym (power-none _ _ _ _ _ (sym l ∙ e))) (λ h. sym (power-more _ _ _ _ s (subst (λ (n : ℕ). n < length s) l h.1))) c.then-n-eq0.either

pub returns : goal.returns
returns c =
    let a = c.args in
    let s : List ℕ = a.s.now in
    let l = c.leading-d.ensures in
    let all : length s ≤ length (digits s) = subst (λ (n : ℕ). length s ≤ n) l.0 c.if-n-s.false in
    c.valued.ensures ∙ elim c.if-back.branch [
      | then-back w ↦
          ap (λ p. meaning a.minus a.w p.0 p.1) w.up-is
          ∙ ap (λ (n : ℕ). meaning a.minus a.w 0 (a.frac + n)) w.min.ensures
          ∙ back-law _ _ (value 0 (digits s)) _ _ l.1
          ∙ sym (power-back _ _ _ s (λ e. c.if-n-eq0.false (l.0 ∙ e)) all _ w.if-back.true)
      | else-back w ↦
          ap (λ p. meaning a.minus a.w p.0 p.1) w.up-is
          ∙ ap (λ (x : ℕ). meaning a.minus a.w x a.frac) l.1
          ∙ meaning-cap-up _ _ (value 0 (digits s)) _ c.requires
          ∙ sym (power-forth _ _ _ s (λ e. c.if-n-eq0.false (l.0 ∙ e)) all _ w.if-back.false)
    ]
