-- `rule_groups::judge_group` meets its contract. Assumes nothing.
use Rattle.std.specs.Prelude.{Option, is_some}
use Prim.Native.Nat.{ℕ}
use mathlib.Core.Path.{◌≡◌, sym, ap, ◌∙◌}
use mathlib.Core.Bool.{false}
use Rattle.leaf_fields.specs.Fields.{part}
use native.Mathlib.Omega.{arith}
use Rattle.scope.specs.Records.{rule_ids, lookup, with_clauses}
use Rattle.rule_clauses.proofs.ClauseLaws.{handed-on}
use Rattle.rule_groups.proofs.JudgeLaws.{no-condition, no-action, no-id, used, rules-full, clauses-full, rule_fits}
use Rattle.rule_groups.proofs.judge_group.Goals as goal
use Rattle.rule_groups.proofs.judge_group.Goals.{then-s-ge-RULES_MOST-via-then-s-ge-RULES_MOST, then-s-ge-RULES_MOST-via-else-s-ge-RULES_MOST+then-s-q}

pub returns-then-not-q : goal.returns-then-not-q
returns-then-not-q c = λ m cs d w er ec sk. no-condition sk m c.if-not-q.true

pub returns-then-not-q-2 : goal.returns-then-not-q-2
returns-then-not-q-2 c = λ m cs d w er ec sk. no-action sk m c.if-not-q.false c.if-not-q-2.true

pub returns-in_err-id : goal.returns-in_err-id
returns-in_err-id c = λ m cs d w er ec sk. rw (handed-on c.from_residual.ensures) (no-id sk m c.if-not-q.false c.if-not-q-2.false _ c.in_err-id.ensures.value)

pub returns-then-is_some : goal.returns-then-is_some
returns-then-is_some c =
    λ m cs d w er ec sk. used sk m c.if-not-q.false c.if-not-q-2.false c.in_ok-id.id c.in_ok-id.ensures.ok_part
    (ap (λ (x : Option ℕ). is_some x) (ap (lookup (rule_ids m)) (sym c.letters_of.ensures) ∙ sym (c.find_named-used.ensures (with_clauses cs m) w er))
    ∙ sym c.is_some.ensures ∙ c.if-is_some.true)

pub returns-then-s-ge-RULES_MOST : goal.returns-then-s-ge-RULES_MOST
returns-then-s-ge-RULES_MOST c = λ m cs d w er ec sk.
    let unused : is_some (lookup (rule_ids m) (part c.in_ok-id.id.at c.in_ok-id.id.end c.args.text.now)) ≡ false = ap (λ (x : Option ℕ). is_some x) (ap (lookup (rule_ids m)) (sym c.letters_of.ensures) ∙ sym (c.find_named-used.ensures (with_clauses cs m) w er))
    ∙ sym c.is_some.ensures ∙ c.if-is_some.false in
    elim c.then-s-ge-RULES_MOST.branch [
      | then-s-ge-RULES_MOST-via-then-s-ge-RULES_MOST b ↦ rules-full sk m c.if-not-q.false c.if-not-q-2.false c.in_ok-id.id c.in_ok-id.ensures.ok_part unused (omega (arith, b.if-s-ge-RULES_MOST.true, er))
      | then-s-ge-RULES_MOST-via-else-s-ge-RULES_MOST+then-s-q b ↦ clauses-full sk m c.if-not-q.false c.if-not-q-2.false c.in_ok-id.id c.in_ok-id.ensures.ok_part unused
          (omega (arith, b.if-s-ge-RULES_MOST.false, er)) (omega (arith, b.if-s-q.true, ec, sk.long, c.requires.3))
    ]

pub returns : goal.returns
returns c = λ m cs d w er ec sk.
    rule_fits sk m c.if-not-q.false c.if-not-q-2.false c.in_ok-id.id c.in_ok-id.ensures.ok_part
    (ap (λ (x : Option ℕ). is_some x) (ap (lookup (rule_ids m)) (sym c.letters_of.ensures) ∙ sym (c.find_named-used.ensures (with_clauses cs m) w er))
    ∙ sym c.is_some.ensures ∙ c.if-is_some.false)
    (omega (arith, c.if-s-ge-RULES_MOST.false, er)) (omega (arith, c.if-s-q.false, ec, sk.long, c.requires.3))
