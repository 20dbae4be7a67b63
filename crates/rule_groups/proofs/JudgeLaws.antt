-- The group of a sketch judged: each refusal in its order, and else the group is taken. Assumes nothing.
use Rattle.std.specs.Prelude.{Err, None, Option, Some, is_some}
use Rattle.std.specs.Option.{ok_or}
use Prim.Native.Nat.{ℕ, ◌+◌, ◌≤◌, ◌<◌}
use borrow.Author.Tests.{lt-ltb, le-ltb, le-leb, lt-leb}
use mathlib.Core.Path.{◌≡◌, refl, ap, ◌∙◌, subst}
use mathlib.Core.Bool.{Bool, true, false, not}
use mathlib.Core.List.{List}
use lib.ListN.{length}
use Rattle.leaf_fields.specs.Fields.{part, name_in}
use Rattle.leaf_fields.specs.declared.Span.{Span}
use Rattle.scope.specs.declared.Reason.{Reason}
use Rattle.scope.specs.declared.Reason.TheVariants.{Used, NoCondition, NoAction, NoId, NoRoom}
use Rattle.scope.specs.Records.{Network, rule_ids, lookup}
use Rattle.scope.specs.Values.{bad}
use Rattle.scope.specs.Rules.{Draft, add_rule, judged}
use Rattle.scope.specs.Sections.{room_rules, room_clauses}
use Rattle.rule_clauses.specs.Clauses.{opt_in, MayFit}
use Rattle.rule_groups.specs.declared.Sketch.{Sketch}
use Rattle.rule_groups.specs.Sketches.{Sketched, Fine}

is_false : (t : Bool) → not t ≡ true → t ≡ false
is_false true e = cc
is_false false e = refl

is_true : (t : Bool) → not t ≡ false → t ≡ true
is_true true e = refl
is_true false e = cc

some_is : {A : Type 0} (f : Option A) → is_some f ≡ true → (x : A) × (f ≡ Some x)
some_is (Some x) e = (x, refl)
some_is None e = cc

none_is : {A : Type 0} (f : Option A) → is_some f ≡ false → f ≡ None
none_is (Some x) e = cc
none_is None e = refl

module _ {text : List ℕ} {d : Draft} {q : Sketch} (k : Sketched text d q) (m : Network) where
  pub no-condition : not q.conditions ≡ true → judged d m ≡ bad NoCondition
  unfolding judged
  no-condition e = rw (k.conditions ∙ is_false q.conditions e)

  module _ (has_condition : not q.conditions ≡ false) where
    ec : q.conditions ≡ true
    ec = is_true q.conditions has_condition

    pub no-action : not q.actions ≡ true → judged d m ≡ bad NoAction
    unfolding judged
    no-action e = rw (k.conditions ∙ ec, k.actions ∙ is_false q.actions e)

    module _ (has_action : not q.actions ≡ false) where
      ea : q.actions ≡ true
      ea = is_true q.actions has_action

      pub no-id : (why : Reason) → Err why ≡ ok_or q.id NoId → judged d m ≡ bad why
      unfolding judged
      no-id why = go q.id refl
        where
          go : (f : Option Span) → q.id ≡ f → Err why ≡ ok_or f NoId → judged d m ≡ bad why
          go None e h = let z : NoId ≡ why = cc in rw (k.conditions ∙ ec, k.actions ∙ ea, k.id ∙ ap (opt_in text) e, z)
          go (Some id) e h = cc

      module _ (id : Span) (ei : q.id ≡ Some id) where
        is-added : judged d m ≡ add_rule (name_in text id) d m
        unfolding judged
        is-added = rw (k.conditions ∙ ec, k.actions ∙ ea, k.id ∙ ap (opt_in text) ei)

        pub used : is_some (lookup (rule_ids m) (part id.at id.end text)) ≡ true → judged d m ≡ bad Used
        unfolding add_rule
        used e = let (i, q) = some_is (lookup (rule_ids m) (part id.at id.end text)) e in is-added ∙ rw q

        module _ (unused : is_some (lookup (rule_ids m) (part id.at id.end text)) ≡ false) where
          free : lookup (rule_ids m) (part id.at id.end text) ≡ None
          free = none_is (lookup (rule_ids m) (part id.at id.end text)) unused

          pub rules-full : room_rules ≤ length m.rules → judged d m ≡ bad NoRoom
          unfolding add_rule
          rules-full h = is-added ∙ rw (free, le-ltb (length m.rules) room_rules h)

          pub clauses-full : length m.rules < room_rules → room_clauses < length m.clauses + length d.clauses → judged d m ≡ bad NoRoom
          unfolding add_rule
          clauses-full h h2 = is-added ∙ rw (free, lt-ltb (length m.rules) room_rules h, lt-leb (length m.clauses + length d.clauses) room_clauses h2)

          pub rule_fits : length m.rules < room_rules → length m.clauses + length d.clauses ≤ room_clauses → Fine text d m (judged d m) id
          unfolding add_rule
          rule_fits h h2 = record {
            whole = is-added ∙ rw (free, lt-ltb (length m.rules) room_rules h, le-leb (length m.clauses + length d.clauses) room_clauses h2);
            fits = subst (λ (f : Option Span). MayFit text f) ei k.fit;
            rules = h;
            clauses = h2;
          }
