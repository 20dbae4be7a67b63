-- Nothing falls out of the counts: closings, openings, activations and settings under THEN and under ELSE are together the actions that are stored. Assumes nothing.
use Prim.Native.Nat.{ℕ, ◌+◌}
use native.Mathlib.Omega.{arith}
use mathlib.Core.Path.{◌≡◌, refl}
use mathlib.Core.Bool.{Bool, true, false, ◌&&◌, not}
use mathlib.Core.List.{List, [], ◌∷◌}
use lib.ListN.{get_or}
use Rattle.scope.specs.Records.{Network, Clause, condition, action, Action, no_rule}
use Rattle.scope.specs.declared.LinkStatus.TheVariants.{Open, Closed, Active}
use Rattle.scope.specs.declared.Value.{Value}
use Rattle.scope.specs.declared.Value.TheVariants.{Number, Status}
use Rattle.std.specs.Prelude.{Option, None, Some}
use Rattle.sheet_actions.specs.declared.Moves.{Moves}
use Rattle.sheet_actions.specs.Steps.{is_at}
use Rattle.sheet_moves.specs.Moves.{closes, opens, activates, sets, chosen, one_if, how_many, moves_of, clauses_of, rule_moves, link_moves, all_moves}

abbrev pub total : Moves → ℕ
total n = n.closes + n.opens + n.activates + n.sets

-- the actions of any link, or of one
abbrev pub actions_of : Option ℕ → List Clause → ℕ
actions_of which cs = how_many (λ a. is_at which a.link) cs

-- ---- an action does one of the four things
one-kind : (t : Bool) (v : Value) → one_if (t && closes v) + one_if (t && opens v) + one_if (t && activates v) + one_if (t && sets v) ≡ one_if t
one-kind false v = refl
one-kind true (Status Closed) = refl
one-kind true (Status Open) = refl
one-kind true (Status Active) = refl
one-kind true (Number x) = refl

pub kinds-counted : (meant : Action → Bool) (cs : List Clause) → total (moves_of meant cs) ≡ how_many meant cs
unfolding how_many
kinds-counted meant [] = refl
kinds-counted meant (condition c ∷ cs) = kinds-counted meant cs
kinds-counted meant (action a ∷ cs) = omega (arith, one-kind (meant a) a.value, kinds-counted meant cs)

-- ---- an action stands under THEN or under ELSE
one-branch : (otherwise t : Bool) → one_if (not otherwise && t) + one_if (otherwise && t) ≡ one_if t
one-branch false false = refl
one-branch false true = refl
one-branch true false = refl
one-branch true true = refl

branches-counted : (which : Option ℕ) (cs : List Clause) → how_many (chosen which false) cs + how_many (chosen which true) cs ≡ actions_of which cs
unfolding how_many
branches-counted which [] = refl
branches-counted which (condition c ∷ cs) = branches-counted which cs
branches-counted which (action a ∷ cs) = omega (arith, one-branch a.otherwise (is_at which a.link), branches-counted which cs)

pub all-counted : (which : Option ℕ) (cs : List Clause) → total (moves_of (chosen which false) cs) + total (moves_of (chosen which true) cs) ≡ actions_of which cs
all-counted which cs = omega (arith, kinds-counted (chosen which false) cs, kinds-counted (chosen which true) cs, branches-counted which cs)

-- ---- of a rule, of a link, of all rules
pub rule-counted : (m : Network) (i : ℕ) → total (rule_moves m i false) + total (rule_moves m i true) ≡ actions_of None (clauses_of m (get_or m.rules i no_rule))
rule-counted m i = all-counted None (clauses_of m (get_or m.rules i no_rule))

pub link-counted : (m : Network) (i : ℕ) → total (link_moves m i false) + total (link_moves m i true) ≡ actions_of (Some i) m.clauses
link-counted m i = all-counted (Some i) m.clauses

pub rules-counted : (m : Network) → total (all_moves m false) + total (all_moves m true) ≡ actions_of None m.clauses
rules-counted m = all-counted None m.clauses
