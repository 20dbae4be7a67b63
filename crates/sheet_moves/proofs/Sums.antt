-- The sums on the crew sheet are its totals: over the rules of a network that is read, and over its links, each of the four counts comes to that of all rules. Assumes nothing.
use Prim.Native.Nat.{ℕ, zero, suc, ◌+◌, ◌≤◌, ◌<◌}
use native.Mathlib.Omega.{arith}
use mathlib.Core.Path.{◌≡◌, refl, sym, ap, ◌∙◌}
use mathlib.Core.Bool.{Bool, true, false, ◌&&◌}
use mathlib.Core.Logic.{inl, inr}
use mathlib.Core.List.{List, [], ◌∷◌}
use lib.ListN.{length, get_or, take, drop}
use lib.Dec.{eqb}
use lib.Seq.{take-add, take-length}
use borrow.Author.Tests.{eq-eqb, ne_eqb}
use Rattle.leaf_decimals.proofs.Whole.{le-or-lt}
use Rattle.scope_lines.specs.Text.{Each, nothing, each}
use Rattle.scope.specs.Records.{Network, Rule, Clause, condition, action, Action, no_rule}
use Rattle.scope.specs.declared.Value.{Value}
use Rattle.scope.specs.Reading.{strict_network, survey_network}
use Rattle.std.specs.Prelude.{Option, None, Some}
use Rattle.sheet_actions.specs.Steps.{is_branch}
use Rattle.sheet_moves.specs.Moves.{closes, opens, activates, sets, chosen, one_if, how_many, all_moves}
use Rattle.sheet_moves.specs.Sums.{below, over_rules, over_links}
use Rattle.sheet_moves.proofs.MovesLaws.{moves-eq, how-many-append}
use Rattle.sheet_moves.proofs.Laid.{EndToEnd, ended, goes_on, LinkBelow, Laid, strict-laid, survey-laid}

-- ---- sums
below_none : (n : ℕ) → below (λ i. 0) n ≡ 0
unfolding below
below_none zero = refl
below_none (suc n) = omega (arith, below_none n)

below-first : (f : ℕ → ℕ) (n : ℕ) → below f (suc n) ≡ f 0 + below (λ i. f (suc i)) n
unfolding below
below-first f zero = omega arith
below-first f (suc n) = omega (arith, below-first f n)

below_both : (f g : ℕ → ℕ) (n : ℕ) → below (λ i. f i + g i) n ≡ below f n + below g n
unfolding below
below_both f g zero = refl
below_both f g (suc n) = omega (arith, below_both f g n)

-- ---- over the rules: their clauses, one rule's after another's, are the clauses
module _ (asked : Action → Bool) (cs : List Clause) where
  abbrev in_rule : Rule → ℕ
  in_rule r = how_many asked (take r.count (drop r.first cs))

  abbrev up_to : ℕ → ℕ
  up_to k = how_many asked (take k cs)

  one-rule : (r : Rule) {k : ℕ} → r.first ≡ k → up_to (k + r.count) ≡ up_to k + in_rule r
  one-rule r {k} e =
      ap (how_many asked) (take-add k r.count cs) ∙ how-many-append asked (take k cs) (take r.count (drop k cs))
      ∙ ap (λ (j : ℕ). up_to k + how_many asked (take r.count (drop j cs))) (sym e)

  rules-up-to : (rs : List Rule) {k n : ℕ} → EndToEnd k rs n → up_to k + below (λ i. in_rule (get_or rs i no_rule)) (length rs) ≡ up_to n
  unfolding below
  rules-up-to [] (ended e) = omega (arith, ap up_to e)
  rules-up-to (r ∷ rs) (goes_on e rest) = omega (arith, below-first (λ i. in_rule (get_or (r ∷ rs) i no_rule)) (length rs), one-rule r e, rules-up-to rs rest)

  all-rules : (rs : List Rule) → EndToEnd 0 rs (length cs) → below (λ i. in_rule (get_or rs i no_rule)) (length rs) ≡ how_many asked cs
  unfolding how_many
  all-rules rs e = omega (arith, rules-up-to rs e, ap (how_many asked) (take-length cs))

pub rules-sum : (m : Network) (otherwise : Bool) → Laid m → over_rules m otherwise ≡ all_moves m otherwise
rules-sum m otherwise w =
    let over : (asked : Action → Bool) → below (λ i. in_rule asked m.clauses (get_or m.rules i no_rule)) (length m.rules) ≡ how_many asked m.clauses =
    λ asked. all-rules asked m.clauses m.rules w.rules in
    moves-eq (over _) (over _) (over _) (over _)

-- ---- over the links: each action is of one of them
abbrev hit : Bool → Bool → ℕ → ℕ → ℕ
hit t u link i = one_if ((t && eqb link i) && u)

hit_other : (t u : Bool) (link i : ℕ) → (link ≡ i → ⊥) → hit t u link i ≡ 0
hit_other false u link i h = refl
hit_other true u link i h = rw (ne_eqb link i h)

hit-it : (t u : Bool) (link i : ℕ) → link ≡ i → hit t u link i ≡ one_if ((t && true) && u)
hit-it t u link i h = rw (eq-eqb link i h)

hit-none : (t u : Bool) (link n : ℕ) → n ≤ link → below (hit t u link) n ≡ 0
unfolding below
hit-none t u link zero h = refl
hit-none t u link (suc n) h = omega (arith, hit-none t u link n (omega arith), hit_other t u link n (λ e. omega arith))

hit-once : (t u : Bool) (link n : ℕ) → link < n → below (hit t u link) n ≡ one_if ((t && true) && u)
unfolding below
hit-once t u link zero h = absurd (omega arith)
hit-once t u link (suc n) h =
    elim (le-or-lt n link) [
      | inl le ↦ omega (arith, hit-none t u link n le, hit-it t u link n (omega arith))
      | inr lt ↦ omega (arith, hit-once t u link n lt, hit_other t u link n (λ e. omega arith))
    ]

module _ (otherwise : Bool) (does : Value → Bool) (n : ℕ) where
  abbrev asks : Option ℕ → Action → Bool
  asks which a = chosen which otherwise a && does a.value

  all-links : {cs : List Clause} → Each (LinkBelow n) cs → below (λ i. how_many (asks (Some i)) cs) n ≡ how_many (asks None) cs
  unfolding how_many
  all-links nothing = below_none n
  all-links (each {x = condition c} p rest) = all-links rest
  all-links (each {x = action a} {xs = cs} p rest) =
      below_both (λ i. one_if (asks (Some i) a)) (λ i. how_many (asks (Some i)) cs) n
      ∙ ap (λ (k : ℕ). k + below (λ i. how_many (asks (Some i)) cs) n) (hit-once (is_branch otherwise a.otherwise) (does a.value) a.link n p)
      ∙ ap (λ (k : ℕ). one_if (asks None a) + k) (all-links rest)

pub links-sum : (m : Network) (otherwise : Bool) → Laid m → over_links m otherwise ≡ all_moves m otherwise
links-sum m otherwise w =
    let over : (does : Value → Bool) → _ = λ does. all-links otherwise does (length m.links) w.actions in
    moves-eq (over closes) (over opens) (over activates) (over sets)

-- ---- of every network that a reading makes
pub strict-rules-sum : (text : List ℕ) (otherwise : Bool) → over_rules (strict_network text) otherwise ≡ all_moves (strict_network text) otherwise
strict-rules-sum text otherwise = rules-sum (strict_network text) otherwise (strict-laid text)

pub strict-links-sum : (text : List ℕ) (otherwise : Bool) → over_links (strict_network text) otherwise ≡ all_moves (strict_network text) otherwise
strict-links-sum text otherwise = links-sum (strict_network text) otherwise (strict-laid text)

pub survey-rules-sum : (text : List ℕ) (otherwise : Bool) → over_rules (survey_network text) otherwise ≡ all_moves (survey_network text) otherwise
survey-rules-sum text otherwise = rules-sum (survey_network text) otherwise (survey-laid text)

pub survey-links-sum : (text : List ℕ) (otherwise : Bool) → over_links (survey_network text) otherwise ≡ all_moves (survey_network text) otherwise
survey-links-sum text otherwise = links-sum (survey_network text) otherwise (survey-laid text)
