-- The loop's count is the definition's. Assumes nothing.
use Prim.Native.Nat.{ℕ, suc, ◌+◌, ◌-◌, ◌≤◌, ◌<◌}
use native.Mathlib.Omega.{arith}
use native.Mathlib.Numerals.{add-one}
use mathlib.Core.Path.{◌≡◌, refl, sym, ap, ◌∙◌}
use mathlib.Core.Bool.{Bool, true, false, cond, ◌&&◌}
use mathlib.Core.Logic.{inl, inr}
use mathlib.Core.List.{List, [], ◌∷◌, ◌++◌}
use lib.ListN.{length, get_or, take, drop, length-drop}
use lib.Seq.{take-suc, take_all, get_or-drop}
use Rattle.leaf_decimals.proofs.Whole.{le-or-lt}
use Rattle.scope.specs.Records.{Network, Clause, condition, action, Action, no_rule, no_clause}
use Rattle.scope.specs.declared.LinkStatus.TheVariants.{Open, Closed, Active}
use Rattle.scope.specs.declared.Value.{Value}
use Rattle.scope.specs.declared.Value.TheVariants.{Number, Status}
use Rattle.stored_records.specs.Back.{clause_back, rule_back}
use Rattle.stored_records.specs.declared.Rule as ruleOut
use Rattle.stored_records.specs.declared.Clause as clauseOut
use Rattle.stored_records.specs.declared.Clause.TheVariants as clauseIs
use Rattle.std.specs.Prelude.{Option, None}
use Rattle.sheet_actions.specs.declared.Moves.{Moves}
use Rattle.sheet_actions.specs.Steps.{is_branch, is_at, Few, with_move, with_clause}
use Rattle.sheet_moves.specs.Moves.{closes, opens, activates, sets, chosen, one_if, how_many, moves_of, rule_moves, made_at, made_below}

-- ---- equal counts
abbrev moves : ℕ → ℕ → ℕ → ℕ → Moves
moves a b c d = record { closes = a; opens = b; activates = c; sets = d }

pub moves-eq : {a b c d a' b' c' d' : ℕ} → a ≡ a' → b ≡ b' → c ≡ c' → d ≡ d' → moves a b c d ≡ moves a' b' c' d'
moves-eq p q r s = cc

-- ---- one clause more
pub how-many-append : (asked : Action → Bool) (xs ys : List Clause) → how_many asked (xs ++ ys) ≡ how_many asked xs + how_many asked ys
unfolding how_many
how-many-append asked [] ys = omega arith
how-many-append asked (condition c ∷ xs) ys = how-many-append asked xs ys
how-many-append asked (action a ∷ xs) ys = omega (arith, how-many-append asked xs ys)

one-condition : (asked : Action → Bool) (xs : List Clause) (c : _) → how_many asked (xs ++ (condition c ∷ [])) ≡ how_many asked xs
unfolding how_many
one-condition asked xs c = omega (arith, how-many-append asked xs (condition c ∷ []))

one-action : (asked : Action → Bool) (xs : List Clause) (a : Action) → how_many asked (xs ++ (action a ∷ [])) ≡ how_many asked xs + one_if (asked a)
unfolding how_many
one-action asked xs a = omega (arith, how-many-append asked xs (action a ∷ []))

with_it : (t : Bool) (v : Value) (n : Moves)
    → moves (n.closes + one_if (t && closes v)) (n.opens + one_if (t && opens v)) (n.activates + one_if (t && activates v)) (n.sets + one_if (t && sets v)) ≡ cond t (with_move n v) n
with_it false v n = moves-eq (omega arith) (omega arith) (omega arith) (omega arith)
with_it true (Status Closed) n = moves-eq refl (omega arith) (omega arith) (omega arith)
with_it true (Status Open) n = moves-eq (omega arith) refl (omega arith) (omega arith)
with_it true (Status Active) n = moves-eq (omega arith) (omega arith) refl (omega arith)
with_it true (Number x) n = moves-eq (omega arith) (omega arith) (omega arith) refl

one_more : (which : Option ℕ) (otherwise : Bool) (xs : List Clause) (x : Clause)
    → moves_of (chosen which otherwise) (xs ++ (x ∷ [])) ≡ with_clause which otherwise (moves_of (chosen which otherwise) xs) (clause_back x)
one_more which otherwise xs (condition c) = moves-eq (one-condition _ xs c) (one-condition _ xs c) (one-condition _ xs c) (one-condition _ xs c)
one_more which otherwise xs (action a) =
    moves-eq (one-action _ xs a) (one-action _ xs a) (one-action _ xs a) (one-action _ xs a) ∙ with_it (chosen which otherwise a) a.value (moves_of (chosen which otherwise) xs)

-- ---- the loop
module _ (which : Option ℕ) (otherwise : Bool) (cs : List Clause) (first : ℕ) where
  abbrev pub sofar : ℕ → Moves
  sofar k = moves_of (chosen which otherwise) (take (k - first) (drop first cs))

  pub none_yet : moves 0 0 0 0 ≡ sofar first
  unfolding how_many
  none_yet = let z : first - first ≡ 0 = omega arith in rw z

  pub then-one-more : (k : ℕ) (n : Moves) → first ≤ k → k < length cs → n ≡ sofar k → with_clause which otherwise n (clause_back (get_or cs k no_clause)) ≡ sofar (k + 1)
  then-one-more k n low high e =
      let next : (k + 1) - first ≡ suc (k - first) = omega arith in
      let here : first + (k - first) ≡ k = omega arith in
      rw (next, take-suc (drop first cs) (k - first) no_clause (omega (arith, length-drop first cs)), get_or-drop first cs (k - first) no_clause, here)
      (rw e (sym (one_more which otherwise (take (k - first) (drop first cs)) (get_or cs k no_clause))))

  pub all-of-them : (k end : ℕ) {n : Moves} → k - first ≡ end - first → n ≡ sofar k → n ≡ sofar end
  all-of-them k end same e = rw same at e

-- ---- how large the counts are
pub few-none : (k : ℕ) → Few k (moves 0 0 0 0)
few-none k = record { closes = omega arith; opens = omega arith; activates = omega arith; sets = omega arith }

pub few-within : {k l : ℕ} {n : Moves} → k ≤ l → Few k n → Few l n
few-within le h = record { closes = omega arith; opens = omega arith; activates = omega arith; sets = omega arith }

few-with : (t : Bool) (v : Value) {k : ℕ} {n : Moves} → Few k n → Few (k + 1) (cond t (with_move n v) n)
few-with false v h = record { closes = omega arith; opens = omega arith; activates = omega arith; sets = omega arith }
few-with true (Status Closed) h = record { closes = omega arith; opens = omega arith; activates = omega arith; sets = omega arith }
few-with true (Status Open) h = record { closes = omega arith; opens = omega arith; activates = omega arith; sets = omega arith }
few-with true (Status Active) h = record { closes = omega arith; opens = omega arith; activates = omega arith; sets = omega arith }
few-with true (Number x) h = record { closes = omega arith; opens = omega arith; activates = omega arith; sets = omega arith }

pub few-more : (which : Option ℕ) (otherwise : Bool) (x : clauseOut.Clause) {k : ℕ} {n : Moves} → Few k n → Few (k + 1) (with_clause which otherwise n x)
few-more which otherwise (clauseIs.Condition c) h = few-within (omega arith) h
few-more which otherwise (clauseIs.Action a) h = few-with (is_branch otherwise a.otherwise && is_at which a.link) a.value h

-- ---- all clauses, and those of a rule
pub whole : (which : Option ℕ) (otherwise : Bool) (cs : List Clause) {n : ℕ} → n ≡ length cs → sofar which otherwise cs 0 n ≡ moves_of (chosen which otherwise) cs
whole which otherwise cs {n} e = rw (take_all (n - 0) cs (omega arith))

rule-part : (cs : List Clause) (first count end : ℕ) → (length cs - first ≤ count → end ≡ length cs) → (count ≤ length cs - first → end - first ≡ count)
    → take (end - first) (drop first cs) ≡ take count (drop first cs)
rule-part cs first count end all some =
    elim (le-or-lt (length cs - first) count) [
      | inl h ↦ take_all (end - first) (drop first cs) (omega (arith, all h, length-drop first cs)) ∙ sym (take_all count (drop first cs) (omega (arith, length-drop first cs)))
      | inr h ↦ ap (λ (n : ℕ). take n (drop first cs)) (some (omega arith))
    ]

pub rule-is : (m : Network) (i : ℕ) (otherwise : Bool) {r : ruleOut.Rule} {all end : ℕ} → r ≡ rule_back (get_or m.rules i no_rule) → all ≡ length m.clauses
    → (all - r.first ≤ r.count → end ≡ all) → (r.count ≤ all - r.first → end - r.first ≡ r.count) → sofar None otherwise m.clauses r.first end ≡ rule_moves m i otherwise
rule-is m i otherwise {r} {all} {end} e long full short =
    rw (rule-part m.clauses r.first r.count end (rw long at full) (rw long at short)) (rw e)

-- ---- what a crew does
pub made_none : (m : Network) → 0 ≡ made_below m 0
unfolding made_below
made_none m = refl

pub made-next : (m : Network) (i : ℕ) {n r : ℕ} → n ≡ made_below m i → r ≡ made_at m i → n + r ≡ made_below m (i + 1)
unfolding made_below
made-next m i p q = rw (add-one, p, q)

pub made_all : (m : Network) {i : ℕ} → i ≡ length m.links → made_below m i ≡ made_below m (length m.links)
made_all m e = rw e
