-- How many places each record takes in the two tables: what the layout says. Assumes nothing.
use Rattle.std.specs.Prelude.{None, Option, Some}
use Prim.Native.Nat.{ℕ, suc}
use native.Mathlib.Omega.{arith}
use mathlib.Core.Path.{◌≡◌, refl, ap}
use mathlib.Core.List.{[], ◌∷◌, ◌++◌}
use lib.ListN.{length, length-append}
use Rattle.leaf_fields.specs.Fields.{Name}
use Rattle.scope.specs.Records.{Node, NodeKind, junction, reservoir, tank, Place, Link, LinkKind, pipe, pump, valve, Demand, Rule, Clause, condition, action}
use Rattle.scope.specs.Tables.{name_words, count_words, flag, index_no, kind_words, kind_numbers, placed, place_numbers, node_words, node_numbers, link_kind_words}
use Rattle.scope.specs.Tables.{link_words, link_numbers_of, link_numbers, demand_words, rule_words, clause_words, clause_numbers}
use Rattle.scope.specs.Layout.{name_width, times_width, nodes_width, node_numbers_width, links_width, link_numbers_width, demands_width, rules_width, clauses_width, clause_numbers_width}

pub name-long : (n : Option Name) → length (name_words n) ≡ name_width
name-long None = refl
name-long (Some n) = refl

-- a name that may be missing, before one word more
name-and : (n : Option Name) (x : ℕ) → length (name_words n ++ (x ∷ [])) ≡ 3
name-and None x = refl
name-and (Some n) x = refl

pub count_long : (n : Option ℕ) → length (count_words n) ≡ times_width
count_long None = refl
count_long (Some n) = refl

-- ---- nodes
pub kind-long : (k : NodeKind) → length (kind_words k) ≡ 4
kind-long (junction j) = refl
kind-long (reservoir r) = ap suc (name-and r.pattern (index_no r.index))
kind-long (tank t) = ap suc (name-and t.curve (flag t.overflow))

pub kind-numbers-long : (k : NodeKind) → length (kind_numbers k) ≡ 6
kind-numbers-long (junction j) = refl
kind-numbers-long (reservoir r) = refl
kind-numbers-long (tank t) = refl

place-long : (p : Option Place) → length (place_numbers p) ≡ 2
place-long None = refl
place-long (Some p) = refl

pub node-long : (n : Node) → length (node_words n) ≡ nodes_width
node-long n =
    let h : length (kind_words n.kind ++ (placed n.place ∷ [])) ≡ 5 = omega (arith, length-append (kind_words n.kind) (placed n.place ∷ []), kind-long n.kind) in
    ap (λ k. suc (suc (suc k))) h

pub node-numbers-long : (n : Node) → length (node_numbers n) ≡ node_numbers_width
node-numbers-long n = omega (arith, length-append (kind_numbers n.kind) (place_numbers n.place), kind-numbers-long n.kind, place-long n.place)

-- ---- links
pub link-kind-long : (k : LinkKind) → length (link_kind_words k) ≡ 4
link-kind-long (pipe p) = refl
link-kind-long (pump p) = ap (λ n. suc (suc n)) (name-long p.head)
link-kind-long (valve v) = ap (λ n. suc (suc n)) (name-long v.curve)

pub link-long : (l : Link) → length (link_words l) ≡ links_width
link-long l = ap (λ n. suc (suc (suc (suc (suc n))))) (link-kind-long l.kind)

link-kind-numbers-long : (k : LinkKind) → length (link_numbers_of k) ≡ link_numbers_width
link-kind-numbers-long (pipe p) = refl
link-kind-numbers-long (pump p) = refl
link-kind-numbers-long (valve v) = refl

pub link-numbers-long : (l : Link) → length (link_numbers l) ≡ link_numbers_width
link-numbers-long l = link-kind-numbers-long l.kind

-- ---- demands, rules and clauses
pub demand-long : (d : Demand) → length (demand_words d) ≡ demands_width
demand-long d = ap (λ n. suc (suc n)) (name-and d.pattern (index_no d.index))

pub rule-long : (r : Rule) → length (rule_words r) ≡ rules_width
rule-long r = ap (λ n. suc (suc (suc (suc (suc n))))) (count_long r.priority)

pub clause-long : (c : Clause) → length (clause_words c) ≡ clauses_width
clause-long (condition c) = ap (λ n. suc (suc (suc (suc (suc n))))) (name-long c.name)
clause-long (action a) = refl

pub clause-numbers-long : (c : Clause) → length (clause_numbers c) ≡ clause_numbers_width
clause-numbers-long (condition c) = refl
clause-numbers-long (action a) = refl
