-- No second answer fits: two answers of `read_names`, of `read_pipe` or of `read_valve` that fit one line are the same, the places of the names too. Assumes nothing.
use Rattle.parse_pipes.specs.declared.LinkLine.{LinkLine}
use Rattle.scope.specs.declared.Reason.{Reason}
use Rattle.std.specs.Prelude.{Err, Ok, Result}
use Prim.Native.Nat.{ℕ}
use native.Mathlib.Omega.{arith}
use mathlib.Core.Path.{◌≡◌, ap}
use mathlib.Core.List.{List}
use lib.ListN.{length}
use Rattle.leaf_fields.specs.Fields.{Name, name_in}
use Rattle.leaf_fields.proofs.FieldLaws.{span-once, opt-once}
use Rattle.scope.specs.declared.Pump.{Pump}
use Rattle.scope.specs.declared.LinkKind.{LinkKind}
use Rattle.scope.specs.declared.LinkKind.TheVariants as kind
use Rattle.scope.specs.Records as records
use Rattle.scope.specs.Values.{Read}
use Rattle.scope.specs.Links.{LinkFields}
use Rattle.parse_fields.specs.Taking.{MayFit}
use Rattle.parse_fields.proofs.Once.{read-once}
use Rattle.parse_pipes.specs.Lines.{NamesFit, NamesAs, pipe_in, pump_in, valve_in, kind_in, KindFits, LinkAs}
use Rattle.parse_pipes.specs.declared.LinkNames.{LinkNames}

-- ---- the id and the two nodes
three : (l : List ℕ) {a b : LinkNames} → NamesFit l a → NamesFit l b
    → name_in l a.id ≡ name_in l b.id → name_in l a.start ≡ name_in l b.start → name_in l a.end ≡ name_in l b.end → a ≡ b
three l n m p q r = λ i. record { id = span-once l n.id m.id p i; start = span-once l n.start m.start q i; end = span-once l n.end m.end r i }

pub names-once : (l : List ℕ) (fs : List Name) (r s : Result LinkNames Reason) → NamesAs l fs r → NamesAs l fs s → r ≡ s
names-once l fs (Ok a) (Ok b) (e, n) (f, m) = ap Ok (three l n m (cc) (cc) (cc))
names-once l fs (Ok a) (Err why) (e, n) (is, f) = absurd (omega (arith, ap length e, f))
names-once l fs (Err why) (Ok b) (is, e) (f, m) = absurd (omega (arith, ap length f, e))
names-once l fs (Err why) (Err also) (is, e) (same, f) = cc

-- ---- what kind a link is
pub pump-same : (l : List ℕ) (p q : Pump) → MayFit l p.head → MayFit l q.head → pump_in l p ≡ pump_in l q → p ≡ q
pump-same l p q m n h = λ i. record { speed = (h i).speed; head = opt-once l p.head q.head m n (ap records.Pump.head h) i; power = (h i).power }

kind-same : (l : List ℕ) (k j : LinkKind) → KindFits l k → KindFits l j → kind_in l k ≡ kind_in l j → k ≡ j
kind-same l (kind.Pipe p) (kind.Pipe q) m n e =
    let h : pipe_in p ≡ pipe_in q = cc in
    λ i. kind.Pipe (record { long = (h i).long; diameter = (h i).diameter; roughness = (h i).roughness; minor = (h i).minor; status = (h i).status })
kind-same l (kind.Pump p) (kind.Pump q) m n e = ap kind.Pump (pump-same l p q m n (cc))
kind-same l (kind.Valve v) (kind.Valve w) m n e =
    let h : valve_in l v ≡ valve_in l w = cc in
    λ i. kind.Valve (record {
      valve_type = (h i).type;
      diameter = (h i).diameter;
      setting = (h i).setting;
      minor = (h i).minor;
      curve = opt-once l v.curve w.curve m n (ap records.Valve.curve h) i;
    })
kind-same l (kind.Pipe p) (kind.Pump q) m n e = cc
kind-same l (kind.Pipe p) (kind.Valve q) m n e = cc
kind-same l (kind.Pump p) (kind.Pipe q) m n e = cc
kind-same l (kind.Pump p) (kind.Valve q) m n e = cc
kind-same l (kind.Valve p) (kind.Pipe q) m n e = cc
kind-same l (kind.Valve p) (kind.Pump q) m n e = cc

-- ---- a line of PIPES or VALVES
pub link-once : (l : List ℕ) (o : Read LinkFields) (r s : Result LinkLine Reason) → LinkAs l o r → LinkAs l o s → r ≡ s
link-once l = read-once (λ x y (n, k) (m, j) h. λ i. record {
  names = three l n m (ap LinkFields.id h) (ap LinkFields.start h) (ap LinkFields.end h) i;
  kind = kind-same l x.kind y.kind k j (ap LinkFields.kind h) i;
})
