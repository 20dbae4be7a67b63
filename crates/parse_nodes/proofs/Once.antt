-- No second answer fits: two answers of `read_junction`, of `read_reservoir` or of `read_tank` that fit one line are the same, the places of the names too. Assumes nothing.
use Rattle.parse_nodes.specs.declared.JunctionLine.{JunctionLine}
use Rattle.scope.specs.declared.Reason.{Reason}
use Rattle.std.specs.Prelude.{Result}
use Prim.Native.Nat.{ℕ}
use mathlib.Core.Path.{◌≡◌, ap}
use mathlib.Core.List.{List}
use Rattle.leaf_fields.proofs.FieldLaws.{span-once, opt-once}
use Rattle.scope.specs.Records as records
use Rattle.scope.specs.Records.{Node}
use Rattle.scope.specs.Values.{Read}
use Rattle.scope.specs.Nodes.{JunctionFields}
use Rattle.parse_fields.proofs.Once.{read-once}
use Rattle.parse_nodes.specs.Lines.{JunctionAs, tank_in, node_in, NodeFits, NodeAs}
use Rattle.parse_nodes.specs.declared.NodeLine.{NodeLine}
use Rattle.parse_nodes.specs.declared.NodeLine.TheVariants.{Reservoir, Tank}

pub junction-once : (l : List ℕ) (o : Read JunctionFields) (r s : Result JunctionLine Reason) → JunctionAs l o r → JunctionAs l o s → r ≡ s
junction-once l = read-once (λ x y (k, m) (j, n) h. λ i. record {
  id = span-once l k j (ap JunctionFields.id h) i;
  elevation = (h i).elevation;
  demand = (h i).demand;
  pattern = opt-once l x.pattern y.pattern m n (ap JunctionFields.pattern h) i;
  disabled = (h i).disabled;
})

within : {a b : records.Reservoir} → records.reservoir a ≡ records.reservoir b → a ≡ b
within e = cc

node-same : (l : List ℕ) (x y : NodeLine) → NodeFits l x → NodeFits l y → node_in l x ≡ node_in l y → x ≡ y
node-same l (Reservoir x) (Reservoir y) (k, m) (j, n) h =
    let q = within (ap Node.kind h) in
    λ i. Reservoir (record {
      id = span-once l k j (ap Node.id h) i;
      elevation = (q i).elevation;
      pattern = opt-once l x.pattern y.pattern m n (ap records.Reservoir.pattern q) i;
    })
node-same l (Tank x) (Tank y) (k, m) (j, n) h =
    let t : tank_in l x.tank ≡ tank_in l y.tank = cc (ap Node.kind h) in
    λ i. Tank (record {
      id = span-once l k j (ap Node.id h) i;
      tank = record {
        elevation = (t i).elevation;
        initial = (t i).initial;
        minimum = (t i).minimum;
        maximum = (t i).maximum;
        diameter = (t i).diameter;
        volume = (t i).volume;
        curve = opt-once l x.tank.curve y.tank.curve m n (ap records.Tank.curve t) i;
        overflow = (t i).overflow;
      };
    })
node-same l (Reservoir x) (Tank y) fit also h = cc (ap Node.kind h)
node-same l (Tank x) (Reservoir y) fit also h = cc (ap Node.kind h)

pub node-once : (l : List ℕ) (o : Read Node) (r s : Result NodeLine Reason) → NodeAs l o r → NodeAs l o s → r ≡ s
node-once l = read-once (node-same l)
