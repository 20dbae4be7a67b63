-- What the lines of JUNCTIONS, RESERVOIRS and TANKS say, and the code's answers as that. Assumes nothing.
use Rattle.scope.specs.declared.Reason.{Reason}
use Rattle.std.specs.Prelude.{ℕ, List, Result}
use Rattle.leaf_fields.specs.Fields.{name_in, Fits}
use Rattle.scope.specs.declared.Tank as coded
use Rattle.scope.specs.Records as records
use Rattle.scope.specs.Records.{Node}
use Rattle.scope.specs.Values.{Read}
use Rattle.scope.specs.Nodes.{JunctionFields, reservoir_node, tank_node}
use Rattle.parse_fields.specs.Taking.{opt_in, MayFit, ReadAs}
use Rattle.parse_nodes.specs.declared.JunctionLine.{JunctionLine}
use Rattle.parse_nodes.specs.declared.ReservoirLine.{ReservoirLine}
use Rattle.parse_nodes.specs.declared.TankLine.{TankLine}
use Rattle.parse_nodes.specs.declared.NodeLine.{NodeLine}
use Rattle.parse_nodes.specs.declared.NodeLine.TheVariants.{Reservoir, Tank}

-- ---- a junction
abbrev pub junction_in : List ℕ → JunctionLine → JunctionFields
junction_in l j = record { id = name_in l j.id; elevation = j.elevation; demand = j.demand; pattern = opt_in l j.pattern; disabled = j.disabled }

abbrev pub JunctionAs : List ℕ → Read JunctionFields → Result JunctionLine Reason → Type 0
JunctionAs l = ReadAs (junction_in l) (λ j. Fits l j.id × MayFit l j.pattern)

-- ---- a reservoir or a tank
abbrev pub reservoir_in : List ℕ → ReservoirLine → Node
reservoir_in l r = reservoir_node (name_in l r.id) r.elevation (opt_in l r.pattern)

abbrev pub tank_in : List ℕ → coded.Tank → records.Tank
tank_in l t =
    record {
      elevation = t.elevation;
      initial = t.initial;
      minimum = t.minimum;
      maximum = t.maximum;
      diameter = t.diameter;
      volume = t.volume;
      curve = opt_in l t.curve;
      overflow = t.overflow;
    }

abbrev pub basin_in : List ℕ → TankLine → Node
basin_in l t = tank_node (name_in l t.id) (tank_in l t.tank)

abbrev pub node_in : List ℕ → NodeLine → Node
node_in l (Reservoir r) = reservoir_in l r
node_in l (Tank t) = basin_in l t

abbrev pub NodeFits : List ℕ → NodeLine → Type 0
NodeFits l (Reservoir r) = Fits l r.id × MayFit l r.pattern
NodeFits l (Tank t) = Fits l t.id × MayFit l t.tank.curve

abbrev pub NodeAs : List ℕ → Read Node → Result NodeLine Reason → Type 0
NodeAs l = ReadAs (node_in l) (NodeFits l)
