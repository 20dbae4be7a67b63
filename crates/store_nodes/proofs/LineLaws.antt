-- What was read of a line of JUNCTIONS, RESERVOIRS or TANKS, in the text's own names. Assumes nothing.
use Rattle.std.specs.Prelude.{Result}
use Prim.Native.Nat.{ℕ}
use mathlib.Core.Path.{◌≡◌}
use mathlib.Core.List.{List}
use lib.ListN.{take}
use Rattle.scope.specs.declared.Reason.{Reason}
use Rattle.scope.specs.Records.{Node}
use Rattle.scope.specs.Values.{Read}
use Rattle.scope.specs.Nodes.{JunctionFields}
use Rattle.parse_fields.proofs.TextLaws.{fits-text, may-fit-text, name-text, opt-text, read-text}
use Rattle.parse_nodes.specs.Lines.{JunctionAs, node_in, NodeFits, NodeAs}
use Rattle.parse_nodes.specs.declared.JunctionLine.{JunctionLine}
use Rattle.parse_nodes.specs.declared.NodeLine.{NodeLine}
use Rattle.parse_nodes.specs.declared.NodeLine.TheVariants.{Reservoir, Tank}

module _ (text : List ℕ) (end : ℕ) where
  pub junction-text : (o : Read JunctionFields) (r : Result JunctionLine Reason) → JunctionAs (take end text) o r → JunctionAs text o r
  junction-text = read-text (λ j (fit, may).
      (rw (name-text text end j.id fit, opt-text text end j.pattern may), (fits-text text end j.id fit, may-fit-text text end j.pattern may)))

  node-fits : (n : NodeLine) → NodeFits (take end text) n → (node_in (take end text) n ≡ node_in text n) × NodeFits text n
  node-fits (Reservoir r) (fit, may) =
      (rw (name-text text end r.id fit, opt-text text end r.pattern may), (fits-text text end r.id fit, may-fit-text text end r.pattern may))
  node-fits (Tank t) (fit, may) =
      (rw (name-text text end t.id fit, opt-text text end t.tank.curve may), (fits-text text end t.id fit, may-fit-text text end t.tank.curve may))

  pub node-text : (o : Read Node) (r : Result NodeLine Reason) → NodeAs (take end text) o r → NodeAs text o r
  node-text = read-text node-fits
