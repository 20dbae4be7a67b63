-- A tank's line with more than its id and elevation, and one with no more. Assumes nothing.
use Rattle.std.specs.Prelude.{None, Option, Some, is_some}
use Prim.Native.Nat.{ℕ}
use mathlib.Core.Path.{◌≡◌, refl}
use mathlib.Core.Bool.{true, false}
use mathlib.Core.List.{List}
use lib.Ieee.{Float}
use Rattle.leaf_fields.specs.declared.Span.{Span}
use Rattle.leaf_fields.specs.Fields.{Name, Next, fields_at}
use Rattle.scope.specs.Values.{good}
use Rattle.scope.specs.Nodes.{reservoir_node, reservoir_or, levels_of}

module _ (id : Name) (x : Float) {l : List ℕ} {at : ℕ} where
  pub or-levels : (more : Option Span) → Next l at more → is_some more ≡ true → reservoir_or id x (fields_at l at) ≡ levels_of id x (fields_at l at)
  or-levels (Some s) n e = rw (n.taken s refl).0
  or-levels None n e = absurd (cc)

  pub or-reservoir : (more : Option Span) → Next l at more → is_some more ≡ false → reservoir_or id x (fields_at l at) ≡ good (reservoir_node id x None)
  or-reservoir (Some s) n e = absurd (cc)
  or-reservoir None n e = rw (n.nothing refl)
