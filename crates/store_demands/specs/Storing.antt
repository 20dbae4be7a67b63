-- What the storing functions of this crate promise beside scope's steps: a demand that is a junction's own. Assumes nothing.
use Rattle.std.specs.Prelude.{ℕ, Bool, ◌&&◌, eqb}
use Rattle.scope.specs.Records.{Demand}

-- the demand of the own line of junction number i
abbrev pub is_own : Demand → ℕ → Bool
is_own d i = eqb d.node i && d.own
