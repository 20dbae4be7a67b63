-- What a line of each section makes of the network. Assumes nothing.
use Rattle.std.specs.Prelude.{List}
use Rattle.leaf_fields.specs.Fields.{Name}
use Rattle.scope.specs.declared.Section.{Section}
use Rattle.scope.specs.declared.Section.TheVariants.{Junctions, Reservoirs, Tanks, Pipes, Pumps, Valves, Curves, Patterns, Demands, Emitters, Coordinates, Times, Rules, Passed}
use Rattle.scope.specs.Records.{Network}
use Rattle.scope.specs.Values.{Read, good}
use Rattle.scope.specs.Nodes.{junction_step, reservoir_step, tank_step, emitter_step, coordinates_step}
use Rattle.scope.specs.Links.{pipe_step, pump_step, valve_step}
use Rattle.scope.specs.Series.{curve_step, pattern_step, demand_step}
use Rattle.scope.specs.Times.{times_step}

-- what the fields of a line of a section make of the network; lines of RULES and lines that are passed over store nothing
abbrev pub line_step : Section → List Name → Network → Read Network
line_step Junctions fs m = junction_step fs m
line_step Reservoirs fs m = reservoir_step fs m
line_step Tanks fs m = tank_step fs m
line_step Pipes fs m = pipe_step fs m
line_step Pumps fs m = pump_step fs m
line_step Valves fs m = valve_step fs m
line_step Curves fs m = curve_step fs m
line_step Patterns fs m = pattern_step fs m
line_step Demands fs m = demand_step fs m
line_step Emitters fs m = emitter_step fs m
line_step Coordinates fs m = coordinates_step fs m
line_step Times fs m = times_step fs m
line_step Rules fs m = good m
line_step Passed fs m = good m
