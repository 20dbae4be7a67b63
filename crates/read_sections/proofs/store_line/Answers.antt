-- `read_sections::store_line` meets its contract. Assumes nothing.
use Rattle.std.specs.Prelude.{Ok}
use Prim.Native.Nat.{ℕ}
use mathlib.Core.Path.{refl, ap}
use mathlib.Core.List.{List}
use lib.Ieee.{Float}
use Rattle.scope.specs.declared.Counts.{Counts}
use Rattle.scope.specs.Records.{Network}
use Rattle.scope.specs.Values.{good}
use Rattle.table_rows.specs.Holding.{Holds, After}
use Rattle.read_sections.proofs.store_line.Goals as goal

unchanged : {text w : List ℕ} {f : List Float} {m : Network} {s : Counts} → Holds text m s w f → After text (good m) (Ok s) w f w f
unchanged h = (ap Ok h.counts, record { counts = refl; words = h.words; numbers = h.numbers })

pub junction_line-requires : goal.junction_line-requires
junction_line-requires c = c.requires

pub reservoir_line-requires : goal.reservoir_line-requires
reservoir_line-requires c = c.requires

pub tank_line-requires : goal.tank_line-requires
tank_line-requires c = c.requires

pub pipe_line-requires : goal.pipe_line-requires
pipe_line-requires c = c.requires

pub pump_line-requires : goal.pump_line-requires
pump_line-requires c = c.requires

pub valve_line-requires : goal.valve_line-requires
valve_line-requires c = c.requires

pub curve_line-requires : goal.curve_line-requires
curve_line-requires c = c.requires

pub pattern_line-requires : goal.pattern_line-requires
pattern_line-requires c = c.requires

pub demand_line-requires : goal.demand_line-requires
demand_line-requires c = c.requires

pub emitter_line-requires : goal.emitter_line-requires
emitter_line-requires c = c.requires

pub coordinates_line-requires : goal.coordinates_line-requires
coordinates_line-requires c = c.requires

pub times_line-requires : goal.times_line-requires
times_line-requires c = c.requires

pub shape_of-words-in-Junctions : goal.shape_of-words-in-Junctions
shape_of-words-in-Junctions c = c.junction_line.auto.words

pub shape_of-numbers-in-Junctions : goal.shape_of-numbers-in-Junctions
shape_of-numbers-in-Junctions c = c.junction_line.auto.numbers

pub returns-in-Junctions : goal.returns-in-Junctions
returns-in-Junctions c = λ m h. rw c.in-Junctions.is (c.junction_line.ensures m h)

pub shape_of-words-in-Reservoirs : goal.shape_of-words-in-Reservoirs
shape_of-words-in-Reservoirs c = c.reservoir_line.auto.words

pub shape_of-numbers-in-Reservoirs : goal.shape_of-numbers-in-Reservoirs
shape_of-numbers-in-Reservoirs c = c.reservoir_line.auto.numbers

pub returns-in-Reservoirs : goal.returns-in-Reservoirs
returns-in-Reservoirs c = λ m h. rw c.in-Reservoirs.is (c.reservoir_line.ensures m h)

pub shape_of-words-in-Tanks : goal.shape_of-words-in-Tanks
shape_of-words-in-Tanks c = c.tank_line.auto.words

pub shape_of-numbers-in-Tanks : goal.shape_of-numbers-in-Tanks
shape_of-numbers-in-Tanks c = c.tank_line.auto.numbers

pub returns-in-Tanks : goal.returns-in-Tanks
returns-in-Tanks c = λ m h. rw c.in-Tanks.is (c.tank_line.ensures m h)

pub shape_of-words-in-Pipes : goal.shape_of-words-in-Pipes
shape_of-words-in-Pipes c = c.pipe_line.auto.words

pub shape_of-numbers-in-Pipes : goal.shape_of-numbers-in-Pipes
shape_of-numbers-in-Pipes c = c.pipe_line.auto.numbers

pub returns-in-Pipes : goal.returns-in-Pipes
returns-in-Pipes c = λ m h. rw c.in-Pipes.is (c.pipe_line.ensures m h)

pub shape_of-words-in-Pumps : goal.shape_of-words-in-Pumps
shape_of-words-in-Pumps c = c.pump_line.auto.words

pub shape_of-numbers-in-Pumps : goal.shape_of-numbers-in-Pumps
shape_of-numbers-in-Pumps c = c.pump_line.auto.numbers

pub returns-in-Pumps : goal.returns-in-Pumps
returns-in-Pumps c = λ m h. rw c.in-Pumps.is (c.pump_line.ensures m h)

pub shape_of-words-in-Valves : goal.shape_of-words-in-Valves
shape_of-words-in-Valves c = c.valve_line.auto.words

pub shape_of-numbers-in-Valves : goal.shape_of-numbers-in-Valves
shape_of-numbers-in-Valves c = c.valve_line.auto.numbers

pub returns-in-Valves : goal.returns-in-Valves
returns-in-Valves c = λ m h. rw c.in-Valves.is (c.valve_line.ensures m h)

pub shape_of-words-in-Curves : goal.shape_of-words-in-Curves
shape_of-words-in-Curves c = c.curve_line.auto.words

pub shape_of-numbers-in-Curves : goal.shape_of-numbers-in-Curves
shape_of-numbers-in-Curves c = c.curve_line.auto.numbers

pub returns-in-Curves : goal.returns-in-Curves
returns-in-Curves c = λ m h. rw c.in-Curves.is (c.curve_line.ensures m h)

pub shape_of-words-in-Patterns : goal.shape_of-words-in-Patterns
shape_of-words-in-Patterns c = c.pattern_line.auto.words

pub shape_of-numbers-in-Patterns : goal.shape_of-numbers-in-Patterns
shape_of-numbers-in-Patterns c = c.pattern_line.auto.numbers

pub returns-in-Patterns : goal.returns-in-Patterns
returns-in-Patterns c = λ m h. rw c.in-Patterns.is (c.pattern_line.ensures m h)

pub shape_of-words-in-Demands : goal.shape_of-words-in-Demands
shape_of-words-in-Demands c = c.demand_line.auto.words

pub shape_of-numbers-in-Demands : goal.shape_of-numbers-in-Demands
shape_of-numbers-in-Demands c = c.demand_line.auto.numbers

pub returns-in-Demands : goal.returns-in-Demands
returns-in-Demands c = λ m h. rw c.in-Demands.is (c.demand_line.ensures m h)

pub shape_of-words-in-Emitters : goal.shape_of-words-in-Emitters
shape_of-words-in-Emitters c = c.emitter_line.auto.words

pub shape_of-numbers-in-Emitters : goal.shape_of-numbers-in-Emitters
shape_of-numbers-in-Emitters c = c.emitter_line.auto.numbers

pub returns-in-Emitters : goal.returns-in-Emitters
returns-in-Emitters c = λ m h. rw c.in-Emitters.is (c.emitter_line.ensures m h)

pub shape_of-words-in-Coordinates : goal.shape_of-words-in-Coordinates
shape_of-words-in-Coordinates c = c.coordinates_line.auto.words

pub shape_of-numbers-in-Coordinates : goal.shape_of-numbers-in-Coordinates
shape_of-numbers-in-Coordinates c = c.coordinates_line.auto.numbers

pub returns-in-Coordinates : goal.returns-in-Coordinates
returns-in-Coordinates c = λ m h. rw c.in-Coordinates.is (c.coordinates_line.ensures m h)

pub shape_of-words-in-Times : goal.shape_of-words-in-Times
shape_of-words-in-Times c = c.times_line.auto.words

pub shape_of-numbers-in-Times : goal.shape_of-numbers-in-Times
shape_of-numbers-in-Times c = c.times_line.auto.numbers

pub returns-in-Times : goal.returns-in-Times
returns-in-Times c = λ m h. rw c.in-Times.is (c.times_line.ensures m h)

pub returns-in-Rules : goal.returns-in-Rules
returns-in-Rules c = λ m h. rw c.in-Rules.is (unchanged h)

pub returns-in-Passed : goal.returns-in-Passed
returns-in-Passed c = λ m h. rw c.in-Passed.is (unchanged h)
