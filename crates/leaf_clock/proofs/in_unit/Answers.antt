-- `leaf_clock::in_unit` meets its contract. Assumes nothing.
use Rattle.std.proofs.Common.{ℕ, ◌*◌, ap, ◌∙◌}
use lib.Ieee.{of_bits, of_int}
use Rattle.leaf_clock.specs.Times.{in_unit, morning, afternoon}
use Rattle.leaf_clock.proofs.in_unit.Goals as goal

pub returns-in-Hour : goal.returns-in-Hour
unfolding in_unit of_bits of_int
returns-in-Hour c = rw c.in-Hour.is c.whole_part.ensures

pub returns-in-Minute : goal.returns-in-Minute
unfolding in_unit of_bits of_int
returns-in-Minute c = rw c.in-Minute.is c.whole_part-in-Minute.ensures

pub returns-in-Second : goal.returns-in-Second
unfolding in_unit
returns-in-Second c = rw c.in-Second.is c.whole_part-in-Second.ensures

pub returns-in-Day : goal.returns-in-Day
unfolding in_unit of_bits of_int
returns-in-Day c = rw c.in-Day.is c.whole_part-in-Day.ensures

pub returns-in-Am : goal.returns-in-Am
unfolding in_unit
returns-in-Am c = rw c.in-Am.is (ap (λ (n : ℕ). n * 3600) (c.morning.ensures ∙ ap morning c.whole_part-in-Am.ensures))

pub returns-in-Pm : goal.returns-in-Pm
unfolding in_unit
returns-in-Pm c = rw c.in-Pm.is (ap (λ (n : ℕ). n * 3600) (c.afternoon.ensures ∙ ap afternoon c.whole_part-in-Pm.ensures))
