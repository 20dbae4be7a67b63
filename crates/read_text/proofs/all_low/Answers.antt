-- `read_text::all_low` meets its contract. Assumes nothing.
use native.Mathlib.Numerals.{add-one}
use mathlib.Core.Path.{sym, ◌∙◌}
use Rattle.read_text.proofs.LowLaws.{low_step, low_end}
use Rattle.read_text.proofs.all_low.Goals as goal

pub loop-b-preserved : goal.loop-b-preserved
loop-b-preserved c =
    rw (add-one, c.still_low-low.ensures) (low_step c.args.text.now c.loop-b.b-index c.loop-b.low c.loop-b-test.true ∙ c.loop-b.invariant)

pub returns : goal.returns
returns c = sym (low_end c.args.text.now c.loop-b.b-index c.loop-b.low c.loop-b-test.false) ∙ c.loop-b.invariant
