-- `read_strict::strict_in` meets its contract. Assumes nothing.
use lib.Ieee.{of_bits}
use mathlib.Core.Path.{refl}
use Rattle.read_text.proofs.RoomLaws.{cleared, short-by}
use Rattle.read_steps.proofs.StepLaws.{never}
use Rattle.read_strict.proofs.StrictLaws.{in-whole, in_all}
use Rattle.read_strict.proofs.strict_in.Goals as goal

pub returns-in-Some : goal.returns-in-Some
unfolding of_bits
returns-in-Some c =
    in-whole c.args.text.now c.refused_whole.ensures c.in-Some.is c.no_counts.ensures
    (cleared c.args.text.now c.args.words.now c.args.numbers.now c.requires.0 c.requires.1 (c.fill.ensures.after (λ y e. e)) (c.fill-2.ensures.after (λ y e. e)))

pub go_over-requires : goal.go_over-requires
unfolding of_bits
go_over-requires c = (
  short-by c.args.text.now c.refused_whole.ensures c.in_default.is,
  cleared c.args.text.now c.args.words.now c.args.numbers.now c.requires.0 c.requires.1 (c.fill.ensures.after (λ y e. e)) (c.fill-2.ensures.after (λ y e. e)),
  λ z. never z,
)

pub returns : goal.returns
returns c = in_all c.args.text.now c.refused_whole.ensures c.go_over.result.refused c.in_default.is (c.go_over.ensures.0 refl)
