-- `read_survey::survey_in` meets its contract. Assumes nothing.
use lib.Ieee.{of_bits}
use Prim.Native.Nat.{ℕ}
use mathlib.Core.Path.{refl, sym, ap, ◌∙◌}
use lib.ListN.{replicate}
use Rattle.read_text.proofs.RoomLaws.{cleared, short-by}
use Rattle.read_survey.proofs.SurveyLaws.{in-whole, in_all}
use Rattle.read_survey.proofs.survey_in.Goals as goal

pub returns-in-Some : goal.returns-in-Some
unfolding of_bits
returns-in-Some c =
    in-whole c.args.text.now c.requires.2 c.requires.3 c.refused_whole.ensures c.in-Some.is c.no_survey.ensures c.no_counts.ensures
    (cleared c.args.text.now c.args.words.now c.args.numbers.now c.requires.0 c.requires.1 (c.fill.ensures.after (λ y e. e))
    (c.fill-2.ensures.after (λ y e. e))) c.clear_bytes.ensures c.clear_bytes-2.ensures

pub go_over-over-requires : goal.go_over-over-requires
unfolding of_bits
go_over-over-requires c = (
  short-by c.args.text.now c.refused_whole.ensures c.in_default.is,
  cleared c.args.text.now c.args.words.now c.args.numbers.now c.requires.0 c.requires.1 (c.fill.ensures.after (λ y e. e)) (c.fill-2.ensures.after (λ y e. e)),
  λ _. (
    c.clear_bytes.auto.bytes ∙ c.requires.2,
    c.clear_bytes-2.auto.bytes ∙ c.requires.3,
    c.clear_bytes.ensures ∙ ap (λ (n : ℕ). replicate n 0) (sym c.clear_bytes.auto.bytes),
    c.clear_bytes-2.ensures ∙ ap (λ (n : ℕ). replicate n 0) (sym c.clear_bytes-2.auto.bytes),
  ),
)

pub returns : goal.returns
returns c =
    let p = c.go_over-over.ensures.1 refl in
    in_all c.args.text.now refl refl c.refused_whole.ensures c.in_default.is (c.counts_of.ensures ∙ p.0, p.1, p.2, p.3)
