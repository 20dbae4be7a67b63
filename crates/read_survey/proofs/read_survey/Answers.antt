-- `read_survey::read_survey` meets its contract. Assumes nothing.
use mathlib.Core.Path.{sym, ◌∙◌, refl}
use Rattle.table_rows.proofs.AfterLaws.{holds-words}
use Rattle.read_survey.proofs.RoomLaws.{reaches, cut-long, words_long, counts-fit, survey-small, survey-read}
use Rattle.read_survey.proofs.read_survey.Goals as goal

pub shape_of-words-then-survey_small : goal.shape_of-words-then-survey_small
shape_of-words-then-survey_small c = refl

pub shape_of-numbers-then-survey_small : goal.shape_of-numbers-then-survey_small
shape_of-numbers-then-survey_small c = refl

pub shape_of-classes-then-survey_small : goal.shape_of-classes-then-survey_small
shape_of-classes-then-survey_small c = refl

pub shape_of-reasons-then-survey_small : goal.shape_of-reasons-then-survey_small
shape_of-reasons-then-survey_small c = refl

pub returns-then-survey_small : goal.returns-then-survey_small
returns-then-survey_small c =
    survey-small c.args.text.now c.args.words.now c.args.numbers.now c.args.classes.now c.args.reasons.now
    (sym c.survey_small.ensures ∙ c.if-survey_small.true) c.no_survey.ensures

pub slice_bounds-survey_in-end : goal.slice_bounds-survey_in-end
slice_bounds-survey_in-end c =
    (reaches c.args.words.now c.args.numbers.now c.args.classes.now c.args.reasons.now (sym c.survey_small.ensures ∙ c.if-survey_small.false)).0

pub slice_bounds-survey_in-end-2 : goal.slice_bounds-survey_in-end-2
slice_bounds-survey_in-end-2 c =
    sym (cut-long c.args.words.now c.args.numbers.now c.args.classes.now c.args.reasons.now
    (sym c.survey_small.ensures ∙ c.if-survey_small.false)).0

pub slice_bounds-survey_in-end-3 : goal.slice_bounds-survey_in-end-3
slice_bounds-survey_in-end-3 c =
    (reaches c.args.words.now c.args.numbers.now c.args.classes.now c.args.reasons.now (sym c.survey_small.ensures ∙ c.if-survey_small.false)).1

pub slice_bounds-survey_in-end-4 : goal.slice_bounds-survey_in-end-4
slice_bounds-survey_in-end-4 c =
    sym (cut-long c.args.words.now c.args.numbers.now c.args.classes.now c.args.reasons.now (sym c.survey_small.ensures ∙ c.if-survey_small.false)).1

pub slice_bounds-survey_in-end-5 : goal.slice_bounds-survey_in-end-5
slice_bounds-survey_in-end-5 c =
    (reaches c.args.words.now c.args.numbers.now c.args.classes.now c.args.reasons.now (sym c.survey_small.ensures ∙ c.if-survey_small.false)).2

pub slice_bounds-survey_in-end-6 : goal.slice_bounds-survey_in-end-6
slice_bounds-survey_in-end-6 c =
    sym (cut-long c.args.words.now c.args.numbers.now c.args.classes.now c.args.reasons.now (sym c.survey_small.ensures ∙ c.if-survey_small.false)).2

pub slice_bounds-survey_in-end-7 : goal.slice_bounds-survey_in-end-7
slice_bounds-survey_in-end-7 c =
    (reaches c.args.words.now c.args.numbers.now c.args.classes.now c.args.reasons.now (sym c.survey_small.ensures ∙ c.if-survey_small.false)).3

pub slice_bounds-survey_in-end-8 : goal.slice_bounds-survey_in-end-8
slice_bounds-survey_in-end-8 c =
    sym (cut-long c.args.words.now c.args.numbers.now c.args.classes.now c.args.reasons.now (sym c.survey_small.ensures ∙ c.if-survey_small.false)).3

pub survey_in-r-requires : goal.survey_in-r-requires
survey_in-r-requires c =
    cut-long c.args.words.now c.args.numbers.now c.args.classes.now c.args.reasons.now (sym c.survey_small.ensures ∙ c.if-survey_small.false)

pub write_counts-requires : goal.write_counts-requires
write_counts-requires c =
    counts-fit c.args.words.now c.args.numbers.now c.args.classes.now c.args.reasons.now
    (sym c.survey_small.ensures ∙ c.if-survey_small.false) c.survey_in-r.new.words (holds-words c.survey_in-r.ensures.1)

pub shape_of-words : goal.shape_of-words
shape_of-words c =
    c.write_counts.auto.words ∙ words_long c.args.words.now c.args.numbers.now c.args.classes.now c.args.reasons.now
    (sym c.survey_small.ensures ∙ c.if-survey_small.false) c.survey_in-r.new.words (holds-words c.survey_in-r.ensures.1)

pub returns : goal.returns
returns c =
    survey-read c.args.text.now c.args.words.now c.args.numbers.now c.args.classes.now c.args.reasons.now
    (sym c.survey_small.ensures ∙ c.if-survey_small.false) c.survey_in-r.ensures.0 c.survey_in-r.ensures.1 c.survey_in-r.ensures.2 c.survey_in-r.ensures.3
    c.write_counts.ensures refl refl refl
