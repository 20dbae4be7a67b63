-- `inp::inp_read_survey` meets its contract. Assumes nothing.
use Rattle.inp.proofs.CallLaws.{seen, few, small, surveyed}
use Rattle.inp.proofs.inp_read_survey.Goals as goal

pub returns-then-counts-lt-COUNTS : goal.returns-then-counts-lt-COUNTS
returns-then-counts-lt-COUNTS c =
    few c.args.text.now c.args.words.now c.args.numbers.now c.args.classes.now c.args.reasons.now c.args.counts.now c.if-counts-lt-COUNTS.true

pub returns-then-number-eq-SMALL : goal.returns-then-number-eq-SMALL
returns-then-number-eq-SMALL c =
    small c.args.text.now c.args.words.now c.args.numbers.now c.args.classes.now c.args.reasons.now
    c.args.counts.now c.if-counts-lt-COUNTS.false (seen c.read_survey-s.ensures) c.if-number-eq-SMALL.true

pub returns : goal.returns
returns c =
    surveyed c.args.text.now c.args.words.now c.args.numbers.now c.args.classes.now c.args.reasons.now
    c.args.counts.now c.if-counts-lt-COUNTS.false (seen c.read_survey-s.ensures) c.if-number-eq-SMALL.false c.paste.ensures
