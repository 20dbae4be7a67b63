-- `read_survey::survey_small` meets its contract. Assumes nothing.
use mathlib.Core.Path.{sym, ◌∙◌}
use borrow.Author.Tests.{lt-ltb, le-ltb}
use lib.ListN.{length}
use Rattle.scope.specs.Reading.{survey_small}
use Rattle.scope.specs.Sections.{room_lines}
use Rattle.read_survey.proofs.survey_small.Goals as goal

pub returns-then-too_small : goal.returns-then-too_small
unfolding survey_small
returns-then-too_small c = rw (sym c.too_small.ensures ∙ c.if-too_small.true)

pub returns-then-classes-lt-LINES_ROOM : goal.returns-then-classes-lt-LINES_ROOM
unfolding survey_small
returns-then-classes-lt-LINES_ROOM c =
    rw (sym c.too_small.ensures ∙ c.if-too_small.false, lt-ltb (length c.args.classes.now) room_lines c.if-classes-lt-LINES_ROOM.true)

pub returns : goal.returns
unfolding survey_small
returns c =
    rw (sym c.too_small.ensures ∙ c.if-too_small.false, le-ltb (length c.args.classes.now) room_lines c.if-classes-lt-LINES_ROOM.false)
