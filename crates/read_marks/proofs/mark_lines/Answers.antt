-- `read_marks::mark_lines` meets its contract. Assumes nothing.
use Rattle.read_marks.proofs.FilledLaws.{filled-part}
use Rattle.read_marks.proofs.mark_lines.Goals as goal

pub returns : goal.returns
returns c =
    let a = c.args in
    filled-part a.classes.now _ a.from a.to a.class c.requires.0 c.requires.1 (c.fill.ensures.after (λ y e. e))
