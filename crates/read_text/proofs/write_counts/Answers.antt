-- `read_text::write_counts` meets its contract. Said here, though the check finds it: so a wrong place is refused at this line, and not when
-- the search for another proof is at its end. Assumes nothing.
use Rattle.read_text.proofs.write_counts.Goals as goal

pub returns : goal.returns
returns c = c.paste.ensures
