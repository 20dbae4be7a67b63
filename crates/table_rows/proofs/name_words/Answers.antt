-- `table_rows::name_words` meets its contract. Assumes nothing.

use Rattle.table_rows.proofs.name_words.Goals as goal

pub returns : goal.returns
returns c = rw (c.in-Some.is, c.letters_of-l.ensures)
