-- `table_rows::id_words` meets its contract. Assumes nothing.

use Rattle.table_rows.proofs.id_words.Goals as goal

pub returns : goal.returns
returns c = rw (c.key_at.ensures, c.letters_of-l.ensures)
