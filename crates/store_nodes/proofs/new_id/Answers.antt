-- `store_nodes::new_id` meets its contract. Assumes nothing.
use Rattle.leaf_fields.specs.Fields.{name_in}
use Rattle.table_find.proofs.LookLaws.{told-key}
use Rattle.store_nodes.proofs.new_id.Goals as goal

pub find-requires : goal.find-requires
find-requires c = (c.requires, told-key (name_in c.args.text.now c.args.id) c.id_words-who.ensures c.letters_of-letters.ensures)
