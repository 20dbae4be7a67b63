-- `leaf_words::word_of` meets its contract. Assumes nothing.
use Rattle.leaf_words.proofs.WordLaws.{join-eight}
use Rattle.leaf_words.proofs.word_of.Goals as goal

pub returns : goal.returns
returns c = join-eight c.args.block.now c.requires (λ i. (c.type_inv.block i).fits)
