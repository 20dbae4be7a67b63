-- `rule_store::erase_clauses` meets its contract. Assumes nothing.
use lib.Ieee.{of_bits}
use Rattle.rule_store.proofs.EraseLaws.{words_back, numbers-back}
use Rattle.rule_store.proofs.erase_clauses.Goals as goal

pub returns : goal.returns
unfolding of_bits
returns c =
    λ text m s w f cs h eb ec more. (
      words_back h cs more c.args.base c.args.count c.clauses_end-end.result eb ec c.clauses_end-end.ensures _ (c.fill.ensures.after (λ y e. e)),
      numbers-back h cs more c.args.base c.args.count c.clauses_end-end.result eb ec c.clauses_end-end.ensures _ (c.fill-2.ensures.after (λ y e. e)),
    )
