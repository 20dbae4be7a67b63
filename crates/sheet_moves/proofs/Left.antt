-- What a reading leaves in its tables is tallied, so the counts of this crate are those of the network that was read. Assumes nothing.
use Prim.Native.Nat.{ℕ}
use mathlib.Core.Path.{◌≡◌, sym, ap, ◌∙◌}
use mathlib.Core.List.{List, ◌++◌, append_assoc}
use lib.ListN.{length, drop}
use lib.Seq.{drop_at}
use lib.Ieee.{Float}
use Rattle.scope.specs.Records.{Network, counts_of}
use Rattle.scope.specs.Tables.{tally_words, blocks, word_blocks, words_of}
use Rattle.scope.specs.Layout.{record_words, room_words}
use Rattle.scope.specs.Reading.{words_holding}
use Rattle.table_rows.proofs.EmptyLaws.{words_long}
use Rattle.stored_records.specs.Back.{Stands}
use Rattle.sheet_moves.specs.Moves.{Tallied}

-- w holds the network m, and what lay beyond its room in the table w₀ that was lent
pub left-tallied : (m : Network) (w w₀ : List ℕ) (f : List Float) → w ≡ words_holding m w₀ → Stands m w f → Tallied m w f
unfolding words_of
left-tallied m w w₀ f e s = record {
  stands = s;
  rest = drop room_words w₀;
  counts =
      ap (drop record_words) (e ∙ append_assoc (blocks (word_blocks m)) (tally_words (counts_of m)) (drop room_words w₀))
      ∙ drop_at (blocks (word_blocks m)) (tally_words (counts_of m) ++ drop room_words w₀) record_words (sym (ap length s.words.exact) ∙ words_long s.words);
}
