-- `read_text::too_small` meets its contract. Assumes nothing.
use borrow.Author.Tests.{lt-ltb, le-ltb}
use lib.ListN.{length}
use Rattle.scope.specs.Layout.{room_words}
use Rattle.scope.specs.Reading.{too_small}
use Rattle.read_text.proofs.too_small.Goals as goal

pub returns-then-words-lt-WORDS_ROOM : goal.returns-then-words-lt-WORDS_ROOM
unfolding too_small
returns-then-words-lt-WORDS_ROOM c = rw (lt-ltb (length c.args.words.now) room_words c.if-words-lt-WORDS_ROOM.true)

pub returns : goal.returns
unfolding too_small
returns c = rw (le-ltb (length c.args.words.now) room_words c.if-words-lt-WORDS_ROOM.false)
