-- `stored_counts::Stored::counts` meets its contract. Assumes nothing.
use native.Mathlib.Omega.{arith}
use Rattle.stored_counts.proofs.CountsLaws.{counts-back, counts-long}
use Rattle.stored_counts.proofs.Stored.counts.Goals as goal

pub returns-then-words-lt-WORDS_ROOM : goal.returns-then-words-lt-WORDS_ROOM
returns-then-words-lt-WORDS_ROOM c = λ m rest e. absurd (omega (arith, counts-long m c.args.self.words.now rest e))

pub returns : goal.returns
returns c = λ m rest e. counts-back m c.args.self.words.now rest e
