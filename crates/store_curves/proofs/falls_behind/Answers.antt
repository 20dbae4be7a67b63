-- `store_curves::falls_behind` meets its contract. Assumes nothing.
use lib.Ieee.{nan}
use Rattle.store_curves.proofs.CurveLaws.{next-sought, found-sought, none-sought}
use Rattle.store_curves.proofs.falls_behind.Goals as goal

pub returns-then-words-j : goal.returns-then-words-j
returns-then-words-j c =
    λ text m hw hf e. found-sought c.args.words.now c.args.numbers.now c.args.points c.args.curve c.loop-j.invariant
    c.loop-j-test.true nan c.args.x c.if-words-j.true text m hw hf e

pub loop-j-preserved : goal.loop-j-preserved
loop-j-preserved c =
    next-sought c.args.words.now c.args.numbers.now c.args.points c.args.curve c.loop-j.invariant c.loop-j-test.true c.if-words-j.false

pub returns : goal.returns
returns c =
    λ text m hw hf e. none-sought c.args.words.now c.args.numbers.now c.args.points c.args.curve c.loop-j.invariant c.loop-j-test.false c.args.x text m hw hf e
