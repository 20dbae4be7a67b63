-- Each turn takes a line, which is not empty and ends within the text.
use Rattle.std.proofs.Common.{arith}
use Rattle.leaf_scans.proofs.LineLaws.{end_more, end-le}
use Rattle.cases.proofs.replay.Goals as goal

pub loop-at-smaller-in_ok-write_all : goal.loop-at-smaller-in_ok-write_all
loop-at-smaller-in_ok-write_all g c = omega (arith, c.loop-at-test.true, end_more c.args.all.now c.loop-at.at _ c.loop-at-test.true c.line_end-end.ensures)

pub loop-at-preserved-in_ok-write_all : goal.loop-at-preserved-in_ok-write_all
loop-at-preserved-in_ok-write_all g c = end-le c.args.all.now c.loop-at.at _ c.loop-at-test.true c.line_end-end.ensures

pub loop-at-smaller : goal.loop-at-smaller
loop-at-smaller g c = omega (arith, c.loop-at-test.true, end_more c.args.all.now c.loop-at.at _ c.loop-at-test.true c.line_end-end.ensures)

pub loop-at-preserved : goal.loop-at-preserved
loop-at-preserved g c = end-le c.args.all.now c.loop-at.at _ c.loop-at-test.true c.line_end-end.ensures
