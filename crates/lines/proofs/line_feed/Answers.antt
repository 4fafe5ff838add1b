use native.Mathlib.Omega.{arith}
use Rattle.lines.proofs.Lining.{slip_feed_here, slip_feed_on, slip_feed_none}
use Rattle.lines.proofs.line_feed.Goals as goal

pub returns-then-text-i-eq-LINE_FEED : goal.returns-then-text-i-eq-LINE_FEED
returns-then-text-i-eq-LINE_FEED c = omega (arith, slip_feed_here c.args.text.now c.loop-i.i c.loop-i-test.true c.if-text-i-eq-LINE_FEED.true)

pub loop-i-preserved : goal.loop-i-preserved
loop-i-preserved c = (omega (arith, slip_feed_on c.args.text.now c.loop-i.i c.loop-i-test.true c.if-text-i-eq-LINE_FEED.false), omega arith)

pub returns : goal.returns
returns c = omega (arith, slip_feed_none c.args.text.now c.loop-i.i c.loop-i-test.false)
