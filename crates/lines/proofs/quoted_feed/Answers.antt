use mathlib.Core.Path.{sym, ◌∙◌}
use native.Mathlib.Omega.{arith}
use Rattle.editions.specs.declared.Edition.TheVariants.{Dino23}
use Rattle.lines.proofs.Lining.{feed_here, feed_on, feed_none}
use Rattle.lines.proofs.quoted_feed.Goals as goal

pub returns-then-ends_row : goal.returns-then-ends_row
returns-then-ends_row c =
    let w = c.loop-i in
    omega (arith, feed_here Dino23 w.s c.args.text.now w.i c.loop-i-test.true (sym c.ends_row.ensures ∙ c.if-ends_row.true), w.invariant.0)

pub loop-i-preserved : goal.loop-i-preserved
loop-i-preserved c =
    let w = c.loop-i in
    let k = feed_on Dino23 w.s c.args.text.now w.i c.loop-i-test.true (sym c.ends_row.ensures ∙ c.if-ends_row.false) in
    rw c.behind-s.ensures (omega (arith, k, w.invariant.0), omega arith)

pub returns : goal.returns
returns c = let w = c.loop-i in omega (arith, feed_none Dino23 w.s c.args.text.now w.i c.loop-i-test.false, w.invariant.0)
