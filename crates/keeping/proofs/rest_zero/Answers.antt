use mathlib.Core.Path.{sym, ◌∙◌}
use borrow.Author.Rules.{rules}
use Rattle.keeping.proofs.Keeping as keeping
use Rattle.keeping.proofs.rest_zero.Goals as goal

pub loop-i-init : goal.loop-i-init
loop-i-init c = keeping.zero_start c.args.kept c.args.row (search rules) c.requires

pub loop-i-preserved : goal.loop-i-preserved
loop-i-preserved c = c.loop-i.invariant ∙ keeping.zero_next c.args.row (search rules) c.loop-i.i c.loop-i-test.true c.if-row-i-ne0.false

pub returns : goal.returns
returns c = sym (c.loop-i.invariant ∙ keeping.zero_end c.args.row (search rules) c.loop-i.i c.loop-i-test.false)

pub returns-then-row-i-ne0 : goal.returns-then-row-i-ne0
returns-then-row-i-ne0 c = sym (c.loop-i.invariant ∙ keeping.zero_not c.args.row (search rules) c.loop-i.i c.loop-i-test.true c.if-row-i-ne0.true)
