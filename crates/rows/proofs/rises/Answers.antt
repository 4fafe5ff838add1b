use mathlib.Core.Path.{sym, ◌∙◌}
use native.Mathlib.Omega.{arith}
use Rattle.rows.proofs.Rising as rise
use Rattle.rows.proofs.rises.Goals as goal

pub loop-i-preserved : goal.loop-i-preserved
loop-i-preserved c =
    let a = c.args in
    c.loop-i.invariant ∙ rise.rises_on a.k a.list.now a.n c.loop-i.i c.requires (omega arith) (omega arith) (sym c.below.ensures ∙ c.if-not-below.false)

pub returns-then-not-below : goal.returns-then-not-below
returns-then-not-below c =
    let a = c.args in
    sym (c.loop-i.invariant ∙ rise.rises_not a.k a.list.now a.n c.loop-i.i c.requires (omega arith) (omega arith) (sym c.below.ensures ∙ c.if-not-below.true))

pub returns : goal.returns
returns c =
    let a = c.args in
    sym (c.loop-i.invariant ∙ rise.rises_end a.k a.list.now a.n c.loop-i.i c.requires (omega arith))
