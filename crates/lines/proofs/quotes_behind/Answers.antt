use mathlib.Core.Path.{sym, ◌∙◌}
use Rattle.editions.specs.declared.Edition.TheVariants.{Dino23}
use Rattle.lines.proofs.Lining.{behind_on, behind_none}
use Rattle.lines.proofs.quotes_behind.Goals as goal

pub loop-b-preserved : goal.loop-b-preserved
loop-b-preserved c =
    let w = c.loop-b in
    rw c.behind-s.ensures (sym (behind_on Dino23 w.s c.args.bytes.now w.b-index c.loop-b-test.true) ∙ w.invariant)

pub returns : goal.returns
returns c = let w = c.loop-b in sym (behind_none Dino23 w.s c.args.bytes.now w.b-index c.loop-b-test.false) ∙ w.invariant
