use mathlib.Core.Path.{ap, ◌∙◌}
use mathlib.Core.List.{List}
use Prim.Native.Nat.{ℕ}
use native.Mathlib.Omega.{arith}
use lib.ListN.{set}
use Rattle.shelf.proofs.Slots.{numbered_start, numbered_set, numbered_all}
use Rattle.shelf.proofs.number_slots.Goals as goal

pub loop-i-init : goal.loop-i-init
loop-i-init c = numbered_start c.args.order.now

pub loop-i-preserved : goal.loop-i-preserved
loop-i-preserved c =
    let i = c.loop-i.i in
    ap (λ (l : List ℕ). set l i i) c.loop-i.invariant ∙ numbered_set c.args.order.now i (omega arith)

pub returns : goal.returns
returns c = c.loop-i.invariant ∙ numbered_all c.args.order.now c.loop-i.i (omega arith)
