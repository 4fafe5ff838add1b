use mathlib.Core.Path.{◌≡◌, refl, sym, ◌∙◌}
use Prim.Native.Nat.{◌-◌}
use native.Mathlib.Omega.{arith}
use Rattle.rows.proofs.Keys as order
use Rattle.rows.proofs.compare.Goals as goal

pub keys-init : goal.keys-init
keys-init c = (omega arith, (let k = c.args.k in let e : k - 0 ≡ k = omega arith in rw e), refl)

pub keys-preserved : goal.keys-preserved
keys-preserved c =
    (omega arith, c.keys.invariant.1 ∙ order.next_eq _ _ _ _ (omega arith) (omega arith), c.keys.invariant.2)

pub returns-then-i-k : goal.returns-then-i-k
returns-then-i-k c = c.keys.invariant.2 ∙ sym (c.keys.invariant.1 ∙ order.order_none _ _ _ _ (omega arith))

pub returns-then-x-y : goal.returns-then-x-y
returns-then-x-y c = sym (c.keys.invariant.1 ∙ order.next_lt _ _ _ _ (omega arith) c.if-x-y.true)

pub returns-then-y-x : goal.returns-then-y-x
returns-then-y-x c = sym (c.keys.invariant.1 ∙ order.next_gt _ _ _ _ (omega arith) c.if-y-x.true)

pub returns-after-keys : goal.returns-after-keys
returns-after-keys c = c.keys.invariant.2 ∙ sym (c.keys.invariant.1 ∙ order.order_end _ _ _ _ (omega arith) (omega arith))
