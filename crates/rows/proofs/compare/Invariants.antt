-- `rows::compare` meets its contract: from place i on the order is still to be told. Assumes nothing.
use mathlib.Core.Path.{◌≡◌}
use Prim.Native.Nat.{◌-◌, ◌≤◌}
use Rattle.std.specs.declared.cmp.Ordering.TheVariants.{Equal}
use Rattle.rows.specs.Rows.{key_order, order_from}
use Rattle.rows.proofs.compare.Given as goal

abbrev pub invariant-keys : goal.invariant-keys
invariant-keys l = (l.i ≤ l.k) × (key_order l.k l.a l.b ≡ order_from (l.k - l.i) l.i l.a l.b) × (l.order ≡ Equal)
