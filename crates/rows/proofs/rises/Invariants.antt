-- `rows::rises` meets its contract: the rows before place i rise. Assumes nothing.
use mathlib.Core.Path.{◌≡◌}
use Prim.Native.Nat.{◌-◌}
use lib.ListN.{take, drop}
use Rattle.rows.specs.Rows.{rising}
use Rattle.rows.proofs.rises.Given as goal

abbrev pub invariant-loop-i : goal.invariant-loop-i
invariant-loop-i l = rising l.k (take l.n l.list) ≡ rising l.k (drop (l.i - 1) (take l.n l.list))
