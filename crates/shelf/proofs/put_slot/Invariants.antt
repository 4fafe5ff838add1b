-- `shelf::put_slot` meets its contract: the slots from place i on have moved one further. Assumes nothing.
use mathlib.Core.Path.{◌≡◌}
use Prim.Native.Nat.{◌≤◌}
use lib.ListN.{length}
use Rattle.shelf.proofs.Shifts as shifts
use Rattle.shelf.proofs.put_slot.Given as goal

abbrev pub invariant-loop-i : goal.invariant-loop-i
invariant-loop-i l = (l.at ≤ l.i) × (length l.order ≡ length l.initial.order) × (l.order ≡ shifts.opened l.initial.order l.n l.i)
