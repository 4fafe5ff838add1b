-- `shelf::free_slot` meets its contract: the slots behind the one that is free have moved one back, up to place i. Assumes nothing.
use mathlib.Core.Path.{◌≡◌}
use Prim.Native.Nat.{suc, ◌-◌}
use lib.ListN.{length}
use Rattle.shelf.proofs.Shifts as shifts
use Rattle.shelf.proofs.free_slot.Given as goal

abbrev pub invariant-loop-i : goal.invariant-loop-i
invariant-loop-i l = (length l.order ≡ length l.initial.order) × (l.order ≡ shifts.closed l.initial.order l.at (l.i - suc l.at))
