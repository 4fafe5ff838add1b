-- `rows::count` meets its contract: the used rows end between low and high. Assumes nothing.
use Prim.Native.Nat.{◌-◌, ◌≤◌}
use lib.ListN.{length}
use Rattle.rows.specs.Room.{used}
use Rattle.rows.proofs.count.Given as goal

abbrev pub invariant-rows : goal.invariant-rows
invariant-rows l = (l.low ≤ length (used l.list)) × (length (used l.list) ≤ l.high) × (l.high ≤ length l.list)

abbrev pub decreases-rows : goal.decreases-rows
decreases-rows l = l.high - l.low
