-- `rows::seek` meets its contract: low and high bracket the place among the used rows. Assumes nothing.
use Prim.Native.Nat.{◌-◌, ◌≤◌}
use lib.ListN.{length}
use Rattle.rows.specs.Room.{used}
use Rattle.rows.proofs.Places as places
use Rattle.rows.proofs.seek.Given as goal

abbrev pub invariant-rows : goal.invariant-rows
invariant-rows l = (l.high ≤ length l.list) × places.Bracket l.k l.row (used l.list) l.low l.high

abbrev pub decreases-rows : goal.decreases-rows
decreases-rows l = l.high - l.low
