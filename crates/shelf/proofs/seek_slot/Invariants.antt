-- `shelf::seek_slot` meets its contract: low and high bracket the place among the shelf's rows, and probe lies between them. Assumes nothing.
use Prim.Native.Nat.{suc, ◌-◌, ◌≤◌, ◌<◌, max}
use Rattle.rows.proofs.Places as places
use Rattle.shelf.specs.Shelf.{shelved}
use Rattle.shelf.proofs.seek_slot.Given as goal

abbrev pub invariant-slots : goal.invariant-slots
invariant-slots l = (l.low ≤ l.high) × (l.high ≤ l.n) × (l.low ≤ l.probe) × (l.probe < max (suc l.low) l.high) × places.Bracket l.k l.row (shelved l.slots l.order l.n) l.low l.high

abbrev pub decreases-slots : goal.decreases-slots
decreases-slots l = l.high - l.low
