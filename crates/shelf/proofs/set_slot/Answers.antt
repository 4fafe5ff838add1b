-- `shelf::set_slot` meets its contract: the slot at a place of the order is one of the slots. Assumes nothing.
use native.Mathlib.Omega.{arith}
use Rattle.shelf.proofs.Shelving.{slot_within}
use Rattle.shelf.proofs.set_slot.Goals as goal

pub bounds-slots-slot : goal.bounds-slots-slot
bounds-slots-slot c = rw c.from-slot.ensures (slot_within c.args.slots.now c.args.order.now c.args.n c.requires.0 c.args.at (omega (arith, c.requires.0.few)))
