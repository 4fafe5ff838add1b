-- `shelf::lay_out` meets its contract: the rows before place i are laid out. Assumes nothing.
use mathlib.Core.Path.{◌≡◌}
use mathlib.Core.List.{◌++◌}
use lib.ListN.{length, take, drop}
use Rattle.shelf.specs.Shelf.{shelved}
use Rattle.shelf.proofs.lay_out.Given as goal

abbrev pub invariant-loop-i : goal.invariant-loop-i
invariant-loop-i l = (length l.list ≡ length l.initial.list) × (l.list ≡ take l.i (shelved l.slots l.order l.n) ++ drop l.i l.initial.list)
