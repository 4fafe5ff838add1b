-- `shelf::number_slots` meets its contract: the slots before place i are numbered. Assumes nothing.
use mathlib.Core.Path.{◌≡◌}
use mathlib.Core.List.{◌++◌}
use lib.ListN.{drop}
use Rattle.shelf.specs.Shelf.{up_from}
use Rattle.shelf.proofs.number_slots.Given as goal

abbrev pub invariant-loop-i : goal.invariant-loop-i
invariant-loop-i l = (l.order ≡ up_from 0 l.i ++ drop l.i l.initial.order)
