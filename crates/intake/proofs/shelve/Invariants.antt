-- `intake::shelve` meets its contract: the rows before place i are copied. Assumes nothing.
use mathlib.Core.Path.{◌≡◌}
use mathlib.Core.List.{◌++◌}
use lib.ListN.{length, take, drop}
use Rattle.intake.proofs.shelve.Given as goal

abbrev pub invariant-loop-i : goal.invariant-loop-i
invariant-loop-i l = (length l.slots ≡ length l.initial.slots) × (l.slots ≡ take l.i l.table ++ drop l.i l.initial.slots)
