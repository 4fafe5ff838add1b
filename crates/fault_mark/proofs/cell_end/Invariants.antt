-- `fault_mark::cell_end` meets its contract: from each byte passed on, the cell ends where it does from the place. Assumes nothing.
use mathlib.Core.Path.{◌≡◌}
use Prim.Native.Nat.{◌+◌, ◌≤◌, max}
use lib.ListN.{length, drop}
use Rattle.cells.specs.declared.State.TheVariants.{Fresh}
use Rattle.fault_mark.specs.Marks.{size_from}
use Rattle.fault_mark.proofs.cell_end.Given as goal

abbrev pub invariant-loop-i : goal.invariant-loop-i
invariant-loop-i l = (l.i + size_from l.state (drop l.i l.line) ≡ l.from + size_from Fresh (drop l.from l.line)) × (l.i ≤ max l.from (length l.line))
