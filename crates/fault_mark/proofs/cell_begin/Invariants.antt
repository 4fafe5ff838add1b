-- `fault_mark::cell_begin` meets its contract: with each byte passed on, one cell less is left where that byte ends one. Assumes nothing.
use mathlib.Core.Path.{◌≡◌}
use Prim.Native.Nat.{◌+◌}
use lib.ListN.{drop}
use Rattle.cells.specs.declared.State.TheVariants.{Fresh}
use Rattle.fault_mark.specs.Marks.{begin_from}
use Rattle.fault_mark.proofs.cell_begin.Given as goal

abbrev pub invariant-loop-i : goal.invariant-loop-i
invariant-loop-i l = l.i + begin_from l.left l.state (drop l.i l.line) ≡ begin_from l.others Fresh l.line
