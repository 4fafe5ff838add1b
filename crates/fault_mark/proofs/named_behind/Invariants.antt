-- `fault_mark::named_behind` meets its contract: no cell that is passed names the column. Assumes nothing.
use mathlib.Core.Path.{◌≡◌}
use lib.ListN.{drop}
use Rattle.cells.specs.Cells.{cut, cells_of}
use Rattle.header.specs.Header.{header, place_from}
use Rattle.fault_mark.proofs.named_behind.Given as goal

abbrev pub invariant-loop-i : goal.invariant-loop-i
invariant-loop-i l = place_from l.i l.column (drop l.i (header l.edition l.t (cells_of (cut l.edition l.head)))) ≡ place_from l.behind l.column (drop l.behind (header l.edition l.t (cells_of (cut l.edition l.head))))
