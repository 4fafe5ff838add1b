-- `cells::cells_of` meets its contract: the cells found, and what the rest of the line is cut into, make up what the line is cut into. Assumes nothing.
use Prim.Native.Nat.{◌-◌, ◌≤◌}
use lib.ListN.{length, drop}
use Rattle.cells.specs.Cells.{cut}
use Rattle.cells.proofs.Marking.{Sofar}
use Rattle.cells.proofs.cells_of.Given as goal

abbrev pub invariant-cells : goal.invariant-cells
invariant-cells l =
    Sofar (length l.initial.bounds) (cut l.edition l.line) l.bounds l.n l.from (cut l.edition (drop l.from l.line)) × (l.n ≤ l.from) × (l.from ≤ length l.line)

abbrev pub decreases-cells : goal.decreases-cells
decreases-cells l = length l.line - l.from
