use Prim.Native.Nat.{◌≤◌}
use lib.ListN.{length, drop}
use Rattle.cells.specs.Cells.{cells}
use Rattle.cells.proofs.Marking.{Sofar}
use Rattle.fields.specs.Fields.{fields}
use Rattle.fields.proofs.fields_of.Given as goal

abbrev pub invariant-loop-i : goal.invariant-loop-i
invariant-loop-i l =
    Sofar 13 (cells (fields l.line)) l.bounds l.count l.i (cells (fields (drop l.i l.line))) × (l.count ≤ l.i) × (l.i ≤ length l.line)
