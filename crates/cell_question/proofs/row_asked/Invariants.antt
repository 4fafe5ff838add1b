-- `cell_question::row_asked` meets its contract: row by row down to the line. Assumes nothing.
use Prim.Native.Nat.{◌-◌}
use Rattle.cell_question.proofs.Walking.{Walking}
use Rattle.cell_question.proofs.row_asked.Given as goal

abbrev pub invariant-rows : goal.invariant-rows
invariant-rows l = Walking l.edition l.table l.line l.first l.bytes l.from l.i l.at

abbrev pub decreases-rows : goal.decreases-rows
decreases-rows l = l.line - l.i
