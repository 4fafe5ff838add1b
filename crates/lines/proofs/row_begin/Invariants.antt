-- `lines::row_begin` meets its contract: row by row, up to the line that is asked for. Assumes nothing.
use Prim.Native.Nat.{◌-◌}
use Rattle.lines.proofs.Starting.{Walked}
use Rattle.lines.proofs.row_begin.Given as goal

abbrev pub invariant-rows : goal.invariant-rows
invariant-rows l = Walked l.edition l.line l.text l.i l.at

abbrev pub decreases-rows : goal.decreases-rows
decreases-rows l = l.line - l.i
